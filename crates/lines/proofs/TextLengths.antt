-- How long a listing is: a line of a valid timetable has at most 20 bytes, its whole listing at most 81,928. Assumes nothing.
use mathlib.Core.Path.{◌≡◌}
use mathlib.Core.List.{List, [], ◌∷◌, ◌++◌}
use Prim.Native.Nat.{ℕ, zero, suc, ◌+◌, ◌*◌, ◌≤◌, ◌<◌}
use native.Mathlib.Omega.{arith}
use lib.Dec.{eqb}
use lib.ListN.{length, take, length-append}
use lib.Seq.{length-take-le}
use Rattle.rules.specs.declared.Entry.{Entry}
use Rattle.rules.specs.Tasks.{Set, limits, task, GoodSet}
use Rattle.rules.specs.Timetable.{entry_at, count, job_at, end_at, ValidTimetable}
use Rattle.rules.proofs.Cases.{by_bool, by_le}
use Rattle.rules.proofs.GoodSets.{good_rules}
use Rattle.rules.proofs.PriorityLaws.{due_in_cycle}
use Rattle.rules.proofs.ValidTimetables.{valid_length}
use Rattle.text.specs.Text.{space, line_end, number_then}
use Rattle.text.proofs.Lengths.{number_short}
use Rattle.lines.specs.Text.{line, entry_line, entry_lines, ok_line, listing_of}
use Rattle.lines.specs.Lists.{room}

-- a line, by its numbers
pub line_parts : (task job start end : ℕ) → length (line task job start end)
    ≡ length (number_then task space) + length (number_then job space) + length (number_then start space) + length (number_then end line_end)
unfolding line
line_parts task job start end =
    omega (
      arith,
      length-append (number_then task space) (number_then job space ++ (number_then start space ++ number_then end line_end)),
      length-append (number_then job space) (number_then start space ++ number_then end line_end),
      length-append (number_then start space) (number_then end line_end),
    )

-- the last line, by its number
pub ok_parts : (starts : ℕ) → length (ok_line starts) ≡ 3 + length (number_then starts line_end)
unfolding ok_line
ok_parts starts = omega arith

-- a line of a task of two digits, a job of four, a start and an end of five
line_short : (task job start end : ℕ) → task < 100 → job < 10000 → start < 100000 → end < 100000 → length (line task job start end) ≤ 20
line_short task job start end a b c d =
    omega (
      arith,
      line_parts task job start end,
      number_short 1 task space a,
      number_short 3 job space b,
      number_short 4 start space c,
      number_short 4 end line_end d,
    )

-- the last line, with four digits
ok_short : (starts : ℕ) → starts < 10000 → length (ok_line starts) ≤ 8
ok_short starts h = omega (arith, ok_parts starts, number_short 3 starts line_end h)

-- a task appears no more often than there are entries
pub count_few : (i : ℕ) (τ : List Entry) → count i τ ≤ length τ
count_few i [] = omega arith
count_few i (e ∷ τ) =
    by_bool (eqb e.task i) (λ b. rw b (omega (arith, count_few i τ))) (λ b. rw b (omega (arith, count_few i τ)))

-- lines of fewer entries are no longer
pub lines_within : (ts : Set) (τ : List Entry) (j m : ℕ) → j ≤ m → length (entry_lines ts τ j) ≤ length (entry_lines ts τ m)
lines_within ts τ j zero l = let e : j ≡ 0 = omega arith in rw e (omega arith)
lines_within ts τ j (suc m) l =
    by_le j m (λ k. omega (arith, lines_within ts τ j m k, length-append (entry_lines ts τ m) (entry_line ts τ m)))
    (λ k. let e : j ≡ suc m = omega arith in rw e (omega arith))

module _ {ts : Set} {h : ℕ} {τ : List Entry} (good : GoodSet ts h) (valid : ValidTimetable ts h τ) where
  -- a valid timetable has no more entries than a cycle may have jobs
  pub few_entries : length τ ≤ limits.jobs
  few_entries = omega (arith, valid_length valid, good.few_jobs)

  -- an entry's job number is below them
  pub job_low : (j : ℕ) → j < length τ → job_at τ j < limits.jobs
  job_low j l = omega (arith, few_entries, count_few (entry_at τ j).task (take j τ), length-take-le j τ (omega arith))

  -- an entry ends in the cycle
  pub end_low : (j : ℕ) → j < length τ → end_at ts τ j ≤ limits.ticks
  end_low j l =
      let i = (entry_at τ j).task in
      omega (arith, valid.in_time j l, due_in_cycle h (job_at τ j) (task ts i) (good_rules good i) (valid.not_too_many j l), good.short)

  -- so its line is short
  entry_line_short : (j : ℕ) → j < length τ → length (entry_line ts τ j) ≤ 20
  entry_line_short j l =
      line_short (entry_at τ j).task (job_at τ j) (entry_at τ j).start (end_at ts τ j)
      (omega (arith, valid.tasks_below_n j l, good.few_tasks)) (omega (arith, job_low j l)) (omega (arith, end_low j l)) (omega (arith, end_low j l))

  lines_short : (j : ℕ) → j ≤ length τ → length (entry_lines ts τ j) ≤ 20 * j
  lines_short zero l = omega arith
  lines_short (suc j) l =
      omega (arith, length-append (entry_lines ts τ j) (entry_line ts τ j), lines_short j (omega arith), entry_line_short j (omega arith))

  -- and the whole listing
  pub text_short : length (listing_of ts τ) ≤ room
  unfolding listing_of
  text_short =
      omega (
        arith,
        length-append (entry_lines ts τ (length τ)) (ok_line (length τ)),
        lines_short (length τ) (omega arith),
        ok_short (length τ) (omega (arith, few_entries)),
        few_entries,
      )
