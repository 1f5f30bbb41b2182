-- Replay and comparison in one pass: what the image comes to where replay of a cycle ends. Assumes nothing.
use mathlib.Core.Path.{◌≡◌, refl, ap}
use mathlib.Core.List.{List}
use Rattle.rules.specs.declared.Located.{Located}
use Prim.Native.Nat.{ℕ, ◌+◌, ◌*◌, ◌-◌, ◌/◌, ◌<◌}
use native.Mathlib.Nat.{mul-div_cancel}
use native.Mathlib.Omega.{arith}
use lib.ListN.{length}
use borrow.Author.Tests.{lt-ltb, le-ltb}
use Rattle.fields.specs.Number.{Bytes}
use Rattle.rules.specs.declared.Entry.{Entry}
use Rattle.rules.specs.declared.Offsets.{Offsets as OffsetsOf}
use Rattle.rules.specs.Refusals.{gives, refuses}
use Rattle.rules.specs.Tasks.{Set}
use Rattle.rules.specs.Setting.{Tables}
use Rattle.rules.specs.Judging.{judge_tables}
use Rattle.rules.specs.Marks.{ID, PV, size, head_count_of}
use Rattle.rules.specs.Offsets.{last_offset}
use Rattle.std.specs.Prelude.{Ok, Err}
use Rattle.rules.specs.Operations.{check_tables}
use Rattle.rules.specs.Located.{located, bare}
use Rattle.rules.specs.Image.{head_count, head_length, table_image}
use Rattle.rules.proofs.Cases.{by_eq, by_le}
use Rattle.rules.proofs.Images.{records_before, framed_tables}
use Rattle.rules.proofs.Locations.{run_located}
use Rattle.rules.proofs.RecordOffsets.{idles_begin, inversions_begin}
use Rattle.rules.proofs.ShownAt.{Stand}
use Rattle.rules.proofs.OffsetReplay.{first_inversion_offset}
use Rattle.rules.proofs.WastedRecords.{judged_unused, judged_wasted, judged_accepted}
use Rattle.sets.specs.declared.Kept.{Kept}
use Rattle.sets.specs.Kept.{tasks_in}
use Rattle.decision.specs.declared.Found.{Found}
use Rattle.replay.specs.Runs.{Ends, cycle_of}
use Rattle.replay.proofs.Cycles.{CycleDone, cycle_stand, cycle_stuck, cycle_done}
use Rattle.tables.specs.Replayed.{behind_idles, Ended, unused_at, CanCompare}

-- how many records of one size lie before an offset
quotient : (offset from records length₀ : ℕ) → 0 < length₀ → offset ≡ from + records * length₀ → (offset - from) / length₀ ≡ records
quotient offset from records length₀ positive e =
    let gone : offset - from ≡ records * length₀ = omega arith in rw gone (mul-div_cancel records positive)

-- an image that may be replayed, and what replay of its cycle comes to
module _ {ts : Set} {bytes : List ℕ} {kept : Kept} {idles : ℕ} {first : OffsetsOf} (are-bytes : Bytes bytes)
    (given : CanCompare ts bytes kept idles first) where
  -- the tables that are replayed, and the run through the cycle
  abbrev X : Tables
  X = given.can.tables

  abbrev run : Ends
  run = cycle_of ts bytes kept first

  -- a refusal of the tables is told
  refused_so : (r : Located) → judge_tables ts X ≡ refuses (bare r) → r ≡ located bytes (bare r) → Err r ≡ check_tables bytes
  unfolding check_tables
  refused_so r e there = rw (given.can.read, e) (ap Err there)

  -- and that there is none
  accepted_so : (τ : List Entry) → judge_tables ts X ≡ gives τ → Ok tt ≡ check_tables bytes
  unfolding check_tables
  accepted_so τ e = rw (given.can.read, e)

  -- the cycle is stuck: 18 at the number of starts
  pub replay_at_late : (number : ℕ) → run.last ≡ Err number → Err (record { number = 18; place = length run.entries; offset = 0 }) ≡ check_tables bytes
  replay_at_late number e = refused_so _ (cycle_stuck are-bytes given.can number e) refl

  -- its bytes are those of the set and the tables
  is_image : bytes ≡ table_image ts X
  is_image = (framed_tables bytes are-bytes (record { set = ts; tables = X }) given.can.read).1

  -- the tables stand in the image
  stand : Stand bytes ts X (records_before ts X)
  stand = cycle_stand are-bytes given.can

  -- the first ID, PV or EN is behind the tasks
  first_idle : first.idle ≡ head_length ts
  first_idle = ap (λ (o : OffsetsOf). o.idle) given.can.first_is

  -- the first PV, or EN, is behind the ID records
  inversions_behind : behind_idles first.idle idles ≡ first_inversion_offset ts X
  inversions_behind = omega (arith, first_idle, given.idle_records)

  module _ (f : Found) (e : run.last ≡ Ok f) where
    -- all starts are found: where replay ended
    done : CycleDone bytes ts X run.entries f.idle run.wasted
    done = cycle_done are-bytes given.can f e

    -- where the offsets lie then
    pub replay_at_ends : Ended (head_count_of (tasks_in kept)) idles first.idle f.idle run.wasted
    replay_at_ends = record {
      few = omega (arith, given.can.keeps.few);
      short = omega (arith, inversions_behind, stand.short);
      idle_behind = omega (arith, first_idle, done.replays.idle_offset);
      wasted_behind = λ used some-wasted.
          let (q, bound, there, judged) =
          judged_wasted stand given.can.good done.replays done.keeps done.wastes done.all (omega (arith, inversions_behind)) (λ u. omega arith) in
          omega (arith, inversions_behind, there);
    }

    -- and 19, or nothing, is told of them
    pub replay_at_done : unused_at (head_count_of (tasks_in kept)) idles first.idle f.idle run.wasted ≡ check_tables bytes
    unfolding unused_at
    replay_at_done =
        let good = given.can.good in
        let R = done.replays in
        let K = done.keeps in
        let W = done.wastes in
        let all = done.all in
        let behind : ℕ = behind_idles first.idle idles in
        let idle : ℕ = f.idle in
        let wasted : ℕ = run.wasted in
        by_le behind idle
        (λ used. rw (le-ltb idle behind used)
        (by_eq wasted last_offset
        (λ u. rw (le-ltb wasted last_offset (omega arith))
        (accepted_so run.entries (judged_accepted stand good R K W all (omega (arith, inversions_behind)) u)))
        (λ u.
        let (q, bound, there, judged) = judged_wasted stand good R K W all (omega (arith, inversions_behind)) u in
        let low : wasted < last_offset = omega (arith, there, stand.short) in
        let place : head_count_of (tasks_in kept) + idles + (wasted - behind) / size PV ≡ head_count ts + length X.idles + q =
        omega (
          arith,
          quotient wasted behind q (size PV) (omega arith) (omega (arith, inversions_behind, there)),
          given.can.keeps.n_tasks,
          given.idle_records,
        ) in
        rw (lt-ltb wasted last_offset low, place)
        (refused_so _ judged
        (run_located bytes 19 refl (head_count ts + length X.idles) (first_inversion_offset ts X) PV (length X.inversions)
        (inversions_begin bytes ts X is_image) q (omega (arith, bound)) _ wasted refl there)))))
        (λ unused.
        let (q, bound, there, judged) = judged_unused stand good R K W all (omega (arith, inversions_behind)) in
        let place : head_count_of (tasks_in kept) + (idle - first.idle) / size ID ≡ head_count ts + q =
        omega (arith, quotient idle first.idle q (size ID) (omega arith) (omega (arith, first_idle, there)), given.can.keeps.n_tasks) in
        rw (lt-ltb idle behind unused, place)
        (refused_so _ judged
        (run_located bytes 19 refl (head_count ts) (head_length ts) ID (length X.idles) (idles_begin bytes ts X is_image) q (omega (arith, bound)) _ idle refl there)))
