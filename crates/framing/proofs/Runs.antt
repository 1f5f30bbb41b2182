-- Records with one mark that stand one behind the other: how they are counted, and that framing comes to the place behind them. Assumes nothing.
use mathlib.Core.Path.{◌≡◌, refl, sym, ◌∙◌, ap, ap₂, subst}
use mathlib.Core.Bool.{true, false}
use mathlib.Core.List.{List}
use mathlib.Core.Option.{some}
use Prim.Native.Nat.{ℕ, zero, suc, ◌+◌, ◌-◌, ◌*◌, ◌≤◌, ◌<◌}
use native.Mathlib.Nat.{zero-mul, suc-mul}
use native.Mathlib.Numerals.{add-one}
use native.Mathlib.Omega.{arith}
use borrow.Author.Tests.{leb-true, eqb-true}
use lib.Dec.{leb, eqb}
use lib.ListN.{length, get_or, drop}
use lib.Seq.{drop-drop}
use Rattle.rules.specs.declared.Place.{Place}
use Rattle.rules.specs.Marks.{Mark, TK, ID, PV, row, size, front_mark, values}
use Rattle.rules.specs.Framing.{in_kind, may_follow, least_behind, rank_due, tasks_due, after_later, after, goes_on, frame_records}
use Rattle.rules.proofs.Cases.{by_bool, by_nat, by_eq, by_le, both_true}
use Rattle.rules.proofs.Marked.{behind_once, behind_many, mark_front, found_allowed, allowed_found}
use Rattle.rules.proofs.FramingTurns as turns
use Rattle.rules.proofs.Shapes.{in_later_turn}
use Rattle.images.specs.declared.Row.{Row}
use Rattle.images.specs.Table.{code_row, stands_at}
use Rattle.images.proofs.TableLaws.{stands_whole}
use Rattle.framing.specs.Frames.{behind_run, Reached, RunOf, TowardsTasks, TasksPassed, BehindTasks}
use Rattle.framing.proofs.PlaceLaws.{rank_due_is, place_path, placed_after}
use Rattle.framing.proofs.TaskLaws.{towards_due}

-- at first none is counted
pub none_run : (bytes : List ℕ) (from : ℕ) (m : Mark) (most : ℕ) → from ≤ length bytes → (from ≡ from + 0 * size m) × RunOf bytes from m most 0
none_run bytes from m most h =
    let no_bytes = zero-mul (size m) in
    (omega arith, record { asked = omega arith; inside = omega arith; stand = λ j l. absurd (omega arith) })

-- then one more that stands behind those counted
pub one_more : (bytes : List ℕ) (from : ℕ) (m : Mark) (most many at len : ℕ) → len ≡ size m → at ≡ from + many * size m →
    RunOf bytes from m most many → many < most → stands_at bytes at m ≡ true →
    (at + len ≡ from + (many + 1) * size m) × RunOf bytes from m most (many + 1)
one_more bytes from m most many at len e here run few stands =
    let longer : (many + 1) * size m ≡ many * size m + size m = rw add-one (suc-mul many (size m)) in
    let whole = stands_whole bytes at m stands in (
      omega arith,
      record {
        asked = omega arith;
        inside = omega arith;
        stand = λ j l. by_eq j many (λ e. rw (e, ← here) stands) (λ n. run.stand j (omega arith));
      },
    )

-- a whole record in its turn that stands at a place leads framing to the place behind it
module _ {kind : ℕ} {bytes : List ℕ} {s : Place} (m : Mark) (re : Reached kind bytes s) (of_kind : in_kind kind (row m) ≡ true)
    (turn : may_follow s.rank (row m).rank ≡ true) (stands : stands_at bytes s.offset m ≡ true) where
  -- the bytes from the place on
  abbrev rest : List ℕ
  rest = drop s.offset bytes

  -- it is allowed here
  here : turns.WholeAllowed kind s rest m
  unfolding stands_at
  here =
      let a = both_true (leb (size m) (length rest)) _ stands in
      let b = both_true (eqb (get_or rest 0 0) (row m).byte₁) (eqb (get_or rest 1 0) (row m).byte₂) a.1 in
      record {
        marked = allowed_found kind s rest m
            (record { first_byte = eqb-true _ _ b.0; second_byte = eqb-true _ _ b.1; of_kind = of_kind; its_turn = turn });
        not_cut = leb-true (size m) (length rest) a.0;
      }

  -- and is the mark there
  front : front_mark rest ≡ some m
  front = let a = found_allowed kind s rest m here.marked in mark_front rest m a.first_byte a.second_byte

  -- framing comes to the place behind it
  pub past_record : (t : Place) → after kind s m (values m rest) ≡ goes_on t → Reached kind bytes t
  past_record t goes =
      let behind = turns.by_after kind s m (values m rest) goes in
      record {
        placed = placed_after bytes re.placed front (stands_whole bytes s.offset m stands) turn behind;
        same = re.same ∙ turns.frame_goes kind s rest m t here goes
            ∙ ap (frame_records kind t) (drop-drop (size m) s.offset bytes ∙ ap (λ (i : ℕ). drop i bytes) (sym (turns.moves behind).1));
      }

-- places one record apart, each in the turn of the record behind it
pub record Apart (kind : ℕ) (m : Mark) (from many : ℕ) (place : ℕ → Place) : Type 0 where
  pub at : (j : ℕ) → (place j).offset ≡ from + j * size m
  pub in_turn : (j : ℕ) → j < many → may_follow (place j).rank (row m).rank ≡ true
  pub leads : (j : ℕ) → j < many → (v : List ℕ) → after kind (place j) m v ≡ goes_on (place (suc j))

-- so framing comes to the place behind all records of a run
pub past_run : {kind : ℕ} {bytes : List ℕ} (m : Mark) (from many : ℕ) (place : ℕ → Place) → in_kind kind (row m) ≡ true →
    Apart kind m from many place → ((j : ℕ) → j < many → stands_at bytes (from + j * size m) m ≡ true) → Reached kind bytes (place 0) →
    (i : ℕ) → i ≤ many → Reached kind bytes (place i)
past_run m from many place of_kind a stand re zero h = re
past_run m from many place of_kind a stand re (suc i) h =
    past_record m (past_run m from many place of_kind a stand re i (omega arith)) of_kind (a.in_turn i (omega arith))
    (rw (a.at i) (stand i (omega arith))) (place (suc i)) (a.leads i (omega arith) _)

-- every kind of image has TK
every_kind : (kind : ℕ) → in_kind kind (row TK) ≡ true
every_kind kind = by_bool (eqb kind 1) (λ e. rw (e, in_kind)) (λ e. rw (e, in_kind))

-- the place behind so many tasks that are due
abbrev tasks_behind : Place → ℕ → Place
tasks_behind s j = tasks_due (s.index + j) (s.offset + j * size TK) (s.due - j) s.tasks

-- a run of TK records that are due leads on to the place behind them
module _ {kind : ℕ} {bytes : List ℕ} {s : Place} (re : Reached kind bytes s) (w : TowardsTasks bytes s) (some-due : 1 ≤ s.due) where
  -- a task is due here
  is_due : s.rank ≡ 1
  is_due =
      by_le 2 s.rank (λ h. absurd (omega (arith, w.none_due h)))
      (λ h. by_nat s.rank (λ z. absurd (omega (arith, w.first z))) (λ r z. omega arith))

  -- the place is the one behind none of them
  from_here : s ≡ tasks_behind s 0
  from_here =
      place_path s (tasks_behind s 0) (omega arith) (omega arith) (omega (arith, is_due, rank_due_is (s.due - 0))) (omega arith) refl
      w.nothing_listed.0 w.nothing_listed.1

  module _ {many : ℕ} (run : RunOf bytes s.offset TK s.due many) where
    -- each of them leads to the next
    tasks_apart : Apart kind TK s.offset many (tasks_behind s)
    tasks_apart = record {
      at = λ j. refl;
      in_turn = λ j l. let due : rank_due (s.due - j) ≡ 1 = omega (arith, rank_due_is (s.due - j), run.asked) in rw due;
      leads = λ j l v.
          let fewer : s.due - j - 1 ≡ s.due - suc j = omega arith in
          ap goes_on (place_path _ (tasks_behind s (suc j)) (omega arith) (omega arith) (ap rank_due fewer) fewer refl refl refl);
    }

    -- framing comes to the place behind them, which is on the way and not before this one
    pub tasks_passed : {due : ℕ} → due ≡ s.due - many →
        TasksPassed kind bytes s (tasks_due (s.index + many) (s.offset + many * size TK) due s.tasks)
    tasks_passed e =
        let a = w.announced (omega (arith, is_due)) in
        let b = w.counted (omega (arith, is_due)) in
        let few = run.asked in
        rw e
        (record {
          reached = past_run TK s.offset many (tasks_behind s) (every_kind kind) tasks_apart run.stand
              (subst (λ (p : Place). Reached kind bytes p) from_here re) many (omega arith);
          towards = towards_due bytes (s.index + many) (s.offset + many * size TK) (s.due - many) s.tasks a.0 a.1 a.2 (omega arith) (omega arith);
          onwards = omega arith;
        })

-- the rank behind a record, with the row that was read
module _ (m : Mark) {r : Row} (read : r ≡ code_row m) where
  pub once_rank : r.once ≡ true → r.rank + 1 ≡ least_behind (row m)
  once_rank e = ap (λ (q : Row). q.rank + 1) read ∙ add-one (row m).rank ∙ behind_once (row m) (rw read at e)

  pub own_rank : r.once ≡ false → r.rank ≡ least_behind (row m)
  own_rank e = ap (λ (q : Row). q.rank) read ∙ behind_many (row m) (rw read at e)

-- the place behind a run, as the code makes it
module _ (m : Mark) (s : Place) {many : ℕ} (listed inversions : ℕ) where
  pub none_passed : many ≡ 0 → s ≡ behind_run m s many listed inversions
  unfolding behind_run
  none_passed e = rw e

  pub some_passed : {r : Row} {rank : ℕ} → r ≡ code_row m → (many ≡ 0 → ⊥) → rank ≡ least_behind (row m) →
      record {
        index = s.index + many;
        offset = s.offset + many * r.size;
        rank = rank;
        due = s.due;
        tasks = s.tasks;
        listed = listed;
        inversions = inversions;
      } ≡ behind_run m s many listed inversions
  unfolding behind_run
  some_passed read n e = by_nat many (λ z. absurd (n z)) (λ j z. rw (read, e, z))

-- records with one mark between the tasks and EN, which may stand one behind the other: what is counted behind so many of them
pub record Counted (kind : ℕ) (m : Mark) (s : Place) (listed inversions : ℕ → ℕ) : Type 0 where
  pub of_kind : in_kind kind (row m) ≡ true
  pub again : (row m).once ≡ false
  pub none_yet : (s.listed ≡ listed 0) × (s.inversions ≡ inversions 0)
  pub goes : (t : Place) (j : ℕ) (v : List ℕ) → t.listed ≡ listed j → t.inversions ≡ inversions j →
      after kind t m v ≡ goes_on (after_later m t (listed (suc j)) (inversions (suc j)))

-- behind the tasks each of the places behind them leads to the next
module _ (kind : ℕ) (m : Mark) (s : Place) (listed inversions : ℕ → ℕ) (c : Counted kind m s listed inversions) (behind : 2 ≤ s.rank)
    (low : s.rank ≤ (row m).rank) where
  abbrev place : ℕ → Place
  place j = behind_run m s j (listed j) (inversions j)

  run_apart : (many : ℕ) → Apart kind m s.offset many place
  unfolding behind_run
  run_apart many = record {
    at = at;
    in_turn = λ j h. turn j;
    leads = λ j h v. c.goes (place j) j v (counted j).0 (counted j).1 ∙ ap goes_on (next j);
  }
    where
      own : (row m).rank ≡ least_behind (row m)
      own = behind_many (row m) c.again

      at : (j : ℕ) → (place j).offset ≡ s.offset + j * size m
      at zero = omega (arith, zero-mul (size m))
      at (suc j) = refl

      turn : (j : ℕ) → may_follow (place j).rank (row m).rank ≡ true
      turn zero = in_later_turn s.rank (row m).rank behind low
      turn (suc j) = in_later_turn (least_behind (row m)) (row m).rank (omega (arith, own)) (omega (arith, own))

      counted : (j : ℕ) → ((place j).listed ≡ listed j) × ((place j).inversions ≡ inversions j)
      counted zero = c.none_yet
      counted (suc j) = (refl, refl)

      next : (j : ℕ) → after_later m (place j) (listed (suc j)) (inversions (suc j)) ≡ place (suc j)
      next zero = place_path _ (place 1) (omega arith) (omega (arith, suc-mul 0 (size m), zero-mul (size m))) refl refl refl refl refl
      next (suc j) = place_path _ (place (suc (suc j))) (omega arith) (omega (arith, suc-mul (suc j) (size m))) refl refl refl refl refl

  -- so framing comes to the place behind a run of them
  pub run_passed : {bytes : List ℕ} (most many : ℕ) → Reached kind bytes s → RunOf bytes s.offset m most many →
      Reached kind bytes (behind_run m s many (listed many) (inversions many))
  unfolding behind_run
  run_passed most many re run = past_run m s.offset many place c.of_kind (run_apart many) run.stand re many (omega arith)

-- in an image of tables, from the place behind the tasks on: ID records, behind which PV records may stand
idles_rank : (s : Place) (many listed inversions : ℕ) → s.rank ≡ 2 →
    (2 ≤ (behind_run ID s many listed inversions).rank) × ((behind_run ID s many listed inversions).rank ≤ (row PV).rank)
unfolding behind_run
idles_rank s zero listed inversions h = omega arith
idles_rank s (suc many) listed inversions h = omega arith

pub behind_idles : {bytes : List ℕ} {s t : Place} → Reached 2 bytes s × BehindTasks bytes s → {most many : ℕ} → RunOf bytes s.offset ID most many →
    t ≡ behind_run ID s many (s.listed + many) s.inversions → Reached 2 bytes t × (2 ≤ t.rank) × (t.rank ≤ (row PV).rank)
behind_idles {s = s} tasks {most} {many} run e =
    let rank = idles_rank s many (s.listed + many) s.inversions tasks.1.rank in
    let counted : Counted 2 ID s (λ j. s.listed + j) (λ j. s.inversions) = record {
      of_kind = refl;
      again = refl;
      none_yet = (omega arith, refl);
      goes = λ t j v p q. ap₂ (λ (x y : ℕ). goes_on (after_later ID t x y)) (omega arith) q;
    } in
    rw e (run_passed 2 ID s _ _ counted (omega (arith, tasks.1.rank)) (omega (arith, tasks.1.rank)) most many tasks.0 run, rank.0, rank.1)

pub inversions_passed : {bytes : List ℕ} {s : Place} → Reached 2 bytes s → 2 ≤ s.rank → s.rank ≤ (row PV).rank → (most many : ℕ) →
    RunOf bytes s.offset PV most many → Reached 2 bytes (behind_run PV s many s.listed (s.inversions + many))
inversions_passed {s = s} re behind low most many run =
    run_passed 2 PV s (λ (j : ℕ). s.listed) (λ (j : ℕ). s.inversions + j)
    (record {
      of_kind = refl;
      again = refl;
      none_yet = (refl, omega arith);
      goes = λ t j v p q. ap₂ (λ (x y : ℕ). goes_on (after_later PV t x y)) p (omega arith);
    })
    behind low most many re run
