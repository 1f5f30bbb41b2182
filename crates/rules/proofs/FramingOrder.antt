-- The order of framing's refusals: framing refuses an image exactly as the document's tests do, record by record, of each record's tests the first that
-- holds. Assumes nothing.
use mathlib.Core.Path.{◌≡◌, refl, sym, ◌∙◌, ap, subst}
use mathlib.Core.Logic.{◌↔◌}
use mathlib.Core.Bool.{true, false}
use mathlib.Core.List.{List, [], ◌∷◌, ◌++◌, map, Memᴰ}
use mathlib.Core.Option.{Option, none, some}
use Prim.Native.Nat.{ℕ, zero, suc, ◌+◌, ◌-◌, ◌≤◌, ◌<◌}
use native.Mathlib.Omega.{arith}
use lib.Dec.{leb, eqb}
use lib.ListN.{length, drop, length-drop, drop_of_length-le}
use borrow.Author.Tests.{leb-true, leb-false, le-leb, eqb-true, eqb-false}
use Rattle.rules.specs.declared.Place.{Place}
use Rattle.rules.specs.declared.Layout.{Layout}
use Rattle.rules.specs.declared.Refusal.{Refusal}
use Rattle.rules.specs.Refusals.{Judged, gives, refuses, refusal, or_else, then, unless, Test, test, First, no_test, holds, passes, refusal_in}
use Rattle.rules.specs.Tasks.{few_enough, limits}
use Rattle.rules.specs.Priority.{slot}
use Rattle.rules.specs.Marks.{Mark, TS, TK, EN, Class, head_class, end_class, row, size, values}
use Rattle.rules.specs.Framing.{start_place, layout_at, allowed, mark_at, head_fault, tasks_due, goes_on, ends, after, frame_records, index_of_end, frame, Allowed, Breaks, framing_tests, RefusesFraming, this_record, later_record}
use Rattle.rules.proofs.Cases.{clash, differ, by_le, both_true, both_in}
use Rattle.rules.proofs.Marked.{in_class, not_lower, turn_of, due_turn, later_turn, found_allowed, allowed_found, one_allowed}
use Rattle.rules.proofs.FramingTurns.{counted, After, past_head, bad_head, past_task, past_later, past_end, bad_end, by_after, moves, WholeAllowed, Frames, too_short, unmarked, cut_off, stops, goes, frames, frame_goes}
use Rattle.rules.proofs.FirstTests.{NoneHolds, none_holds, one_first, first_then, first_unless}

-- what holds at every place that framing reaches: TS is the first record, as many TK records are due as are missing, and behind them the index counts
-- the layout
record Reached (s : Place) : Type 0 where
  at_head : s.rank ≡ 0 → s.index ≡ 0
  at_tasks : s.rank ≡ 1 → (1 ≤ s.due) × (s.index + s.due ≡ suc s.tasks)
  behind_tasks : 2 ≤ s.rank → s.index ≡ index_of_end (layout_at EN s)

-- it holds at the start
start_reached : Reached start_place
start_reached = record { at_head = λ h. refl; at_tasks = λ h. absurd (omega arith); behind_tasks = λ h. absurd (omega arith) }

-- behind the tasks, where the index counts the layout
behind_reached : {s : Place} → 2 ≤ s.rank → s.index ≡ index_of_end (layout_at EN s) → Reached s
behind_reached late e = record { at_head = λ h. absurd (omega arith); at_tasks = λ h. absurd (omega arith); behind_tasks = λ h. e }

-- and where as many TK records are due as are missing
tasks_reached : (i o d n : ℕ) → i + d ≡ suc n → Reached (tasks_due i o d n)
tasks_reached i o zero n e = behind_reached (omega arith) (omega arith)
tasks_reached i o (suc d) n e = record {
  at_head = λ h. absurd (omega arith);
  at_tasks = λ h. (omega arith, omega arith);
  behind_tasks = λ h. absurd (omega arith);
}

-- so it holds behind every record
after_reached : {kind : ℕ} {s : Place} {m : Mark} {v : List ℕ} {t : Place} → Reached s → After kind s m v (goes_on t) → allowed kind s m ≡ true → Reached t
after_reached {kind} {s} {v = v} r (past_head h) a =
    let first-record = r.at_head (due_turn s.rank 0 (omega arith) (turn_of kind s TS a)) in
    tasks_reached (suc s.index) (s.offset + size TS) (slot v 2) (slot v 2) (omega arith)
after_reached {kind} {s} r past_task a =
    let d = r.at_tasks (due_turn s.rank 1 (omega arith) (turn_of kind s TK a)) in
    tasks_reached (suc s.index) (s.offset + size TK) (s.due - 1) s.tasks (omega arith)
after_reached {kind} {s} {m = m} r (past_later l e c) a =
    let i = r.behind_tasks (later_turn s.rank (row m).rank l (turn_of kind s m a)).0 in
    behind_reached (omega (arith, not_lower (row m))) (omega (arith, counted c))

-- what framing makes of the records up to EN, in an image of so many bytes: nothing may follow EN
abbrev finished : ℕ → Judged Layout → Judged Layout
finished whole z = then z (λ (l : Layout). or_else (unless (leb whole l.ended) 10 (index_of_end l)) (gives l))

-- where there is one, that is what framing answers
refusal_is : (z : Judged Layout) (r : Refusal) → refusal_in z ≡ some r → z ≡ refuses r
refusal_is (gives l) r e = clash (cc)
refusal_is (refuses q) r e = cc

-- where no condition holds, no test refuses
all_pass : (tests : List Test) → NoneHolds tests → First tests none
all_pass [] z = no_test
all_pass (t ∷ tests) z = passes z.0 (all_pass tests z.1)

module _ (kind : ℕ) (s : Place) (bytes : List ℕ) where
  -- the tests that come first for every record
  abbrev short_test : Test
  short_test = test 1 s.index (length bytes < 2)

  abbrev unmarked_test : Test
  unmarked_test = test 2 s.index ((m : Mark) → Allowed kind s bytes m → ⊥)

  abbrev cut_test : Test
  cut_test = test 1 s.index ((m : Mark) × Allowed kind s bytes m × (length bytes < size m))

  abbrev front_tests : List Test
  front_tests = short_test ∷ unmarked_test ∷ cut_test ∷ []

  -- the tests of the class head
  abbrev head_tests : List Test
  head_tests =
      test 3 s.index (Breaks kind s bytes head_class (λ m v. slot v 0 ≡ 1 → ⊥))
      ∷ test 4 s.index (Breaks kind s bytes head_class (λ m v. slot v 1 ≡ kind → ⊥))
      ∷ test 5 s.index (Breaks kind s bytes head_class (λ m v. (1 ≤ slot v 2) × (slot v 2 ≤ limits.tasks) → ⊥))
      ∷ []

  -- and that of the class end
  abbrev end_tests : List Test
  end_tests =
      test 10 s.index (Breaks kind s bytes end_class (λ m v. (slot v 0 ≡ s.index) × (drop (size m) bytes ≡ []) → ⊥)) ∷ []

module _ (kind : ℕ) (s : Place) (bytes : List ℕ) (m : Mark) (a : Allowed kind s bytes m) where
  -- a record that breaks a rule is this one
  breaks_here : {c : Class} {Broken : Mark → List ℕ → Type 0} → Breaks kind s bytes c Broken → ((row m).class ≡ c) × Broken m (values m bytes)
  breaks_here {c} {Broken} b =
      subst (λ (k : Mark). ((row k).class ≡ c) × Broken k (values k bytes)) (one_allowed kind s bytes b.mark m b.may a) (b.of_class, b.broken)

  not_broken : {c : Class} {Broken : Mark → List ℕ → Type 0} → Breaks kind s bytes c Broken → (Broken m (values m bytes) → ⊥) → ⊥
  not_broken b keeps = keeps (breaks_here b).1

  -- and this one may break a rule of its class
  this_breaks : {c : Class} {Broken : Mark → List ℕ → Type 0} → (row m).class ≡ c → Broken m (values m bytes) → Breaks kind s bytes c Broken
  this_breaks e b = record { mark = m; may = a; of_class = e; broken = b }

  -- a record of the class head is refused by the first of its tests that holds
  head_order : (row m).class ≡ head_class → First (head_tests kind s bytes) (head_fault kind s.index (values m bytes))
  head_order is =
      let v = values m bytes in
      first_then (first_unless (eqb (slot v 0) 1) 3 s.index (λ e b. not_broken b (λ f. f (eqb-true _ _ e))) (λ e. this_breaks is (eqb-false _ _ e)))
      (λ _. first_then
      (first_unless (eqb (slot v 1) kind) 4 s.index (λ e b. not_broken b (λ f. f (eqb-true _ _ e))) (λ e. this_breaks is (eqb-false _ _ e)))
      (λ _. first_unless (few_enough (slot v 2)) 5 s.index
      (λ e b. let c = both_true (leb 1 (slot v 2)) (leb (slot v 2) limits.tasks) e in not_broken b (λ f. f (leb-true _ _ c.0, leb-true _ _ c.1)))
      (λ e. this_breaks is (λ c. differ (sym (both_in _ _ (le-leb _ _ c.0) (le-leb _ _ c.1)) ∙ e)))))

  -- no record of another class is refused by them
  no_head : 0 < (row m).rank → First (head_tests kind s bytes) none
  no_head h =
      let not-head : (row m).class ≡ head_class → ⊥ = λ e. omega (arith, ap (λ (k : Mark). (row k).rank) (in_class m head_class e)) in
      all_pass (head_tests kind s bytes) (λ b. not-head (breaks_here b).0, (λ b. not-head (breaks_here b).0, (λ b. not-head (breaks_here b).0, tt)))

  -- nor by that of the class end
  no_end : (row m).rank < (row EN).rank → First (end_tests kind s bytes) none
  no_end h =
      let not_end : (row m).class ≡ end_class → ⊥ = λ e. omega (arith, ap (λ (k : Mark). (row k).rank) (in_class m end_class e)) in
      all_pass (end_tests kind s bytes) (λ b. not_end (breaks_here b).0, tt)

  -- a mark between them is refused by neither
  neither : 0 < (row m).rank → (row m).rank < (row EN).rank → First (head_tests kind s bytes ++ end_tests kind s bytes) none
  neither h k = first_then (no_head h) (λ _. no_end k)

module _ (kind : ℕ) (s : Place) (bytes : List ℕ) where
  -- a whole record with an allowed mark passes the tests that come before its own
  whole_order : (m : Mark) {o : Option Refusal} → WholeAllowed kind s bytes m → First (head_tests kind s bytes ++ end_tests kind s bytes) o →
      First (framing_tests kind s bytes) o
  whole_order m w own =
      let a = found_allowed kind s bytes m w.marked in
      let not_cut = w.not_cut in
      let front-passes : NoneHolds (front_tests kind s bytes) =
      (λ h. omega arith, (λ h. h m a, (λ h. omega (arith, ap size (one_allowed kind s bytes m h.0 a h.1)), tt))) in
      first_then (all_pass (front_tests kind s bytes) front-passes) (λ _. own)

-- a record that framing goes on behind passes all tests
goes_order : {kind : ℕ} {s : Place} {bytes : List ℕ} {m : Mark} {t : Place} → Allowed kind s bytes m → After kind s m (values m bytes) (goes_on t) →
    First (head_tests kind s bytes ++ end_tests kind s bytes) none
goes_order {kind} {s} {bytes = bytes} a (past_head h) =
    first_then (subst (First (head_tests kind s bytes)) h (head_order kind s bytes TS a refl)) (λ _. no_end kind s bytes TS a (omega arith))
goes_order {kind} {s} {bytes = bytes} a past_task = neither kind s bytes TK a (omega arith) (omega arith)
goes_order {kind} {s} {bytes = bytes} {m = m} a (past_later l e c) = neither kind s bytes m a (omega arith) e

module _ (kind : ℕ) (s : Place) (bytes : List ℕ) (two : 2 ≤ length bytes) where
  -- without an allowed mark, 2
  unmarked_order : mark_at kind s bytes ≡ none → First (framing_tests kind s bytes) (some (refusal 2 s.index))
  unmarked_order n =
      passes {t = short_test kind s bytes} (λ h. omega arith)
      (holds {t = unmarked_test kind s bytes} (λ m a. let c : none ≡ some m = sym n ∙ allowed_found kind s bytes m a in clash (cc)))

  -- with a cut body, 1
  cut_order : (m : Mark) → mark_at kind s bytes ≡ some m → length bytes < size m → First (framing_tests kind s bytes) (some (refusal 1 s.index))
  cut_order m n c =
      let a = found_allowed kind s bytes m n in
      passes {t = short_test kind s bytes} (λ h. omega arith)
      (passes {t = unmarked_test kind s bytes} (λ h. h m a) (holds {t = cut_test kind s bytes} (m, a, c)))

-- a refusal, or else a layout: the refusal is that one
refusal_or : (o : Option Refusal) (l : Layout) → o ≡ refusal_in (or_else o (gives l))
refusal_or none l = refl
refusal_or (some r) l = refl

-- EN's number is right: then its test asks whether anything follows
end_order : (kind : ℕ) (s : Place) (bytes : List ℕ) (whole : ℕ) → s.offset + length bytes ≡ whole → Allowed kind s bytes EN →
    slot (values EN bytes) 0 ≡ s.index → First (end_tests kind s bytes) (unless (leb whole (s.offset + size EN)) 10 s.index)
end_order kind s bytes whole e a n =
    first_unless (leb whole (s.offset + size EN)) 10 s.index
    (λ c g. let none_left : length bytes ≤ size EN = omega (arith, leb-true whole (s.offset + size EN) c) in
    not_broken kind s bytes EN a g (λ f. f (n, drop_of_length-le bytes none_left)))
    (λ c. this_breaks kind s bytes EN a refl (λ g. omega (arith, leb-false whole (s.offset + size EN) c, length-drop (size EN) bytes, ap length g.1)))

-- a record that ends framing: its own tests refuse as framing does
stops_order : {kind : ℕ} {s : Place} {bytes : List ℕ} {m : Mark} {z : Judged Layout} (whole : ℕ) → s.offset + length bytes ≡ whole → Reached s →
    Allowed kind s bytes m → After kind s m (values m bytes) (ends z) →
    First (head_tests kind s bytes ++ end_tests kind s bytes) (refusal_in (finished whole z))
stops_order {kind} {s} {bytes} whole e r a (bad_head h) =
    first_then (subst (First (head_tests kind s bytes)) h (head_order kind s bytes TS a refl)) (λ _. no_end kind s bytes TS a (omega arith))
stops_order {kind} {s} {bytes} whole e r a (past_end n) =
    let c = a.its_turn in
    let index : s.index ≡ index_of_end (layout_at EN s) = r.behind_tasks (later_turn s.rank 8 (omega arith) c).0 in
    let follows = leb whole (s.offset + size EN) in
    let its-order = first_then (no_head kind s bytes EN a (omega arith)) (λ _. end_order kind s bytes whole e a n) in
    subst (First (head_tests kind s bytes ++ end_tests kind s bytes))
    (ap (unless follows 10) index ∙ refusal_or (unless follows 10 (index_of_end (layout_at EN s))) (layout_at EN s)) its-order
stops_order {kind} {s} {bytes} whole e r a (bad_end n) =
    first_then (no_head kind s bytes EN a (omega arith)) (λ _. first_unless false 10 s.index (λ c. differ (sym c)) (λ _. this_breaks kind s bytes EN a refl (λ g. n g.0)))

-- what the tests make of an image from a place on: this record's first refusal, or a later record's
data Tests (kind whole : ℕ) : Place → List ℕ → Judged Layout → Type 1 where
  this : {s : Place} {bytes : List ℕ} {z : Judged Layout} → First (framing_tests kind s bytes) (refusal_in (finished whole z)) → Tests kind whole s bytes z
  later : {s t : Place} {bytes : List ℕ} {m : Mark} {z : Judged Layout} → First (framing_tests kind s bytes) none → Allowed kind s bytes m →
      after kind s m (values m bytes) ≡ goes_on t → Tests kind whole t (drop (size m) bytes) z → Tests kind whole s bytes z

-- the tests answer as framing does
tests_of : {kind : ℕ} {s : Place} {bytes : List ℕ} {z : Judged Layout} (whole : ℕ) → s.offset + length bytes ≡ whole → Reached s →
    Frames kind s bytes z → Tests kind whole s bytes z
tests_of whole e r (too_short h) = this (holds h)
tests_of whole e r (unmarked {s = s} {bytes = bytes} h n) = this (unmarked_order _ s bytes h n)
tests_of whole e r (cut_off {s = s} {bytes = bytes} {m = m} h n c) = this (cut_order _ s bytes h m n c)
tests_of {kind} whole e r (stops {s = s} {bytes = bytes} {m = m} w a) =
    this (whole_order kind s bytes m w (stops_order whole e r (found_allowed kind s bytes m w.marked) (by_after kind s m (values m bytes) a)))
tests_of {kind} whole e r (goes {s = s} {t = t} {bytes = bytes} {m = m} w a f) =
    let b = found_allowed kind s bytes m w.marked in
    let past = by_after kind s m (values m bytes) a in
    let offset : t.offset + length (drop (size m) bytes) ≡ whole = omega (arith, (moves past).1, w.not_cut, length-drop (size m) bytes) in
    later (whole_order kind s bytes m w (goes_order b past)) b a
    (tests_of whole offset (after_reached r past (both_in _ _ b.of_kind b.its_turn)) f)

-- what framing refuses, the tests refuse
tests_refuse : {kind whole : ℕ} {s : Place} {bytes : List ℕ} {z : Judged Layout} → Tests kind whole s bytes z → (r : Refusal) →
    finished whole z ≡ refuses r → RefusesFraming kind s bytes r
tests_refuse {kind} (this {s = s} {bytes = bytes} p) r e = this_record (subst (First (framing_tests kind s bytes)) (ap refusal_in e) p)
tests_refuse (later p a g q) r e = later_record p a g (tests_refuse q r e)

-- a test of this record that refuses is framing's refusal
this_refuses : {kind whole : ℕ} {s : Place} {bytes : List ℕ} {z : Judged Layout} → Tests kind whole s bytes z → (r : Refusal) →
    First (framing_tests kind s bytes) (some r) → finished whole z ≡ refuses r
this_refuses {whole = whole} {z = z} (this p) r q = refusal_is (finished whole z) r (one_first p q)
this_refuses (later p a g t) r q = let c : none ≡ some r = one_first p q in clash (cc)

-- and so is one of a later record
refuses_tests : {kind : ℕ} {s : Place} {bytes : List ℕ} {r : Refusal} → RefusesFraming kind s bytes r → (whole : ℕ) →
    s.offset + length bytes ≡ whole → Reached s → finished whole (frame_records kind s bytes) ≡ refuses r
refuses_tests {kind} (this_record {s = s} {bytes = bytes} {r = r} p) whole e w = this_refuses (tests_of whole e w (frames kind s bytes)) r p
refuses_tests {kind} (later_record {s = s} {t = t} {bytes = bytes} {m = m} p a g q) whole e w =
    let none-hold = none_holds p refl in
    let front : WholeAllowed kind s bytes m =
    record {
      marked = allowed_found kind s bytes m a;
      not_cut = by_le (size m) (length bytes) (λ h. h) (λ h. absurd (none-hold.1.1.0 (m, a, h)));
    } in
    let past = by_after kind s m (values m bytes) g in
    let offset : t.offset + length (drop (size m) bytes) ≡ whole = omega (arith, (moves past).1, front.not_cut, length-drop (size m) bytes) in
    ap (finished whole) (frame_goes kind s bytes m t front g)
    ∙ refuses_tests q whole offset (after_reached w past (both_in _ _ a.of_kind a.its_turn))

-- framing refuses as the document's tests do, and only so
pub framing_order : (kind : ℕ) (bytes : List ℕ) (r : Refusal) → (frame kind bytes ≡ refuses r) ↔ RefusesFraming kind start_place bytes r
framing_order kind bytes r =
    let whole : 0 + length bytes ≡ length bytes = omega arith in (
      λ e. tests_refuse (tests_of (length bytes) whole start_reached (frames kind start_place bytes)) r e,
      λ q. refuses_tests q (length bytes) whole start_reached,
    )

-- the number of a refusal is that of one of the tests
refused_number : {tests : List Test} {r : Refusal} → First tests (some r) → Memᴰ r.number (map (λ (t : Test). t.with_refusal.number) tests)
refused_number (holds c) = Memᴰ.head refl
refused_number (passes n p) = Memᴰ.tail (refused_number p)

-- 1 comes twice among them
each_once : {number : ℕ} → Memᴰ number (1 ∷ 2 ∷ 1 ∷ 3 ∷ 4 ∷ 5 ∷ 10 ∷ []) → Memᴰ number (1 ∷ 2 ∷ 3 ∷ 4 ∷ 5 ∷ 10 ∷ [])
each_once (Memᴰ.head e) = Memᴰ.head e
each_once (Memᴰ.tail (Memᴰ.head e)) = Memᴰ.tail (Memᴰ.head e)
each_once (Memᴰ.tail (Memᴰ.tail (Memᴰ.head e))) = Memᴰ.head e
each_once (Memᴰ.tail (Memᴰ.tail (Memᴰ.tail m))) = Memᴰ.tail (Memᴰ.tail m)

-- the numbers of the tests
test_numbers : {kind : ℕ} {s : Place} {bytes : List ℕ} {r : Refusal} → RefusesFraming kind s bytes r → Memᴰ r.number (1 ∷ 2 ∷ 3 ∷ 4 ∷ 5 ∷ 10 ∷ [])
test_numbers (this_record p) = each_once (refused_number p)
test_numbers (later_record p a g q) = test_numbers q

-- framing refuses with 1, 2, 3, 4, 5 or 10
pub framing_numbers : (kind : ℕ) (bytes : List ℕ) (r : Refusal) → frame kind bytes ≡ refuses r → Memᴰ r.number (1 ∷ 2 ∷ 3 ∷ 4 ∷ 5 ∷ 10 ∷ [])
framing_numbers kind bytes r e = test_numbers ((framing_order kind bytes r).0 e)
