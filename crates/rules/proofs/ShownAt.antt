-- Records that stand in bytes, one after the other, are shown at their byte offsets. Assumes nothing.
use mathlib.Core.Path.{◌≡◌, sym, ◌∙◌, ap}
use mathlib.Core.Bool.{true, false}
use mathlib.Core.List.{List, [], ◌∷◌, ◌++◌, map}
use mathlib.Core.Option.{some}
use Prim.Native.Nat.{ℕ, zero, suc, ◌+◌, ◌*◌, ◌-◌, ◌≤◌, ◌<◌}
use native.Mathlib.Nat.{add-zero, zero-add}
use native.Mathlib.Omega.{arith}
use lib.Dec.{ltb}
use lib.ListN.{length, drop, replicate, length-append}
use lib.Seq.{drop-drop}
use borrow.Author.Tests.{ltb-true, ltb-false, lt-ltb, le-leb}
use Rattle.fields.specs.Body.{Fit}
use Rattle.rules.specs.declared.Idle.{Idle}
use Rattle.rules.specs.declared.Inversion.{Inversion}
use Rattle.rules.specs.Tasks.{Set, limits, hyperperiod}
use Rattle.rules.specs.Setting.{Tables}
use Rattle.rules.specs.Priority.{slot}
use Rattle.rules.specs.Irregularities.{at_most}
use Rattle.rules.specs.Judging.{inversion_in_range}
use Rattle.rules.specs.Marks.{Mark, ID, PV, EN, row, size, values}
use Rattle.rules.specs.Image.{Record, record_of, written, image, of_idle, of_inversion, records, end_record, Each, head_length}
use Rattle.rules.specs.Offsets.{shows, last_offset, whole_record, record_at, lent, lower_before, inversion_offset, inversion_offsets, first_offsets}
use Rattle.rules.proofs.Cases.{by_bool, by_eq}
use Rattle.rules.proofs.Theory.{Rising}
use Rattle.rules.proofs.Pairs.{at_most_lt, at_most_le, at_most_true}
use Rattle.rules.proofs.Derived.{Every}
use Rattle.rules.proofs.Marked.{mark_found}
use Rattle.rules.proofs.Framed.{written_length, values_written, behind_written}
use Rattle.rules.proofs.Records.{RecordsKeepRules}
use Rattle.rules.proofs.Shown.{ShowsIdles, no_idle, an_idle, ShowsInversions, no_inversion, an_inversion, from}

-- a record of a lower task stands before a task's first job
pub is_lower : (i : ℕ) (r : Inversion) → r.task < i → at_most i 0 r.task r.job ≡ false
is_lower i r l =
    by_bool (at_most i 0 r.task r.job)
    (λ b. at_most_true i 0 r.task r.job b (λ u. absurd (omega arith)) (λ u v. absurd (omega arith))) (λ b. b)

-- and a record of the task or of a higher one does not
pub is_not_lower : (i : ℕ) (r : Inversion) → i ≤ r.task → at_most i 0 r.task r.job ≡ true
is_not_lower i r l =
    by_eq i r.task (λ e. at_most_le i 0 r.task r.job e (omega arith)) (λ e. at_most_lt i 0 r.task r.job (omega arith))

-- what stands in an image from the first of its PV records on, up to EN with its count
abbrev pub from_inversions : ℕ → List Inversion → List Record
from_inversions n p = records PV (map of_inversion p) ++ end_record n

-- from the first of its ID records on
abbrev pub from_idles : ℕ → List Idle → List Inversion → List Record
from_idles n idles p = records ID (map of_idle idles) ++ from_inversions n p

module _ (bytes : List ℕ) where
  -- a record that stands at an offset and ends by the last one is read there
  module _ (o : ℕ) (m : Mark) (v rest : List ℕ) (here : drop o bytes ≡ written (record_of m v) ++ rest) (ends : o + size m ≤ last_offset) where
    record_read : record_at bytes o ≡ some (record_of m (values m (written (record_of m v) ++ rest)))
    unfolding record_at
    record_read =
        let long : size m ≤ length (written (record_of m v) ++ rest) =
        omega (arith, length-append (written (record_of m v)) rest, written_length m v) in
        rw (here, mark_found m) (rw (le-leb (size m) _ long, le-leb (o + size m) last_offset ends, whole_record))

    -- with the values that were written, where they fit
    record_there : Fit (row m).widths v → record_at bytes o ≡ some (record_of m v)
    record_there fit = record_read ∙ ap (λ (w : List ℕ). some (record_of m w)) (values_written m v rest fit)

    -- and what stands behind it
    stands_behind : drop (o + size m) bytes ≡ rest
    stands_behind = sym (drop-drop (size m) o bytes) ∙ rw here (behind_written m v rest)

  module _ (ts : Set) (n : ℕ) where
    -- PV records up to EN
    shows_inversions : (p : List Inversion) (o : ℕ) → drop o bytes ≡ image (from_inversions n p) → o + (length p * size PV + size EN) ≤ last_offset →
        Each (row PV).widths (map of_inversion p) → Every (inversion_in_range ts (hyperperiod ts)) p → ShowsInversions (lent bytes ts) o p
    shows_inversions [] o here ends fit range = no_inversion {o = o} (rw (record_read o EN (n ∷ []) [] here (omega arith)))
    shows_inversions (r ∷ p) o here ends fit range =
        let rest : List ℕ = image (from_inversions n p) in
        let shown : (lent bytes ts).inversion_shown o ≡ shows r (o + size PV) =
        rw (record_there o PV (of_inversion r) rest here (omega arith) fit.0, range.0) in
        an_inversion shown
        (shows_inversions p (o + size PV) (stands_behind o PV (of_inversion r) rest here (omega arith)) (omega arith) fit.1 range.1)

    -- ID records up to the first PV or EN
    shows_idles : (idles : List Idle) (p : List Inversion) (o earliest : ℕ) → drop o bytes ≡ image (from_idles n idles p) →
        o + (length idles * size ID + (length p * size PV + size EN)) ≤ last_offset → Each (row ID).widths (map of_idle idles) →
        Each (row PV).widths (map of_inversion p) → Rising (hyperperiod ts) earliest idles → Every (inversion_in_range ts (hyperperiod ts)) p →
        ShowsIdles (lent bytes ts) o idles
    shows_idles [] [] o earliest here ends fit pv-fit range pv-range = no_idle {o = o} (rw (record_read o EN (n ∷ []) [] here (omega arith)))
    shows_idles [] (r ∷ p) o earliest here ends fit pv-fit range pv-range =
        no_idle {o = o} (rw (record_there o PV (of_inversion r) (image (from_inversions n p)) here (omega arith) pv-fit.0, pv-range.0))
    shows_idles (r ∷ idles) p o earliest here ends fit pv-fit range pv-range =
        let rest : List ℕ = image (from_idles n idles p) in
        let shown : (lent bytes ts).idle_shown o ≡ shows r (o + size ID) =
        rw (
          record_there o ID (of_idle r) rest here (omega arith) fit.0,
          le-leb 1 r.length range.1,
          lt-ltb (r.start + r.length) (hyperperiod ts) range.2,
        ) in
        an_idle shown
        (shows_idles idles p (o + size ID) (suc (r.start + r.length)) (stands_behind o ID (of_idle r) rest here (omega arith)) (omega arith) fit.1
        pv-fit range.3 pv-range)

    -- the records of task i and of higher ones, behind those of lower tasks
    shows_from : (i : ℕ) (p : List Inversion) (o : ℕ) → drop o bytes ≡ image (from_inversions n p) → o + (length p * size PV + size EN) ≤ last_offset →
        Each (row PV).widths (map of_inversion p) → Every (inversion_in_range ts (hyperperiod ts)) p →
        ShowsInversions (lent bytes ts) (o + lower_before i p * size PV) (from i 0 p)
    shows_from i [] o here ends fit range = rw (add-zero o) (shows_inversions [] o here ends fit range)
    shows_from i (r ∷ p) o here ends fit range =
        by_bool (ltb r.task i)
        (λ b.
        let e : o + suc (lower_before i p) * size PV ≡ o + size PV + lower_before i p * size PV = omega arith in
        rw (b, lower_before) (rw (is_lower i r (ltb-true r.task i b), e, from)
        (shows_from i p (o + size PV) (stands_behind o PV (of_inversion r) (image (from_inversions n p)) here (omega arith)) (omega arith) fit.1
        range.1)))
        (λ b. rw (b, lower_before) (rw (is_not_lower i r (ltb-false r.task i b), from, add-zero o) (shows_inversions (r ∷ p) o here ends fit range)))

-- each task's first offset stands in its slot
pub slot_first : (ts : Set) (X : Tables) (i many k : ℕ) (rest : List ℕ) → k < many →
    slot (inversion_offsets ts X i many ++ rest) k ≡ inversion_offset ts X (i + k)
slot_first ts X i zero k rest h = absurd (omega arith)
slot_first ts X i (suc many) zero rest h = ap (inversion_offset ts X) (omega arith)
slot_first ts X i (suc many) (suc k) rest h = slot_first ts X (suc i) many k rest (omega arith) ∙ ap (inversion_offset ts X) (omega arith)

-- tables that stand behind the tasks, with records that keep their rules, and that end by the last offset
pub record Stand (bytes : List ℕ) (ts : Set) (X : Tables) (n : ℕ) : Type 0 where
  pub idles_there : drop (head_length ts) bytes ≡ image (from_idles n X.idles X.inversions)
  pub inversions_there : drop (head_length ts + length X.idles * size ID) bytes ≡ image (from_inversions n X.inversions)
  pub idles_fit : Each (row ID).widths (map of_idle X.idles)
  pub inversions_fit : Each (row PV).widths (map of_inversion X.inversions)
  pub keep_rules : RecordsKeepRules ts (hyperperiod ts) X
  pub short : head_length ts + (length X.idles * size ID + (length X.inversions * size PV + size EN)) ≤ last_offset

module _ {bytes : List ℕ} {ts : Set} {X : Tables} {n : ℕ} (st : Stand bytes ts X n) where
  -- offsets as at a cycle's start show all idle records
  pub first_idles : ShowsIdles (lent bytes ts) (first_offsets ts X).idle X.idles
  first_idles =
      shows_idles bytes ts n X.idles X.inversions (head_length ts) 0 st.idles_there st.short st.idles_fit st.inversions_fit
      st.keep_rules.rising st.keep_rules.in_range

  -- and for each task its inversion records
  pub first_inversions : (i : ℕ) → i < length ts.tasks → ShowsInversions (lent bytes ts) (slot (first_offsets ts X).inversions i) (from i 0 X.inversions)
  first_inversions i l =
      rw (slot_first ts X 0 (length ts.tasks) i (replicate (limits.tasks - length ts.tasks) 0) l, zero-add i)
      (shows_from bytes ts n i X.inversions (head_length ts + length X.idles * size ID) st.inversions_there (omega (arith, st.short))
      st.inversions_fit st.keep_rules.in_range)
