-- A whole record by its mark: what framing comes to behind it, from what its function reads. Assumes nothing.
use mathlib.Core.Path.{◌≡◌, refl, sym, ◌∙◌, ap}
use mathlib.Core.Logic.{◌⊎◌, inl, inr}
use mathlib.Core.List.{List}
use Prim.Native.Nat.{ℕ, suc, ◌+◌, ◌≤◌, ◌<◌}
use native.Mathlib.Numerals.{add-one}
use native.Mathlib.Omega.{arith}
use borrow.Author.Tests.{eq-eqb, ne_eqb, le-leb, lt-leb}
use lib.ListN.{drop}
use Rattle.std.specs.Prelude.{Result, Ok, Err}
use Rattle.rules.specs.declared.Place.{Place}
use Rattle.rules.specs.declared.Located.{Located}
use Rattle.rules.specs.Priority.{slot}
use Rattle.rules.specs.Marks.{Mark, TS, TK, EN, option_class, listed_class, inversion_class, row, size, body_length, values}
use Rattle.rules.specs.Framing.{Next, tasks_due, goes_on, after_task, after_later, layout_at, after}
use Rattle.images.specs.declared.Head.{Head}
use Rattle.images.specs.declared.End.{End}
use Rattle.images.specs.Bodies.{part_of, head_of, of_head, end_of}
use Rattle.images.proofs.BodyLaws.{head_body_is, end_body_is}
use Rattle.framing.specs.declared.Step.{Step}
use Rattle.framing.specs.declared.Step.TheVariants.{GoesOn, Ended}
use Rattle.framing.specs.Frames.{refusal_at, Whole, Follows, behind_run}
use Rattle.framing.proofs.PlaceLaws.{place_path}

-- TS, with what was read of it: its tests in turn, and the place behind it
module _ {bytes : List ℕ} {s : Place} (w : Whole bytes s TS) {h : Head}
    (read : h ≡ head_of (part_of bytes (s.offset + 2) (body_length TS))) where
  from_head : (kind : ℕ) {x : Next} → x ≡ after kind s TS (of_head h) → x ≡ after kind s TS (values TS (drop s.offset bytes))
  from_head kind e = e ∙ ap (λ (g : Head). after kind s TS (of_head g)) (read ∙ head_body_is bytes s.offset w.not_cut)

  pub bad_edition : {kind : ℕ} {r : Located} → r ≡ refusal_at 3 s → (h.edition ≡ 1 → ⊥) → Follows kind bytes s TS (Err r)
  bad_edition {kind} r n = record { next = from_head kind (rw (r, ne_eqb h.edition 1 n)); located = rw r }

  module _ {kind : ℕ} (edition : h.edition ≡ 1) where
    pub bad_kind : {r : Located} → r ≡ refusal_at 4 s → (h.kind ≡ kind → ⊥) → Follows kind bytes s TS (Err r)
    bad_kind r n = record { next = from_head kind (rw (r, eq-eqb h.edition 1 edition, ne_eqb h.kind kind n)); located = rw r }

    module _ (of_kind : h.kind ≡ kind) where
      pub bad_count : {r : Located} → r ≡ refusal_at 5 s → (h.n < 1) ⊎ ((1 ≤ h.n) × (16 < h.n)) → Follows kind bytes s TS (Err r)
      bad_count r (inl few) =
          record { next = from_head kind (rw (r, eq-eqb h.edition 1 edition, eq-eqb h.kind kind of_kind, lt-leb 1 h.n few)); located = rw r }
      bad_count r (inr (some, many)) = record {
        next = from_head kind (rw (r, eq-eqb h.edition 1 edition, eq-eqb h.kind kind of_kind, le-leb 1 h.n some, lt-leb h.n 16 many));
        located = rw r;
      }

      pub good_head : {t : Place} → t ≡ tasks_due (s.index + 1) (s.offset + size TS) h.n h.n → 1 ≤ h.n → h.n ≤ 16 → Follows kind bytes s TS (Ok (GoesOn t))
      good_head t some few = record {
        next = from_head kind (rw (t, add-one, eq-eqb h.edition 1 edition, eq-eqb h.kind kind of_kind, le-leb 1 h.n some, le-leb h.n 16 few));
        located = tt;
      }

-- a record by the class that was read of its mark
module _ {bytes : List ℕ} {s : Place} {m : Mark} where
  -- it stands whole, and its own function answers, where its class has one mark
  pub whole_as : {k : Mark} → m ≡ k → Whole bytes s m → Whole bytes s k
  whole_as e w = rw (← e) w

  pub of_mark : {kind : ℕ} {k : Mark} → m ≡ k → (r : Result Step Located) → Follows kind bytes s k r → Follows kind bytes s m r
  of_mark e r f = rw e f

  pub one_task : {kind : ℕ} {t : Place} → t ≡ after_task TK s → m ≡ TK → Follows kind bytes s m (Ok (GoesOn t))
  one_task e is = record { next = rw (is, e); located = tt }

  -- a record between the tasks and EN
  of_later : {kind : ℕ} (listed inversions : ℕ) (t : Place) → t ≡ behind_run m s 1 listed inversions →
      ((v : List ℕ) → after kind s m v ≡ goes_on (after_later m s listed inversions)) → Follows kind bytes s m (Ok (GoesOn t))
  unfolding behind_run
  of_later listed inversions t e goes =
      let same : behind_run m s 1 listed inversions ≡ after_later m s listed inversions =
      place_path _ (after_later m s listed inversions) (omega arith) (omega arith) refl refl refl refl refl in
      record { next = rw (goes (values m (drop s.offset bytes))) (ap goes_on (e ∙ same)); located = tt }

  pub one_option : {kind : ℕ} {t : Place} → t ≡ behind_run m s 1 s.listed s.inversions → (row m).class ≡ option_class →
      Follows kind bytes s m (Ok (GoesOn t))
  one_option e c = of_later s.listed s.inversions _ e (λ v. rw c)

  pub one_listed : {kind : ℕ} {t : Place} → t ≡ behind_run m s 1 (s.listed + 1) s.inversions → (row m).class ≡ listed_class →
      Follows kind bytes s m (Ok (GoesOn t))
  one_listed e c = of_later (suc s.listed) s.inversions _ (rw add-one at e) (λ v. rw c)

  pub one_inversion : {kind : ℕ} {t : Place} → t ≡ behind_run m s 1 s.listed (s.inversions + 1) → (row m).class ≡ inversion_class →
      Follows kind bytes s m (Ok (GoesOn t))
  one_inversion e c = of_later s.listed (suc s.inversions) _ (rw add-one at e) (λ v. rw c)

-- EN, with the number that was read of it: its test, and the layout
module _ {bytes : List ℕ} {s : Place} (w : Whole bytes s EN) {r : End}
    (read : r ≡ end_of (part_of bytes (s.offset + 2) (body_length EN))) where
  number_is : r.before ≡ slot (values EN (drop s.offset bytes)) 0
  number_is = ap (λ (e : End). e.before) (read ∙ end_body_is bytes s.offset w.not_cut)

  pub bad_end : {kind : ℕ} {q : Located} → q ≡ refusal_at 10 s → (r.before ≡ s.index → ⊥) → Follows kind bytes s EN (Err q)
  bad_end q n = record { next = rw (q, ne_eqb _ _ (λ e. n (number_is ∙ e))); located = rw q }

  pub good_end : {kind : ℕ} → r.before ≡ s.index → Follows kind bytes s EN (Ok (Ended (layout_at EN s)))
  good_end e = record { next = rw (eq-eqb _ _ (sym number_is ∙ e)); located = tt }
