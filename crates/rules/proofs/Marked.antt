-- The mark at the front of bytes: the table has each mark's two bytes once, and a mark is found exactly where it is allowed. Assumes nothing.
use mathlib.Core.Path.{◌≡◌, refl, sym, ◌∙◌, ap₂, subst}
use mathlib.Core.Logic.{◌⊎◌, inl, inr}
use mathlib.Core.Bool.{true, false}
use mathlib.Core.List.{List, [], ◌∷◌}
use mathlib.Core.Option.{Option, none, some}
use Prim.Native.Nat.{ℕ, suc, ◌≤◌, ◌<◌}
use native.Mathlib.Omega.{arith}
use lib.Dec.{ltb, eqb}
use lib.ListN.{get_or}
use borrow.Author.Tests.{ltb-true, ltb-false, leb-true, eqb-true}
use Rattle.rules.specs.declared.Place.{Place}
use Rattle.rules.specs.Tasks.{both}
use Rattle.rules.specs.Marks.{Mark, TS, TK, SL, ID, PV, EN, Class, head_class, task_class, option_class, listed_class, inversion_class, end_class, Row, row, marks, mark_in, front_mark}
use Rattle.rules.specs.Framing.{in_kind, may_follow, allowed, if_allowed, mark_at, least_behind, Allowed}
use Rattle.rules.proofs.Cases.{by_bool, clash, both_true, both_in}

-- a mark's bytes are found as that mark
pub mark_found : (m : Mark) → mark_in marks (row m).byte₁ (row m).byte₂ ≡ some m
mark_found TS = refl
mark_found TK = refl
mark_found SL = refl
mark_found ID = refl
mark_found PV = refl
mark_found EN = refl

-- a mark is two bytes
pub mark_bytes : (m : Mark) → ((row m).byte₁ < 256) × ((row m).byte₂ < 256)
mark_bytes TS = omega arith
mark_bytes TK = omega arith
mark_bytes SL = omega arith
mark_bytes ID = omega arith
mark_bytes PV = omega arith
mark_bytes EN = omega arith

-- the marks of each class
abbrev pub OfClass : Class → Mark → Type 0
OfClass head_class m = m ≡ TS
OfClass task_class m = m ≡ TK
OfClass option_class m = ⊥
OfClass listed_class m = (m ≡ SL) ⊎ (m ≡ ID)
OfClass inversion_class m = m ≡ PV
OfClass end_class m = m ≡ EN

of_class : (m : Mark) → OfClass (row m).class m
of_class TS = refl
of_class TK = refl
of_class SL = inl refl
of_class ID = inr refl
of_class PV = refl
of_class EN = refl

pub in_class : (m : Mark) (c : Class) → (row m).class ≡ c → OfClass c m
in_class m c e = subst (λ (d : Class). OfClass d m) e (of_class m)

-- the least rank behind a record, by whether it stands at most once
pub behind_once : (r : Row) → r.once ≡ true → suc r.rank ≡ least_behind r
behind_once r e = rw e

pub behind_many : (r : Row) → r.once ≡ false → r.rank ≡ least_behind r
behind_many r e = rw e

-- it is not below the record's own
pub not_lower : (r : Row) → r.rank ≤ least_behind r
not_lower r = by_bool r.once (λ e. omega (arith, behind_once r e)) (λ e. omega (arith, behind_many r e))

-- bytes that are found as a mark are that mark's
found_mark : (ms : List Mark) (a b : ℕ) (m : Mark) → mark_in ms a b ≡ some m → (a ≡ (row m).byte₁) × (b ≡ (row m).byte₂)
found_mark [] a b m e = clash (cc)
found_mark (k ∷ ms) a b m e =
    by_bool (both (eqb a (row k).byte₁) (eqb b (row k).byte₂))
    (λ c. let q = both_true (eqb a (row k).byte₁) (eqb b (row k).byte₂) c in
    let g : some k ≡ some m = rw (c, mark_in) at e in
    let same : k ≡ m = cc in
    rw (← same) (eqb-true _ _ q.0, eqb-true _ _ q.1))
    (λ c. found_mark ms a b m (rw (c, mark_in) at e))

-- a mark that is left where only an allowed one is kept
kept_mark : (kind : ℕ) (s : Place) (o : Option Mark) (m : Mark) → if_allowed kind s o ≡ some m → (o ≡ some m) × (allowed kind s m ≡ true)
kept_mark kind s none m e = clash (cc)
kept_mark kind s (some k) m e =
    by_bool (allowed kind s k)
    (λ c. let g : some k ≡ some m = rw (c, if_allowed) at e in
    let same : k ≡ m = cc in
    (g, rw (← same) c))
    (λ c. let g : none ≡ some m = rw (c, if_allowed) at e in clash (cc))

-- a mark that is allowed is in its turn
pub turn_of : (kind : ℕ) (s : Place) (m : Mark) → allowed kind s m ≡ true → may_follow s.rank (row m).rank ≡ true
turn_of kind s m h = (both_true (in_kind kind (row m)) (may_follow s.rank (row m).rank) h).1

-- TS and TK are in their turn only where they are due
pub due_turn : (least rank : ℕ) → rank < 2 → may_follow least rank ≡ true → least ≡ rank
due_turn least rank r h =
    by_bool (ltb least 2)
    (λ c. sym (eqb-true rank least (rw (c, may_follow) at h)))
    (λ c. let k : least ≤ rank = leb-true least rank (rw (c, may_follow) at h) in absurd (omega (arith, ltb-false least 2 c)))

-- a later mark only behind them, where none of a higher rank has stood
pub later_turn : (least rank : ℕ) → 2 ≤ rank → may_follow least rank ≡ true → (2 ≤ least) × (least ≤ rank)
later_turn least rank r h =
    by_bool (ltb least 2)
    (λ c. let k : rank ≡ least = eqb-true rank least (rw (c, may_follow) at h) in absurd (omega (arith, ltb-true least 2 c)))
    (λ c. (ltb-false least 2 c, leb-true least rank (rw (c, may_follow) at h)))

-- a mark's two bytes at the front of bytes are that mark
pub mark_front : (bytes : List ℕ) (m : Mark) → get_or bytes 0 0 ≡ (row m).byte₁ → get_or bytes 1 0 ≡ (row m).byte₂ → front_mark bytes ≡ some m
mark_front bytes m a b = ap₂ (mark_in marks) a b ∙ mark_found m

module _ (kind : ℕ) (s : Place) (bytes : List ℕ) where
  -- the mark that is found is allowed
  pub found_allowed : (m : Mark) → mark_at kind s bytes ≡ some m → Allowed kind s bytes m
  found_allowed m e =
      let k = kept_mark kind s (front_mark bytes) m e in
      let b = found_mark marks (get_or bytes 0 0) (get_or bytes 1 0) m k.0 in
      let a = both_true (in_kind kind (row m)) (may_follow s.rank (row m).rank) k.1 in
      record { first_byte = b.0; second_byte = b.1; of_kind = a.0; its_turn = a.1 }

  -- a mark that is allowed is found
  pub allowed_found : (m : Mark) → Allowed kind s bytes m → mark_at kind s bytes ≡ some m
  allowed_found m a =
      let may : allowed kind s m ≡ true = both_in (in_kind kind (row m)) (may_follow s.rank (row m).rank) a.of_kind a.its_turn in
      rw (mark_front bytes m a.first_byte a.second_byte, may, if_allowed)

  -- one mark at most is allowed
  pub one_allowed : (m k : Mark) → Allowed kind s bytes m → Allowed kind s bytes k → m ≡ k
  one_allowed m k a b =
      let e : some m ≡ some k = sym (allowed_found m a) ∙ allowed_found k b in
      cc
