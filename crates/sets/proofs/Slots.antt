-- The slots of a set: the first n of them from a place on, and one slot more or less. Assumes nothing.
use mathlib.Core.Path.{◌≡◌, sym, ◌∙◌, ap₂}
use mathlib.Core.List.{List, [], ◌∷◌}
use Prim.Native.Nat.{ℕ, suc, ◌+◌, ◌-◌, ◌≤◌, ◌<◌}
use native.Mathlib.Omega.{arith}
use native.Mathlib.Numerals.{add-one}
use lib.ListN.{length, take, drop, get_or, length-take, drop_of_length-le}
use lib.Seq.{slice-cons}
use Rattle.rules.specs.declared.Task.{Task}

-- what stands for a task past the last slot
abbrev pub no_slot : Task
no_slot = record { offset = 0; time = 0; period = 0; deadline = 0 }

-- the task in slot i
abbrev pub slot : List Task → ℕ → Task
slot slots i = get_or slots i no_slot

module _ (slots : List Task) (n i : ℕ) where
  -- nothing is left at the end
  pub none_left : n ≤ i → drop i (take n slots) ≡ []
  none_left l = drop_of_length-le (take n slots) {i = i} (simp length-take (omega arith))

  module _ (room : n ≤ length slots) (t : Task) where
    -- what is left starts with the task in the slot at the place
    pub one_off : i < n → t ≡ slot slots i → drop i (take n slots) ≡ t ∷ drop (i + 1) (take n slots)
    one_off l e = rw (add-one, e) (slice-cons i n slots no_slot l room)

    -- the task in the slot before the place comes in front
    pub one_more : 0 < i → i ≤ n → t ≡ slot slots (i - 1) → drop (i - 1) (take n slots) ≡ t ∷ drop i (take n slots)
    one_more p l e =
        let k : suc (i - 1) ≡ i = omega arith in
        slice-cons (i - 1) n slots no_slot (omega arith) room ∙ ap₂ (λ (u : Task) (j : ℕ). u ∷ drop j (take n slots)) (sym e) k
