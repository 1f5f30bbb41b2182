-- Laws of the test, the sum, the greatest and the list over the numbers below n. Assumes nothing.
use mathlib.Core.Path.{◌≡◌, refl, ◌∙◌, ap₂}
use mathlib.Core.Bool.{Bool, true, false}
use mathlib.Core.List.{[], ◌∷◌}
use Prim.Native.Nat.{ℕ, zero, suc, ◌+◌, ◌*◌, max, ◌≤◌, ◌<◌}
use native.Mathlib.Omega.{arith}
use lib.ListN.{length, get_or, length-append, get_or-append}
use lib.Seq.{get_or_at}
use Rattle.rules.specs.Several.{any_below, sum_below, greatest_below, list_below}
use Rattle.rules.proofs.Cases.{by_bool, by_eq, by_le, clash}

-- where none passes, and where one does
pub any_none : (n : ℕ) (f : ℕ → Bool) → ((i : ℕ) → i < n → f i ≡ false) → any_below n f ≡ false
any_none zero f e = refl
any_none (suc n) f e = rw (e n (omega arith)) (any_none n f (λ i l. e i (omega arith)))

pub any_one : (n : ℕ) (f : ℕ → Bool) (i : ℕ) → i < n → f i ≡ true → any_below n f ≡ true
any_one zero f i l e = absurd (omega arith)
any_one (suc n) f i l e =
    by_eq i n (λ u. let last : f n ≡ true = rw u at e in rw last) (λ u. by_bool (f n) (λ b. rw b) (λ b. rw b (any_one n f i (omega arith) e)))

-- one that passes, where there is one
pub any_found : {A : Type 0} (n : ℕ) (f : ℕ → Bool) → any_below n f ≡ true → ((i : ℕ) → i < n → f i ≡ true → A) → A
any_found zero f e go = clash (cc)
any_found (suc n) f e go = by_bool (f n) (λ b. go n (omega arith) b) (λ b. any_found n f (rw b at e) (λ i l. go i (omega arith)))

-- equal numbers have the same sum and the same greatest
pub sum_same : (n : ℕ) (f g : ℕ → ℕ) → ((i : ℕ) → i < n → f i ≡ g i) → sum_below n f ≡ sum_below n g
sum_same zero f g e = refl
sum_same (suc n) f g e = ap₂ ◌+◌ (sum_same n f g (λ i l. e i (omega arith))) (e n (omega arith))

pub greatest_same : (n : ℕ) (f g : ℕ → ℕ) → ((i : ℕ) → i < n → f i ≡ g i) → greatest_below n f ≡ greatest_below n g
greatest_same zero f g e = refl
greatest_same (suc n) f g e = ap₂ max (greatest_same n f g (λ i l. e i (omega arith))) (e n (omega arith))

-- none is above the greatest, and the greatest is no higher than all of them are
pub greatest_above : (n : ℕ) (f : ℕ → ℕ) (i : ℕ) → i < n → f i ≤ greatest_below n f
greatest_above zero f i l = absurd (omega arith)
greatest_above (suc n) f i l = by_eq i n (λ u. rw u (omega arith)) (λ u. omega (arith, greatest_above n f i (omega arith)))

pub greatest_within : (n : ℕ) (f : ℕ → ℕ) (bound : ℕ) → ((i : ℕ) → i < n → f i ≤ bound) → greatest_below n f ≤ bound
greatest_within zero f bound e = omega arith
greatest_within (suc n) f bound e = omega (arith, greatest_within n f bound (λ i l. e i (omega arith)), e n (omega arith))

-- it is one of them, where it is above 0
pub greatest_found : {A : Type 0} (n : ℕ) (f : ℕ → ℕ) → 0 < greatest_below n f → ((i : ℕ) → i < n → f i ≡ greatest_below n f → A) → A
greatest_found zero f l go = absurd (omega arith)
greatest_found (suc n) f l go =
    by_le (greatest_below n f) (f n) (λ u. go n (omega arith) (omega arith))
    (λ u. greatest_found n f (omega arith) (λ i k e. go i (omega arith) (omega arith)))

-- a sum of numbers up to a bound
pub sum_within : (n : ℕ) (f : ℕ → ℕ) (bound : ℕ) → ((i : ℕ) → i < n → f i ≤ bound) → sum_below n f ≤ n * bound
sum_within zero f bound e = omega arith
sum_within (suc n) f bound e = omega (arith, sum_within n f bound (λ i l. e i (omega arith)), e n (omega arith))

-- a sum grows with its numbers, and by something where one of them does
pub sum_grows : (n : ℕ) (f g : ℕ → ℕ) → ((i : ℕ) → i < n → f i ≤ g i) → sum_below n f ≤ sum_below n g
sum_grows zero f g l = omega arith
sum_grows (suc n) f g l = omega (arith, sum_grows n f g (λ i k. l i (omega arith)), l n (omega arith))

pub sum_more : (n : ℕ) (f g : ℕ → ℕ) (i : ℕ) → i < n → ((j : ℕ) → j < n → f j ≤ g j) → f i < g i → sum_below n f < sum_below n g
sum_more zero f g i k l m = absurd (omega arith)
sum_more (suc n) f g i k l m =
    by_eq i n (λ u. let last : f n < g n = rw u at m in omega (arith, sum_grows n f g (λ j p. l j (omega arith))))
    (λ u. omega (arith, sum_more n f g i (omega arith) (λ j p. l j (omega arith)) m, l n (omega arith)))

-- the first apart
pub sum_first : (n : ℕ) (f : ℕ → ℕ) → sum_below (suc n) f ≡ f 0 + sum_below n (λ i. f (suc i))
sum_first zero f = omega arith
sum_first (suc n) f = omega (arith, sum_first n f)

-- more numbers have a sum no smaller
pub sum_longer : (m n : ℕ) (f : ℕ → ℕ) → m ≤ n → sum_below m f ≤ sum_below n f
sum_longer m zero f l = let e : m ≡ 0 = omega arith in rw e (omega arith)
sum_longer m (suc n) f l = by_eq m (suc n) (λ e. rw e (omega arith)) (λ u. omega (arith, sum_longer m n f (omega arith)))

-- a sum of sums
pub sum_plus : (n : ℕ) (f g : ℕ → ℕ) → sum_below n (λ i. f i + g i) ≡ sum_below n f + sum_below n g
sum_plus zero f g = refl
sum_plus (suc n) f g = omega (arith, sum_plus n f g)

-- with more at one place and the same at the others
pub sum_one : (n : ℕ) (f g : ℕ → ℕ) (i more : ℕ) → i < n → ((j : ℕ) → (j ≡ i → ⊥) → g j ≡ f j) → g i ≡ f i + more → sum_below n g ≡ sum_below n f + more
sum_one zero f g i more l same e = absurd (omega arith)
sum_one (suc n) f g i more l same e =
    by_eq i n
    (λ u. let here : g n ≡ f n + more = rw u at e in omega (arith, sum_same n g f (λ j k. same j (λ w. omega arith))))
    (λ u. omega (arith, sum_one n f g i more (omega arith) same e, same n (λ w. u (omega arith))))

-- a list of them has n, each at its place
pub list_length : {A : Type 0} (n : ℕ) (f : ℕ → A) → length (list_below n f) ≡ n
list_length zero f = refl
list_length (suc n) f = omega (arith, length-append (list_below n f) (f n ∷ []), list_length n f)

pub list_at : {A : Type 0} (n : ℕ) (f : ℕ → A) (i : ℕ) (d : A) → i < n → get_or (list_below n f) i d ≡ f i
list_at zero f i d l = absurd (omega arith)
list_at (suc n) f i d l =
    by_eq i n
    (λ u. rw u (get_or_at (list_below n f) (f n) [] d n (list_length n f)))
    (λ u. get_or-append (list_below n f) (f n ∷ []) d i (omega (arith, list_length n f)) ∙ list_at n f i d (omega arith))
