-- The code's table of marks is the rule book's, entry by entry; and a whole record at a place. Assumes nothing.
use mathlib.Core.Path.{◌≡◌, refl, sym, ◌∙◌, ap}
use mathlib.Core.Bool.{true, false}
use mathlib.Core.List.{List}
use Prim.Native.Nat.{ℕ, ◌+◌, ◌-◌, ◌*◌, ◌≤◌, ◌<◌}
use native.Mathlib.Nat.{add-zero}
use native.Mathlib.Omega.{arith}
use borrow.Author.Tests.{eq-eqb, ne_eqb, lt-leb, le-leb, leb-true}
use lib.Dec.{eqb, leb}
use lib.ListN.{length, get_or, drop, length-drop}
use lib.Seq.{get_or-drop}
use Rattle.rules.specs.Tasks.{both}
use Rattle.rules.specs.Marks.{Mark, TS, TK, SL, ID, PV, EN, Class, head_class, task_class, option_class, listed_class, inversion_class, end_class, row, size}
use Rattle.rules.proofs.Cases.{by_eq, both_true}
use Rattle.rules.proofs.Marked.{mark_bytes}
use Rattle.images.specs.declared.Class.{Class as CodeClass}
use Rattle.images.specs.declared.Class.TheVariants as class_case
use Rattle.images.specs.Table.{code_class, pair_of, stands_at}

-- a class is told by the code's
abbrev class_back : CodeClass → Class
class_back class_case.Head = head_class
class_back class_case.Task = task_class
class_back class_case.Option = option_class
class_back class_case.Listed = listed_class
class_back class_case.Inversion = inversion_class
class_back class_case.End = end_class

back_is : (c : Class) → class_back (code_class c) ≡ c
back_is head_class = refl
back_is task_class = refl
back_is option_class = refl
back_is listed_class = refl
back_is inversion_class = refl
back_is end_class = refl

pub class_told : (c d : Class) → code_class c ≡ code_class d → c ≡ d
class_told c d e = sym (back_is c) ∙ ap class_back e ∙ back_is d

-- no record is longer than a task's
pub short_size : (m : Mark) → size m ≤ size TK
short_size TS = omega arith
short_size TK = omega arith
short_size SL = omega arith
short_size ID = omega arith
short_size PV = omega arith
short_size EN = omega arith

-- no rank is above EN's
pub low_rank : (m : Mark) → (row m).rank ≤ (row EN).rank
low_rank TS = omega arith
low_rank TK = omega arith
low_rank SL = omega arith
low_rank ID = omega arith
low_rank PV = omega arith
low_rank EN = omega arith

-- two bytes as one number are two others exactly where each byte is the other
pair_told : (a b x y : ℕ) → a < 256 → x < 256 → eqb (a + b * 256) (x + y * 256) ≡ both (eqb a x) (eqb b y)
pair_told a b x y h k =
    by_eq a x
    (λ u. by_eq b y
    (λ w. rw (eq-eqb a x u, eq-eqb b y w) (eq-eqb (a + b * 256) (x + y * 256) (omega arith)))
    (λ n. rw (eq-eqb a x u, ne_eqb b y n) (ne_eqb (a + b * 256) (x + y * 256) (λ e. n (omega arith)))))
    (λ n. rw (ne_eqb a x n) (ne_eqb (a + b * 256) (x + y * 256) (λ e. n (omega arith))))

-- a whole record at a place, with the row that was read
module _ (bytes : List ℕ) (at : ℕ) (m : Mark) where
  -- the bytes from the place on
  abbrev rest : List ℕ
  rest = drop at bytes

  -- the first of them
  front : get_or rest 0 0 ≡ get_or bytes at 0
  front = rw (get_or-drop at bytes 0 0, add-zero)

  -- fewer bytes are left than the record has
  pub stands_cut : length bytes - at < size m → false ≡ stands_at bytes at m
  unfolding stands_at
  stands_cut h = rw (lt-leb (size m) (length rest) (omega (arith, length-drop at bytes)))

  -- as many are left: the first two, as one number, decide
  pub stands_pair : at + size m ≤ length bytes → get_or bytes at 0 < 256 → eqb (get_or bytes at 0 + get_or bytes (at + 1) 0 * 256) (pair_of m) ≡ stands_at bytes at m
  unfolding stands_at
  stands_pair room byte =
      rw (le-leb (size m) (length rest) (omega (arith, length-drop at bytes)), front, get_or-drop at bytes 1 0)
      (pair_told (get_or bytes at 0) (get_or bytes (at + 1) 0) (row m).byte₁ (row m).byte₂ byte (mark_bytes m).0)

  -- a whole record ends inside the image
  pub stands_whole : stands_at bytes at m ≡ true → at + size m ≤ length bytes
  unfolding stands_at
  stands_whole e = omega (arith, leb-true (size m) (length rest) (both_true (leb (size m) (length rest)) _ e).0, length-drop at bytes)
