-- Putting the first figures: the three counts of ticks, then each task's lateness behind them. Assumes nothing.
use mathlib.Core.Path.{◌≡◌, sym, ◌∙◌, ap}
use mathlib.Core.List.{List, [], ◌∷◌, ◌++◌, append_assoc}
use Prim.Native.Nat.{ℕ, suc, ◌+◌, ◌≤◌, ◌<◌}
use native.Mathlib.Omega.{arith}
use native.Mathlib.Numerals.{add-one}
use lib.ListN.{length, get_or, set, take, drop, length-append, length-drop}
use lib.IntN.{ℤ, pos}
use lib.Seq.{set_at, take-suc, drop-cons, length-take-le}
use Rattle.sets.specs.declared.Kept.{Kept}
use Rattle.sets.specs.Kept.{tasks_in}
use Rattle.figures.specs.declared.Times.{Times}
use Rattle.figures.specs.Times.{CanPutTimes}

-- the lateness of the first i tasks is put behind the first three figures
pub record PutTo (kept : Kept) (t : Times) (old : List ℤ) (i : ℕ) (out : List ℤ) : Type 0 where
  pub can : CanPutTimes kept t old
  pub so_far : i ≤ tasks_in kept
  pub put : out ≡ take 3 old ++ (take i t.worst ++ drop (i + 3) old)

module _ {kept : Kept} {t : Times} {old : List ℤ} {i : ℕ} {out : List ℤ} (w : PutTo kept t old i out) where
  three : length (take 3 old) ≡ 3
  three = length-take-le 3 old (omega (arith, w.can.room))

  so_many : length (take i t.worst) ≡ i
  so_many = length-take-le i t.worst (omega (arith, w.so_far, w.can.slots, w.can.few))

  -- the output has the length that it had
  pub put_length : length out ≡ length old
  put_length =
      ap length w.put
      ∙ omega (
        arith,
        length-append (take 3 old) (take i t.worst ++ drop (i + 3) old),
        length-append (take i t.worst) (drop (i + 3) old),
        three,
        so_many,
        length-drop (i + 3) old,
        w.so_far,
        w.can.room,
      )

  -- one more
  pub put_more : {v : ℤ} → i < tasks_in kept → v ≡ get_or t.worst i (pos 0) → PutTo kept t old (i + 1) (set out (3 + i) v)
  put_more {v} more is =
      let front : List ℤ = take 3 old ++ take i t.worst in
      let rest : List ℤ = drop (suc (i + 3)) old in
      let long : length front ≡ 3 + i = omega (arith, length-append (take 3 old) (take i t.worst), three, so_many) in
      let behind : i + 1 + 3 ≡ suc (i + 3) = omega arith in
      let one_more : take (i + 1) t.worst ≡ take i t.worst ++ (v ∷ []) =
      rw (add-one i) (take-suc t.worst i (pos 0) (omega (arith, w.can.slots, w.can.few)) ∙ rw is) in
      let apart : out ≡ front ++ (get_or old (i + 3) (pos 0) ∷ rest) =
      w.put ∙ rw (drop-cons old (i + 3) (pos 0) (omega (arith, w.can.room))) (sym (append_assoc (take 3 old) (take i t.worst) _)) in
      record {
        can = w.can;
        so_far = omega arith;
        put = ap (λ (o : List ℤ). set o (3 + i) v) apart
            ∙ set_at front (get_or old (i + 3) (pos 0)) rest v (3 + i) long
            ∙ rw (one_more, behind, append_assoc (take i t.worst) (v ∷ []) rest) (append_assoc (take 3 old) (take i t.worst) (v ∷ rest));
      }
