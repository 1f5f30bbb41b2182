-- `sets::keeps_its_rule` meets its contract: its tests are the rule's. Assumes nothing.
use mathlib.Core.Path.{◌≡◌, sym, ◌∙◌}
use Prim.Native.Nat.{ℕ, ◌+◌, ◌-◌, ◌≤◌}
use native.Mathlib.Omega.{arith}
use lib.Dec.{leb}
use borrow.Author.Tests.{le-leb, lt-leb}
use Rattle.rules.proofs.Cases.{by_le}
use Rattle.sets.proofs.keeps_its_rule.Goals as goal

-- a number up to the rest of another, or their sum up to that other: one test
less-told : (a b c : ℕ) → c ≤ b → leb a (b - c) ≡ leb (a + c) b
less-told a b c l =
    by_le (a + c) b
    (λ m. le-leb a (b - c) (omega arith) ∙ sym (le-leb (a + c) b m))
    (λ m. lt-leb a (b - c) (omega arith) ∙ sym (lt-leb (a + c) b m))

pub returns-then-t-2 : goal.returns-then-t-2
returns-then-t-2 c =
    let t = c.args.t in
    let kept = c.if-t-2.true in
    rw (le-leb _ _ kept.0, le-leb _ _ kept.1) (less-told t.offset t.period t.deadline kept.2)
