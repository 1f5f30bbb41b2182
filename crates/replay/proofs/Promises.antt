-- The contracts of `replay` determine its answers and the bytes of a lent output. Assumes nothing.
use mathlib.Core.Path.{◌≡◌, refl, sym, ◌∙◌, ap}
use native.Mathlib.Omega.{arith}
use Rattle.std.specs.Prelude.{Result, Ok, Err}
use Rattle.rules.proofs.Cases.{clash}
use Rattle.decision.specs.declared.Found.{Found}
use Rattle.decision.specs.declared.Stuck.{Stuck}
use Rattle.decision.specs.declared.Stuck.TheVariants.{NoStart, Unreadable}
use Rattle.decision.specs.Next.{stuck_number, numbered}
use mathlib.Core.List.{List}
use Prim.Native.Nat.{ℕ}
use Rattle.rules.specs.declared.Offsets.{Offsets}
use Rattle.rules.specs.Tasks.{Set}
use Rattle.sets.specs.declared.Kept.{Kept}
use Rattle.replay.specs.declared.Run.{Run}
use Rattle.replay.specs.Runs.{Ran, cycle_of}

-- what stops a run is told by its number
one_reason : (r s : Stuck) → stuck_number r ≡ stuck_number s → r ≡ s
one_reason NoStart NoStart e = refl
one_reason NoStart Unreadable e = absurd (omega arith)
one_reason Unreadable NoStart e = absurd (omega arith)
one_reason Unreadable Unreadable e = refl

one_last : (r s : Result Found Stuck) → numbered r ≡ numbered s → r ≡ s
one_last (Ok f) (Ok g) e = cc
one_last (Ok f) (Err b) e = clash (cc)
one_last (Err a) (Ok g) e = clash (cc)
one_last (Err a) (Err b) e = let same : stuck_number a ≡ stuck_number b = cc in ap Err (one_reason a b same)

-- the contract of `cycle` leaves one result, and one output, as some set may be replayed; that of `one_start` is the next start's own
module _ (ts : Set) (bytes : List ℕ) (kept : Kept) (first : Offsets) (old : List ℕ) where
  -- two that meet it are equal
  pub one_cycle : (r q : Run) (out other : List ℕ) → Ran (cycle_of ts bytes kept first) old r out → Ran (cycle_of ts bytes kept first) old q other →
      (r ≡ q) × (out ≡ other)
  one_cycle r q out other a b =
      let made = a.made ∙ sym b.made in
      let wasted = a.wasted ∙ sym b.wasted in
      let last = one_last r.last q.last (a.last ∙ sym b.last) in
      (λ i. record { made = made i; wasted = wasted i; last = last i }, a.output ∙ sym b.output)
