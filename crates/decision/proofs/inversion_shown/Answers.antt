-- `decision::inversion_shown` meets its contract: PV and EN in turn, a PV with its own rule. Assumes nothing.
use Rattle.std.proofs.Common.{sym, ◌∙◌, true, false}
use Rattle.rules.specs.Marks.{PV}
use Rattle.sets.proofs.SetKept.{kept_cycle}
use Rattle.decision.proofs.WholeRecords.{whole_inside, inversion_read, inversion_at_end, nothing_for_task}
use Rattle.decision.proofs.inversion_shown.Goals as goal

pub inversion_at-r-requires : goal.inversion_at-r-requires
inversion_at-r-requires c = whole_inside _ _ PV (cc)

pub returns-then-inversion_keeps : goal.returns-then-inversion_keeps
returns-then-inversion_keeps c = λ ts fits.
    inversion_read ts _ _ _ (kept_cycle fits) true (cc) _ c.inversion_at-r.ensures (sym c.if-inversion_keeps.true ∙ c.inversion_keeps.ensures ts fits)

pub returns-then-whole : goal.returns-then-whole
returns-then-whole c = λ ts fits.
    inversion_read ts _ _ _ (kept_cycle fits) false (cc) _ c.inversion_at-r.ensures (sym c.if-inversion_keeps.false ∙ c.inversion_keeps.ensures ts fits)

pub returns-then-whole-2 : goal.returns-then-whole-2
returns-then-whole-2 c = λ ts fits. inversion_at_end ts _ _ (cc)

pub returns : goal.returns
returns c = λ ts fits. nothing_for_task ts _ _ (cc) (cc)
