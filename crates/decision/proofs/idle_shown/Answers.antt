-- `decision::idle_shown` meets its contract: as judged, or ID, PV and EN in turn, each with its own rule. Assumes nothing.
use Rattle.std.proofs.Common.{sym, ◌∙◌, true, false}
use Rattle.rules.specs.Marks.{ID, PV}
use Rattle.sets.proofs.SetKept.{kept_cycle}
use Rattle.decision.proofs.WholeRecords.{whole_inside, idle_read, no_idle_read, idle_at_end, nothing_for_idle}
use Rattle.decision.proofs.Reading.{same_idle_readable}
use Rattle.decision.proofs.idle_shown.Goals as goal

pub returns-then-judged : goal.returns-then-judged
returns-then-judged c = λ ts fits.
    let given = c.requires.read c.if-judged.true in
    c.idle_judged.ensures ts (same_idle_readable given.1 fits _ _ given.2)

pub idle_at-r-requires : goal.idle_at-r-requires
idle_at-r-requires c = whole_inside _ _ ID (cc)

pub returns-then-idle_keeps : goal.returns-then-idle_keeps
returns-then-idle_keeps c = λ ts fits. idle_read ts _ _ _ (kept_cycle fits) true (cc) _ c.idle_at-r.ensures (cc)

pub returns-then-whole : goal.returns-then-whole
returns-then-whole c = λ ts fits. idle_read ts _ _ _ (kept_cycle fits) false (cc) _ c.idle_at-r.ensures (cc)

pub inversion_at-r-requires : goal.inversion_at-r-requires
inversion_at-r-requires c = whole_inside _ _ PV (cc)

pub returns-then-inversion_keeps : goal.returns-then-inversion_keeps
returns-then-inversion_keeps c = λ ts fits.
    no_idle_read ts _ _ _ (kept_cycle fits) true (cc) _ c.inversion_at-r.ensures (sym c.if-inversion_keeps.true ∙ c.inversion_keeps.ensures ts fits)

pub returns-then-whole-2 : goal.returns-then-whole-2
returns-then-whole-2 c = λ ts fits.
    no_idle_read ts _ _ _ (kept_cycle fits) false (cc) _ c.inversion_at-r.ensures (sym c.if-inversion_keeps.false ∙ c.inversion_keeps.ensures ts fits)

pub returns-then-whole-3 : goal.returns-then-whole-3
returns-then-whole-3 c = λ ts fits. idle_at_end ts _ _ (cc)

pub returns : goal.returns
returns c = λ ts fits. nothing_for_idle ts _ _ (cc) (cc) (cc)
