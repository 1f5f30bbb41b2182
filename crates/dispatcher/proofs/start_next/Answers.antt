-- `dispatcher::start_next` meets its contract: the turn is made out of the next start that was answered. Assumes nothing.
use Rattle.std.proofs.Common.{rules, arith, ◌∙◌, ap, Ok}
use Prim.Native.Nat.{◌+◌, ◌*◌}
use Rattle.rules.specs.declared.Dispatcher.{Dispatcher as State}
use Rattle.rules.specs.Dispatcher.{set_of}
use Rattle.numbers.specs.Numbers.{state_from}
use Rattle.sets.specs.Kept.{hyperperiod_in}
use Rattle.dispatcher.proofs.Lent.{next_lent}
use Rattle.dispatcher.proofs.Starting.{copied_starts, stands_made, stuck_next, found_task, found_turn}
use Rattle.dispatcher.proofs.StoredStarts.{stored_turn, stored_as, refused_stopped}
use Rattle.dispatcher.proofs.start_next.Goals as goal

pub one_start-requires : goal.one_start-requires
one_start-requires c = (set_of (state_from c.args.numbers.now), stands_made c.args.image.now (copied_starts c.requires c.numbers_from-release.ensures (search rules)) c.numbers_from-next.ensures c.numbers_from-offsets.ensures)

pub returns-in_default : goal.returns-in_default
returns-in_default c =
    refused_stopped (stuck_next _ (copied_starts c.requires c.numbers_from-release.ensures (search rules)) c.numbers_from-next.ensures c.numbers_from-offsets.ensures _ c.in_default.ensures)
    c.refusal.ensures c.stop.ensures

pub store_start-requires : goal.store_start-requires
store_start-requires c =
    let f = c.in-Ok.f in
    let set = c.requires.stands.fits.set in
    let found = found_task _ (copied_starts c.requires c.numbers_from-release.ensures (search rules)) c.numbers_from-next.ensures c.numbers_from-offsets.ensures c.in-Ok.ensures in
    let next = next_lent c.args.numbers.now f.task (omega (arith, found.0, set.few)) in
    record { slot = omega (arith, found.0, set.few); next = omega (arith, found.1, next, set.good.short); long = c.requires.long }

pub returns : goal.returns
returns c =
    let f = c.in-Ok.f in
    let h = hyperperiod_in c.args.kept.now in
    stored_as
    (found_turn _ (copied_starts c.requires c.numbers_from-release.ensures (search rules)) c.numbers_from-next.ensures c.numbers_from-offsets.ensures c.in-Ok.ensures)
    (stored_turn _ _
    (λ k.
    Ok
    (record {
      task = f.task;
      job = ap (λ (d : State). d.running.job) c.store_start.ensures.state k;
      cycle = ap (λ (d : State). d.cycle) c.store_start.ensures.state k;
      time = (c.absolute.ensures ∙ ap (λ (d : State). d.cycle * h + f.start) c.store_start.ensures.state) k;
    }))
    c.store_start.ensures.long c.store_start.ensures.state)
