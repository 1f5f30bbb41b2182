-- Beginning: what judging an image comes to, and the turn that follows from it. Assumes nothing.
use mathlib.Core.Path.{◌≡◌, sym, ◌∙◌, ap}
use mathlib.Core.List.{List, ◌++◌}
use Prim.Native.Nat.{ℕ, ◌-◌}
use lib.ListN.{length, replicate}
use Rattle.rules.specs.declared.TaskSet.{TaskSet}
use Rattle.rules.specs.declared.Located.{Located}
use Rattle.rules.specs.declared.Dispatcher.{Dispatcher as State}
use Rattle.rules.specs.Located.{RefusedAt}
use Rattle.rules.proofs.Locations.{refused_answer}
use Rattle.rules.specs.Tasks.{limits, memory_set}
use Rattle.rules.specs.Operations.{Tabled, rebuilt, check_tables}
use Rattle.rules.specs.Dispatcher.{number_count, set_of, zero_task, stopped, refused, fresh, begin_accepted, begin_framed, begin}
use Rattle.rules.proofs.BeginOrder.{begin_refuses}
use Rattle.rules.specs.Priority.{slot}
use Rattle.rules.proofs.Arrays.{slot_zeros}
use Rattle.numbers.specs.Numbers.{state_from}
use Rattle.sets.specs.declared.Kept.{Kept}
use Rattle.sets.specs.Kept.{first_in}
use Rattle.tables.specs.Judged.{Good}
use Rattle.tables.specs.declared.Tables.{Tables as Judgement}
use Rattle.dispatcher.specs.Stored.{fresh_state, start_from}
use Rattle.dispatcher.specs.States.{CanStart}
use Rattle.dispatcher.proofs.NextTurns.{at_start}

module _ (bytes : List ℕ) where
  -- an image that is refused
  pub refused_beginning : {r : Located} → RefusedAt bytes (rebuilt bytes) r → refused r stopped ≡ begin bytes
  unfolding check_tables
  refused_beginning r = sym (begin_refuses bytes _ (refused_answer _ r))

  -- of one that is accepted the first start is made from the fresh state
  pub first_turn : {t : Judgement} {kept : Kept} → Good bytes t kept → start_from bytes (fresh_state t.set t.first) 0 ≡ begin bytes
  unfolding begin
  first_turn {t} known =
      let s : TaskSet = t.set in
      let i : Tabled = record { set = memory_set s; tables = known.tables } in
      let slots : s.tasks ≡ (memory_set s).tasks ++ replicate (limits.tasks - length (memory_set s).tasks) zero_task = rw known.tasks_many known.zero_slots in
      let set : s ≡ (fresh i).set = λ k. record { n = sym known.tasks_many k; tasks = slots k } in
      let same : fresh_state s t.first ≡ fresh i = λ k. fresh_state (set k) (known.offsets k) in
      let begun : begin bytes ≡ start_from bytes (fresh i) 0 =
      ap (begin_framed bytes) known.read ∙ ap (begin_accepted bytes i) known.judged in
      ap (λ (d : State). start_from bytes d 0) same ∙ sym begun

-- numbers that are the fresh state's can start
pub can_begin : {bytes : List ℕ} {t : Judgement} {kept : Kept} {lent : List ℕ} → Good bytes t kept → length lent ≡ number_count →
    state_from lent ≡ fresh_state t.set t.first → CanStart lent kept (first_in kept) 0
can_begin good long is =
    at_start long (good.keeps.n_tasks ∙ good.tasks_many ∙ sym (ap (λ (d : State). d.set.n) is)) (rw (ap set_of is) good.keeps)
    (λ i l. ap (λ (d : State). slot d.next i) is ∙ slot_zeros 16 i)
