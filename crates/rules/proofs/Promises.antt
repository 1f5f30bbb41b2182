-- The promises: what is proved of the rule book, each under the line that says what it promises. Where a proof takes more than a line it stands elsewhere.
-- Assumes nothing.
use mathlib.Core.Path.{◌≡◌, refl, sym, ◌∙◌, ap}
use mathlib.Core.Logic.{◌↔◌, ◌⊎◌}
use mathlib.Core.Bool.{true, false}
use mathlib.Core.List.{List, [], ◌∷◌, ◌++◌, map}
use mathlib.Core.Option.{none, some}
use Prim.Native.Nat.{ℕ, suc, ◌+◌, ◌*◌, ◌/◌, ◌%◌, ◌≤◌, ◌<◌}
use native.Mathlib.Omega.{arith}
use lib.IntN.{ℤ}
use lib.ListN.{length, take, drop}
use Rattle.fields.specs.Number.{Bytes}
use Rattle.rules.specs.declared.TaskSet.{TaskSet}
use Rattle.rules.specs.declared.Entry.{Entry}
use Rattle.rules.specs.declared.Idle.{Idle}
use Rattle.rules.specs.declared.Refusal.{Refusal}
use Rattle.rules.specs.declared.Located.{Located}
use Rattle.rules.specs.declared.Start.{Start}
use Rattle.rules.specs.declared.Offsets.{Offsets as OffsetsOf}
use Rattle.rules.specs.declared.Dispatcher.{Dispatcher as State}
use Rattle.rules.specs.Refusals.{gives, refusal, First, tells, check_tells, make_tells, start_tells}
use Rattle.rules.specs.Tasks.{Set, GoodSet, task, release, due, all_jobs, hyperperiod, figures, set_fault, memory_fault, memory_tests, judge_set, memory_set}
use Rattle.rules.specs.Timetable.{ValidTimetable, entry_at, job_at}
use Rattle.rules.specs.Setting.{Tables, instant}
use Rattle.rules.specs.Priority.{slot, all_started, setting_of, setting}
use Rattle.rules.specs.Decision.{Choice, first_idle, decide, delays, replay_from, replay}
use Rattle.rules.specs.DecisionRule.{NextInstant, DecidesBy, cycle_start, Replays}
use Rattle.rules.specs.Judging.{timetable_fault, tables, records_fault}
use Rattle.rules.specs.Marks.{ID, PV, size}
use Rattle.rules.specs.Image.{timetable_image, table_image, WritableTimetable, WritableTables}
use Rattle.rules.specs.declared.Place.{Place}
use Rattle.std.specs.Prelude.{Result, Ok, Err, ⊤}
use Rattle.rules.specs.Framing.{frame_from, frame_records}
use Rattle.rules.specs.Located.{located}
use Rattle.rules.specs.Operations.{Timed, Tabled, read_timetable, read_tables, check_timetable, check_tables, derive, derive_output, rebuild, rebuild_output, derived_image, rebuilt_image, into}
use Rattle.rules.specs.Offsets.{lent, idle_now, shown_delays, Standing, next_start_in, next_start}
use Rattle.rules.specs.Dispatcher.{Shaped, stopped, is_stopped, refused, begin, go_on}
use Rattle.rules.specs.Calls.{Honest, Log, begun, all_starts, start_of}
use Rattle.rules.specs.GoingOn.{DecidesAt, going_tests, start_refusal, Leaves}
use Rattle.rules.specs.SlotsAbove.{SameAbove, SameBelow}
use Rattle.rules.specs.StandingOffsets.{idles_since, inversions_since, OffsetsStand, StateOffsets}
use Rattle.rules.specs.Promised.{HasTables, TimetableImage, TableImage, RefusesTimetableImage, RefusesTableImage, TheByte, BothImages, RefusesDeriving, RefusesRebuilding}
use Rattle.rules.specs.Axis.{measured}
use Rattle.rules.specs.AxisRules.{AxisFigures, FiguresOfImage}
use Rattle.rules.specs.Worked.{worked, worked_out, P2_bytes}
use Rattle.rules.proofs.Cases.{by_option, clash}
use Rattle.rules.proofs.GoodSets.{good_set, set_good, good_rules, memory_order}
use Rattle.rules.proofs.ValidTimetables.{no_fault_valid, valid_timetable}
use Rattle.rules.proofs.Records.{records_keep}
use Rattle.rules.proofs.Decided as rule
use Rattle.rules.proofs.JudgedTables as lists
use Rattle.rules.proofs.Turns.{set_replay_enough}
use Rattle.rules.proofs.LateJobs.{replays_given, given_replays}
use Rattle.rules.proofs.FramingTurns.{frame_enough}
use Rattle.rules.proofs.Images as images
use Rattle.rules.proofs.HasTables.{derived_tables, one_table}
use Rattle.rules.proofs.Demand2 as demand2
use Rattle.rules.proofs.ImageOrder as order
use Rattle.rules.proofs.MakingOrder as making
use Rattle.rules.proofs.RefusalNumbers as numbers
use Rattle.rules.proofs.RefusalPlaces as places
use Rattle.rules.proofs.NextTurns.{enough_turns, lent_in_range}
use Rattle.rules.proofs.PriorityLaws.{waits_later}
use Rattle.rules.proofs.PossibleStates.{only_stopped, stopped_says}
use Rattle.rules.proofs.GoingOnOrder as going
use Rattle.rules.proofs.BeginOrder as beginning
use Rattle.rules.proofs.SlotsAbove as above
use Rattle.rules.proofs.Demand3 as demand3
use Rattle.rules.proofs.StandingOffsets as standing
use Rattle.rules.proofs.AxisFigures as axis
use Rattle.rules.proofs.WorkedCases as cases

-- IMAGES AND VALUES correspond one to one: exactly what can be written is read, with the values that were written

pub timetable_images : (bytes : List ℕ) → Bytes bytes → (i : Timed) →
    (read_timetable bytes ≡ gives i) ↔ (WritableTimetable i.set i.entries × (bytes ≡ timetable_image i.set i.entries))
timetable_images bytes b i = (
  images.framed_timetable bytes b i,
  λ w. ap read_timetable w.1 ∙ images.written_timetable i.set i.entries w.0,
)

pub table_images : (bytes : List ℕ) → Bytes bytes → (i : Tabled) →
    (read_tables bytes ≡ gives i) ↔ (WritableTables i.set i.tables × (bytes ≡ table_image i.set i.tables))
table_images bytes b i = (
  images.framed_tables bytes b i,
  λ w. ap read_tables w.1 ∙ images.written_tables i.set i.tables w.0,
)

-- DEMAND 2: a set passes exactly when it is good, by the document's list of rules

pub good_sets : (ts : Set) (h : ℕ) → ((set_fault ts ≡ none) × (h ≡ hyperperiod ts)) ↔ GoodSet ts h
good_sets ts h = (λ w. rw w.1 (good_set ts w.0), set_good ts h)

-- DEMAND 2: a timetable passes exactly when it is valid, by the document's list of rules

pub valid_timetables : (ts : Set) (τ : List Entry) → (timetable_fault ts τ ≡ none) ↔ ValidTimetable ts (hyperperiod ts) τ
valid_timetables = no_fault_valid

-- DEMAND 2: a timetable image is accepted exactly when it is the image of a good set and a valid timetable

pub accepted_timetables : (bytes : List ℕ) → Bytes bytes →
    (check_timetable bytes ≡ Ok tt) ↔ ((ts : Set) × (τ : List Entry) × TimetableImage bytes ts τ)
accepted_timetables = demand2.accepts_timetable

-- DEMAND 2: its tables are exactly its irregularities, as the document defines them over the entries before

pub exactly_its_irregularities : (ts : Set) (h : ℕ) (τ : List Entry) → GoodSet ts h → ValidTimetable ts h τ → (X : Tables) →
    HasTables ts h τ X ↔ (X ≡ tables ts τ)
exactly_its_irregularities ts h τ g v X = (one_table g v, λ e. rw e (derived_tables g v))

-- DEMAND 2: derived records meet their own rules, so that 17 never refuses them

pub derived_records_keep_their_rules : (ts : Set) (h : ℕ) (τ : List Entry) → GoodSet ts h → ValidTimetable ts h τ →
    records_fault ts (hyperperiod ts) (tables ts τ) ≡ none
derived_records_keep_their_rules ts h τ g v =
    let e = set_good ts h g in lists.derived_keep_rules ts τ e.0 ((valid_timetable ts (hyperperiod ts) τ).1 (rw e.1 at v))

-- DEMAND 2: deriving gives the image of exactly these tables

pub derived_images : {bytes : List ℕ} {ts : Set} {τ : List Entry} → TimetableImage bytes ts τ → (room : ℕ) →
    derived_image room bytes ≡ into room (table_image ts (tables ts τ))
derived_images = demand2.derives_image

-- DEMAND 2: a table image is accepted exactly when some valid timetable has those tables

pub accepted_tables : (bytes : List ℕ) → Bytes bytes →
    (check_tables bytes ≡ Ok tt) ↔ ((ts : Set) × (τ : List Entry) × TableImage bytes ts τ)
accepted_tables = demand2.accepts_tables

-- DEMAND 2: that timetable is the only one

pub only_one_timetable : {bytes : List ℕ} {ts us : Set} {τ σ : List Entry} → TableImage bytes ts τ → TableImage bytes us σ → (ts ≡ us) × (τ ≡ σ)
only_one_timetable = demand2.one_timetable_behind

-- DEMAND 2: rebuilding gives its image, byte for byte

pub rebuilt_images : {bytes : List ℕ} {ts : Set} {τ : List Entry} → TableImage bytes ts τ → (room : ℕ) →
    rebuilt_image room bytes ≡ into room (timetable_image ts τ)
rebuilt_images = demand2.rebuilds_image

-- DEMAND 2: and that image is read as this set and this timetable

pub rebuilt_reads : {bytes : List ℕ} {ts : Set} {τ : List Entry} → TableImage bytes ts τ →
    read_timetable (timetable_image ts τ) ≡ gives (record { set = ts; entries = τ })
rebuilt_reads = demand2.rebuilt_reads

-- DEMAND 2: with the two images of one timetable, each is written from the other, where there is room, and later bytes keep their values

pub derive_writes : (bytes old : List ℕ) {result : List ℕ} → BothImages bytes result → length result ≤ length old →
    (derive bytes old ≡ Ok (length result)) × (derive_output bytes old ≡ result ++ drop (length result) old)
derive_writes = making.derive_writes

pub rebuild_writes : (bytes old : List ℕ) {result : List ℕ} → BothImages result bytes → length result ≤ length old →
    (rebuild bytes old ≡ Ok (length result)) × (rebuild_output bytes old ≡ result ++ drop (length result) old)
rebuild_writes = making.rebuild_writes

-- DEMAND 2: rebuild after derive, and derive after rebuild, are the identity on accepted images, in the lent outputs as they stand

pub rebuild_after_derive : (bytes old : List ℕ) (n : ℕ) → Bytes bytes → derive bytes old ≡ Ok n → (out : List ℕ) → length bytes ≤ length out →
    (rebuild (take n (derive_output bytes old)) out ≡ Ok (length bytes))
    × (rebuild_output (take n (derive_output bytes old)) out ≡ bytes ++ drop (length bytes) out)
rebuild_after_derive = demand2.rebuild_after_derive

pub derive_after_rebuild : (bytes old : List ℕ) (n : ℕ) → Bytes bytes → rebuild bytes old ≡ Ok n → (out : List ℕ) → length bytes ≤ length out →
    (derive (take n (rebuild_output bytes old)) out ≡ Ok (length bytes))
    × (derive_output (take n (rebuild_output bytes old)) out ≡ bytes ++ drop (length bytes) out)
derive_after_rebuild = demand2.derive_after_rebuild

-- DEMAND 3, of every log of calls on a table image that is accepted, with the set and the one timetable that `accepted_tables` gives

module _ (bytes : List ℕ) (are-bytes : Bytes bytes) (ts : Set) (τ : List Entry) (accepted : TableImage bytes ts τ) where
  -- the timetable has as many entries as a cycle has jobs, and at least one
  pub entries_are_jobs : (length τ ≡ all_jobs (hyperperiod ts) ts) × (1 ≤ length τ)
  entries_are_jobs =
      (demand3.as_many_entries bytes are-bytes ts τ (demand2.rebuilds accepted), demand3.at_least_one bytes are-bytes ts τ (demand2.rebuilds accepted))

  -- never stuck: beginning, and each call that reports an honest end, answers the next entry, moved by whole hyperperiods: k mod length of cycle k / length
  pub serves : {k : ℕ} {a : Result Start Located} {d : State} → Log bytes ts k a d → k < all_starts τ →
      start_tells a
      ≡ tells
      ((entry_at τ (k % length τ)).task
      ∷ job_at τ (k % length τ)
      ∷ (k / length τ)
      ∷ (k / length τ * hyperperiod ts + (entry_at τ (k % length τ)).start)
      ∷ [])
  serves log lt = ap start_tells (demand3.serves bytes are-bytes ts τ (demand2.rebuilds accepted) log lt)

  -- the starts don't depend on the reported ends
  pub starts_do_not_depend_on_ends : {k : ℕ} {a a' : Result Start Located} {d d' : State} → Log bytes ts k a d → Log bytes ts k a' d' → k < all_starts τ → a ≡ a'
  starts_do_not_depend_on_ends log log' lt =
      demand3.serves bytes are-bytes ts τ (demand2.rebuilds accepted) log lt ∙ sym (demand3.serves bytes are-bytes ts τ (demand2.rebuilds accepted) log' lt)

  -- each start is released, and inside its deadline
  pub released : {k : ℕ} {s : Start} {d : State} → Log bytes ts k (Ok s) d → k < all_starts τ →
      s.cycle * hyperperiod ts + release (task ts s.task) s.job ≤ s.time
  released = demand3.starts_released bytes are-bytes ts τ (demand2.rebuilds accepted)

  pub in_time : {k : ℕ} {s : Start} {d : State} → Log bytes ts k (Ok s) d → k < all_starts τ →
      s.time + (task ts s.task).time ≤ s.cycle * hyperperiod ts + due (task ts s.task) s.job
  in_time = demand3.starts_in_time bytes are-bytes ts τ (demand2.rebuilds accepted)

  -- each start is alone on the processor: not before the previous start + C, also across cycles
  pub alone : {k : ℕ} {s s' : Start} {d d' : State} → Log bytes ts k (Ok s) d → Log bytes ts (suc k) (Ok s') d' →
      suc k < all_starts τ → s.time + (task ts s.task).time ≤ s'.time
  alone = demand3.starts_alone bytes are-bytes ts τ (demand2.rebuilds accepted)

  -- an end before the start gives 21 and hands back the same state, so that the call can be made again
  pub too_early_refused : {k : ℕ} {s : Start} {d : State} → Log bytes ts k (Ok s) d → k < all_starts τ → (end : ℕ) → end < s.time →
      go_on bytes d end ≡ refused (located bytes (refusal 21 0)) d
  too_early_refused = demand3.refuses_early bytes are-bytes ts τ (demand2.rebuilds accepted)

  -- after the last start of the last cycle an honest end gives 24 and hands back the same state, so that it is so however often
  pub after_the_last : {k : ℕ} {s : Start} {d : State} → Log bytes ts k (Ok s) d → suc k ≡ all_starts τ → (end : ℕ) → Honest ts s end →
      go_on bytes d end ≡ refused (located bytes (refusal 24 0)) d
  after_the_last = demand3.after_the_last bytes are-bytes ts τ (demand2.rebuilds accepted)

  -- the offsets of each state stand where they should: of the ID to be used next and of each task's next PV, now and as at a cycle's start
  pub offsets_stand : {k : ℕ} {a : Result Start Located} {d : State} → Log bytes ts k a d → k < all_starts τ → StateOffsets bytes ts accepted.tables d
  offsets_stand log lt =
      rw (one_table accepted.good accepted.valid accepted.has)
      (standing.logs_offsets_stand bytes are-bytes ts τ (demand2.rebuilds accepted) log lt)

  -- every state has all its slots
  pub states_shaped : {k : ℕ} {a : Result Start Located} {d : State} → Log bytes ts k a d → k < all_starts τ → Shaped d
  states_shaped = demand3.states_shaped bytes are-bytes ts τ (demand2.rebuilds accepted)

  -- not vacuous: there is a log for every start; and an end 0 is before every start but the first
  pub logs_exist : (k : ℕ) → k < all_starts τ → (s : Start) × (d : State) × Log bytes ts k (Ok s) d
  logs_exist = demand3.logs_exist bytes are-bytes ts τ (demand2.rebuilds accepted)

  pub early_ends_exist : {k : ℕ} {s : Start} {d : State} → Log bytes ts (suc k) (Ok s) d → suc k < all_starts τ → 0 < s.time
  early_ends_exist = demand3.later_starts bytes are-bytes ts τ (demand2.rebuilds accepted)

-- from one instant to another each record that is no longer left moves its offset behind it, so that at one instant no other offsets stand there

pub offsets_move : {bytes : List ℕ} {ts : Set} {X : Tables} {t t' : ℕ} {x x' : List ℕ} (o o' : OffsetsOf) → OffsetsStand bytes ts X t x o →
    OffsetsStand bytes ts X t' x' o' →
    (o.idle + length (idles_since t X.idles) * size ID ≡ o'.idle + length (idles_since t' X.idles) * size ID)
    × ((i : ℕ) → i < length ts.tasks →
    slot o.inversions i + length (inversions_since i (slot x i) X.inversions) * size PV
    ≡ slot o'.inversions i + length (inversions_since i (slot x' i) X.inversions) * size PV)
offsets_move = standing.offsets_moved

pub one_place_for_offsets : {bytes : List ℕ} {ts : Set} {X : Tables} {t : ℕ} {x : List ℕ} (o o' : OffsetsOf) → OffsetsStand bytes ts X t x o →
    OffsetsStand bytes ts X t x o' → (o.idle ≡ o'.idle) × ((i : ℕ) → i < length ts.tasks → slot o.inversions i ≡ slot o'.inversions i)
one_place_for_offsets = standing.one_offsets

-- not vacuous: P2 is accepted

pub p2_is_accepted : check_tables P2_bytes ≡ Ok tt
unfolding check_tables frame_records hyperperiod
p2_is_accepted = refl

-- DEMAND 1, SETS: the refusal is the first of 5 to 9 in the document's order whose condition holds, and there is none exactly where the set is good

pub set_order : (s : TaskSet) → First (memory_tests s) (memory_fault s)
set_order = memory_order

pub set_refusals : (s : TaskSet) (r : Refusal) → judge_set s ≡ Err r → (memory_fault s ≡ some r) × (5 ≤ r.number) × (r.number ≤ 9)
unfolding judge_set
set_refusals s r e =
    by_option (memory_fault s)
    (λ n. let g : Ok (figures (memory_set s)) ≡ Err r = rw n at e in clash (cc))
    (λ q n. let g : Err q ≡ Err r = rw n at e in
    let same : q ≡ r = cc in
    let is : memory_fault s ≡ some r = n ∙ ap some same in
    let n = numbers.set_numbers s r is in
    (is, n.0, n.1))

-- DEMAND 1, IMAGES: the refusal is the first in the document's order, by record and then by number, whose condition holds

pub timetable_order : (bytes : List ℕ) (r : Refusal) → (check_timetable bytes ≡ Err (located bytes r)) ↔ RefusesTimetableImage bytes r
timetable_order bytes r = (order.timetable_refusals bytes (located bytes r), order.refuses_timetable bytes)

pub table_order : (bytes : List ℕ) (r : Refusal) → (check_tables bytes ≡ Err (located bytes r)) ↔ RefusesTableImage bytes r
table_order bytes r = (order.table_refusals bytes (located bytes r), order.refuses_tables bytes)

-- DEMAND 1, IMAGES: which numbers there are

pub timetable_numbers : (bytes : List ℕ) (r : Located) → check_timetable bytes ≡ Err r → (1 ≤ r.number) × (r.number ≤ 16)
timetable_numbers = numbers.timetable_numbers

pub table_numbers : (bytes : List ℕ) (r : Located) → check_tables bytes ≡ Err r →
    ((1 ≤ r.number) × (r.number ≤ 10)) ⊎ ((17 ≤ r.number) × (r.number ≤ 19))
table_numbers = numbers.table_numbers

-- DEMAND 1, IMAGES: deriving refuses as checking does, or with 20 an image that is accepted; and then every byte of the output is as it was

pub derive_refusals : (bytes old : List ℕ) (r : Located) → derive bytes old ≡ Err r →
    ((check_timetable bytes ≡ Err r) ⊎ ((r ≡ located bytes (refusal 20 0)) × (check_timetable bytes ≡ Ok tt))) × (derive_output bytes old ≡ old)
derive_refusals bytes old r e = (order.derive_refuses bytes old r e, order.derive_keeps bytes old r e)

pub derive_too_long : {bytes : List ℕ} {ts : Set} {τ : List Entry} (old : List ℕ) → TimetableImage bytes ts τ →
    (derive bytes old ≡ Err (located bytes (refusal 20 0))) ↔ (length old < length (table_image ts (tables ts τ)))
derive_too_long = order.derive_too_long

-- and rebuilding likewise

pub rebuild_refusals : (bytes old : List ℕ) (r : Located) → rebuild bytes old ≡ Err r →
    ((check_tables bytes ≡ Err r) ⊎ ((r ≡ located bytes (refusal 20 0)) × (check_tables bytes ≡ Ok tt))) × (rebuild_output bytes old ≡ old)
rebuild_refusals bytes old r e = (order.rebuild_refuses bytes old r e, order.rebuild_keeps bytes old r e)

pub rebuild_too_long : {bytes : List ℕ} {ts : Set} {τ : List Entry} (old : List ℕ) → TableImage bytes ts τ →
    (rebuild bytes old ≡ Err (located bytes (refusal 20 0))) ↔ (length old < length (timetable_image ts τ))
rebuild_too_long = order.rebuild_too_long

-- DEMAND 1, IMAGES: so each refuses exactly with the first that the document's order comes to, and 20 is the last

pub derive_order : (bytes old : List ℕ) → Bytes bytes → (r : Refusal) → (derive bytes old ≡ Err (located bytes r)) ↔ RefusesDeriving bytes (length old) r
derive_order = making.derive_order

pub rebuild_order : (bytes old : List ℕ) → Bytes bytes → (r : Refusal) → (rebuild bytes old ≡ Err (located bytes r)) ↔ RefusesRebuilding bytes (length old) r
rebuild_order = making.rebuild_order

-- THE DECISION RULE: the next instant is the first with a job waiting, and what is worked out there is what the rule decides in the document's words

pub decision_instant : (ts : Set) (h : ℕ) → GoodSet ts h → (x : List ℕ) (f t : ℕ) →
    NextInstant ts h x f t ↔ ((all_started h ts.tasks x ≡ false) × (instant (setting_of ts h) x f ≡ t))
decision_instant ts h g = rule.next_instants ts h (good_rules g)

-- THE DECISION RULE in replay, by the unused idle records and the inversion records of tables that 17 does not refuse

pub decision_rule : (ts : Set) (h : ℕ) (X : Tables) → records_fault ts h X ≡ none → (unused : List Idle) (x : List ℕ) (f t : ℕ) →
    NextInstant ts h x f t → (c : Choice) →
    DecidesBy ts h unused X.inversions x t c
    ↔ (decide (setting_of ts h) x t (first_idle unused t) (delays (setting_of ts h) X.inversions x) ≡ c)
decision_rule ts h X e unused x f t n c =
    let k = records_keep ts h X e in rule.tables_decide ts h X.inversions k.pairs k.in_range unused x t n.some_job c

-- THE DECISION RULE: replay gives exactly the starts that the rule makes from 0 on, with nothing started, until all jobs have started

pub replay_rule : (ts : Set) (X : Tables) → set_fault ts ≡ none → records_fault ts (hyperperiod ts) X ≡ none → (τ : List Entry) →
    (replay (setting ts) [] X ≡ gives τ) ↔ Replays ts (hyperperiod ts) X.inversions (cycle_start X) τ
replay_rule ts X good records τ = (given_replays ts X good records τ, replays_given ts X good records τ)

-- THE DECISION RULE in the dispatcher, by the records that byte offsets show, of any bytes

pub decision_rule_at_offsets : (bytes : List ℕ) (ts : Set) (a : Standing (List ℕ)) (t : ℕ) → NextInstant ts (hyperperiod ts) a.next a.free t →
    (c : Choice) →
    DecidesAt ts (hyperperiod ts) (lent bytes ts) a t c
    ↔ (decide (setting ts) a.next t (idle_now ((lent bytes ts).idle_shown a.idle) t)
    (shown_delays (setting ts) (lent bytes ts) a.next a.offsets) ≡ c)
decision_rule_at_offsets bytes ts a t n c = rule.offsets_decide bytes ts a t n.some_job c

-- DEMAND 1, DISPATCHER: beginning refuses exactly as table checking does, and hands back the stopped state

pub beginning_refuses : (bytes : List ℕ) (r : Located) → check_tables bytes ≡ Err r → begin bytes ≡ refused r stopped
beginning_refuses = beginning.begin_refuses

pub beginning_starts : (bytes : List ℕ) → Bytes bytes → check_tables bytes ≡ Ok tt → (s : Start) × ((begin bytes).answer ≡ Ok s)
beginning_starts bytes b e =
    let w = (accepted_tables bytes b).0 e in
    let k = demand2.rebuilds w.2 in (
      start_of (hyperperiod w.0) w.1 (0 / length w.1) (0 % length w.1),
      demand3.serves bytes b w.0 w.1 k (begun refl) (omega (arith, demand3.at_least_one bytes b w.0 w.1 k)),
    )

-- R-2, THE BYTE: where the place that is told is a record of the image, that record begins at the offset that is told; else the offset is 0

pub timetable_byte : (bytes : List ℕ) → Bytes bytes → (a : Result ⊤ Located) → check_timetable bytes ≡ a →
    TheByte 1 bytes (check_tells a).number (check_tells a).place (check_tells a).offset
timetable_byte = places.timetable_tells

pub tables_byte : (bytes : List ℕ) → Bytes bytes → (a : Result ⊤ Located) → check_tables bytes ≡ a →
    TheByte 2 bytes (check_tells a).number (check_tells a).place (check_tells a).offset
tables_byte = places.tables_tell

pub derive_byte : (bytes : List ℕ) → Bytes bytes → (old : List ℕ) (a : Result ℕ Located) → derive bytes old ≡ a →
    TheByte 1 bytes (make_tells a).number (make_tells a).place (make_tells a).offset
derive_byte = places.derive_tells

pub rebuild_byte : (bytes : List ℕ) → Bytes bytes → (old : List ℕ) (a : Result ℕ Located) → rebuild bytes old ≡ a →
    TheByte 2 bytes (make_tells a).number (make_tells a).place (make_tells a).offset
rebuild_byte = places.rebuild_tells

pub begin_byte : (bytes : List ℕ) → Bytes bytes →
    TheByte 2 bytes (start_tells (begin bytes).answer).number (start_tells (begin bytes).answer).place (start_tells (begin bytes).answer).offset
begin_byte bytes b =
    beginning.by_check bytes
    (λ r c. rw (beginning.begin_refuses bytes r c) (tables_byte bytes b (Err r) c))
    (λ c. let s = beginning_starts bytes b c in rw s.1 (tables_byte bytes b (Ok tt) c))

-- DEMAND 1, DISPATCHER: going on refuses with the first of 23, 25, 21, 22, 24, 25 whose condition holds, and with nothing else

pub going_on_order : (bytes : List ℕ) (s : State) (end : ℕ) → First (going_tests bytes s end) (start_refusal (go_on bytes s end).answer)
going_on_order = going.going_order

-- DEMAND 1, DISPATCHER: the number is one of 21 to 25, place and offset 0, and the state is the one that the number leaves

pub going_on_leaves : (bytes : List ℕ) (s : State) (end : ℕ) (r : Located) → (go_on bytes s end).answer ≡ Err r →
    (21 ≤ r.number) × (r.number ≤ 25) × (r.place ≡ 0) × (r.offset ≡ 0) × Leaves s r.number (go_on bytes s end).state
going_on_leaves bytes s end r e =
    let l = going.going_leaves bytes s end r e in
    let n = going.going_numbers l.2 in
    (n.0, n.1, l.0, l.1, l.2)

-- only the stopped state tests as stopped

pub only_the_stopped_state : (s : State) → Shaped s → is_stopped s ≡ true → s ≡ stopped
only_the_stopped_state s w e = only_stopped s w (stopped_says s e)

-- SLOTS FROM N UP begin at 0, as in the stopped state

pub slots_above_begin_at_zero : (bytes : List ℕ) → SameAbove (begin bytes).state.set.n (begin bytes).state stopped
slots_above_begin_at_zero = above.begins_zero

-- SLOTS FROM N UP are not read: whatever they hold, going on from a state with a task gives the same answer, and states that differ in them at most

pub slots_above_unread : (bytes : List ℕ) (s s' : State) (end : ℕ) → SameBelow s s' → 1 ≤ s.set.n →
    ((go_on bytes s end).answer ≡ (go_on bytes s' end).answer) × SameBelow (go_on bytes s end).state (go_on bytes s' end).state
slots_above_unread bytes s s' end b l = let w = above.going_alike bytes s s' b end l in (w.answers, w.states)

-- where going on answers a start the state has a task, so no start depends on them

pub no_start_by_slots_above : (bytes : List ℕ) (s s' : State) (end : ℕ) → SameBelow s s' → (a : Start) →
    (go_on bytes s end).answer ≡ Ok a → (go_on bytes s' end).answer ≡ Ok a
no_start_by_slots_above bytes s s' end b a e = sym (slots_above_unread bytes s s' end b (above.has_a_task bytes s end a e)).0 ∙ e

-- SLOTS FROM N UP pass on: the state after a start holds there what the state before held

pub slots_above_pass_on : (bytes : List ℕ) (s : State) (end : ℕ) (a : Start) → (go_on bytes s end).answer ≡ Ok a →
    SameAbove s.set.n (go_on bytes s end).state s
slots_above_pass_on = above.going_hands_on

-- DEMAND 1: no answer depends on a number of turns

pub framing_turns : (turns kind : ℕ) (s : Place) (bytes : List ℕ) → length bytes < turns → frame_from turns kind s bytes ≡ frame_records kind s bytes
framing_turns = frame_enough

pub replay_turns : (ts : Set) (turns : ℕ) (X : Tables) → set_fault ts ≡ none → records_fault ts (hyperperiod ts) X ≡ none → hyperperiod ts < turns →
    replay_from (setting ts) turns [] 0 X.idles X.inversions ≡ replay (setting ts) [] X
replay_turns = set_replay_enough

pub next_start_turns : (bytes : List ℕ) (ts : Set) (turns : ℕ) (a : Standing (List ℕ)) → hyperperiod ts < turns →
    next_start_in (setting ts) (lent bytes ts) turns a ≡ next_start (setting ts) (lent bytes ts) a
next_start_turns bytes ts turns a l =
    enough_turns (setting ts) (lent bytes ts) (lent_in_range bytes ts) (waits_later ts (hyperperiod ts)) (omega arith) turns
    (suc (hyperperiod ts)) a (omega arith) (omega arith) (omega arith) (omega arith)

-- R-4: the image at the front is measured exactly when some valid timetable has its tables, and the figures are that timetable's, by document 02's words

pub measured_images : (bytes : List ℕ) → Bytes bytes → (figures : List ℤ) → (measured bytes ≡ gives figures) ↔ FiguresOfImage bytes figures
measured_images = axis.measured_images

-- R-4: a timetable has one list of figures

pub only_one_axis : {ts : Set} {h : ℕ} {τ : List Entry} {x y : List ℤ} → AxisFigures ts h τ x → AxisFigures ts h τ y → x ≡ y
only_one_axis = axis.one_axis

-- P1 TO P12, their figures, document 000's figure 1 and source document 001's example, in a single table

pub worked_cases : map worked_out worked ≡ worked
worked_cases = cases.all_worked
