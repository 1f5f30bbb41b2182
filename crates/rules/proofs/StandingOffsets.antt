-- The offsets of a state in service stand where document 01 says: the ID offset before the records that are left at the running job's start, a task's before
-- those of its next job and of higher tasks. Assumes nothing.
use mathlib.Core.Path.{◌≡◌, refl, sym, ◌∙◌, ap}
use mathlib.Core.Bool.{true}
use mathlib.Core.List.{List, [], ◌∷◌, ◌++◌, map}
use mathlib.Core.Option.{none}
use Prim.Native.Nat.{ℕ, zero, suc, ◌+◌, ◌*◌, ◌/◌, ◌%◌, ◌≤◌, ◌<◌}
use native.Mathlib.Omega.{arith}
use lib.ListN.{length, take, drop, length-append, take-append-drop, length-drop, length-map}
use lib.Dec.{ltb, leb}
use lib.Seq.{take-suc, drop-cons, drop-drop, drop-append_seam}
use borrow.Author.Tests.{ltb-true, lt-ltb, le-ltb}
use Rattle.fields.specs.Number.{Bytes}
use Rattle.rules.specs.declared.Entry.{Entry}
use Rattle.rules.specs.declared.Idle.{Idle}
use Rattle.rules.specs.declared.Inversion.{Inversion}
use Rattle.rules.specs.declared.Offsets.{Offsets as OffsetsOf}
use Rattle.rules.specs.declared.Dispatcher.{Dispatcher as State}
use Rattle.std.specs.Prelude.{Result}
use Rattle.rules.specs.declared.Located.{Located}
use Rattle.rules.specs.declared.Start.{Start}
use Rattle.rules.specs.Refusals.{gives}
use Rattle.rules.specs.Tasks.{Set, task, hyperperiod, set_fault}
use Rattle.rules.specs.Timetable.{entry_at}
use Rattle.rules.specs.Setting.{Setting, Tables, instant}
use Rattle.rules.specs.Priority.{slot, start_job, setting}
use Rattle.rules.specs.Irregularities.{at_most, gap, forced_idles}
use Rattle.rules.specs.Judging.{tables}
use Rattle.rules.specs.Marks.{Mark, ID, PV, EN, size}
use Rattle.rules.specs.Image.{Record, image, records, end_record, of_idle, of_inversion, head_length}
use Rattle.rules.specs.Operations.{rebuilt}
use Rattle.rules.specs.Offsets.{first_offsets}
use Rattle.rules.specs.Dispatcher.{after_running}
use Rattle.rules.specs.Calls.{Log, all_starts}
use Rattle.rules.specs.StandingOffsets.{idles_since, inversions_since, last_records, OffsetsStand, StateOffsets}
use Rattle.rules.proofs.Cases.{by_bool, by_act}
use Rattle.rules.proofs.Theory.{ValidFrom, entry, Rising, Pairs}
use Rattle.rules.proofs.Pairs.{at_most_next}
use Rattle.rules.proofs.Derived.{idles_rising}
use Rattle.rules.proofs.Replayed.{yields}
use Rattle.rules.proofs.JudgedTables.{laws}
use Rattle.rules.proofs.Framed.{behind_written}
use Rattle.rules.proofs.Images.{records_before, records_length, both_lengths}
use Rattle.rules.proofs.NextJobs.{forced_idles_same}
use Rattle.rules.proofs.Slots.{by_slots}
use Rattle.rules.proofs.ShownAt.{Stand}
use Rattle.rules.proofs.OneMoreStart.{after_starts}
use Rattle.rules.proofs.OffsetReplay.{first_inversion_offset, before_pair, before_few, ReplaysAt, replay_begins}
use Rattle.rules.proofs.UsedIdles.{kept_own}
use Rattle.rules.proofs.Serving.{At, Served, rest_given}
use Rattle.rules.proofs.Demand3.{its_service, an_entry, serves_nth}

-- behind the first k of records of one mark stand the others
behind_records : {A : Type 0} (bytes : List ℕ) (m : Mark) (of : A → List ℕ) (rest : List Record) (k : ℕ) (xs : List A) (o : ℕ) →
    drop o bytes ≡ image (records m (map of xs) ++ rest) → k ≤ length xs → drop (o + k * size m) bytes ≡ image (records m (map of (drop k xs)) ++ rest)
behind_records bytes m of rest zero xs o here l = let e : o + 0 * size m ≡ o = omega arith in rw e here
behind_records bytes m of rest (suc k) [] o here l = absurd (omega arith)
behind_records bytes m of rest (suc k) (x ∷ xs) o here l =
    let behind : drop (o + size m) bytes ≡ image (records m (map of xs) ++ rest) =
    sym (drop-drop (size m) o bytes) ∙ rw here (behind_written m (of x) (image (records m (map of xs) ++ rest))) in
    let e : o + suc k * size m ≡ o + size m + k * size m = omega arith in
    rw e (behind_records bytes m of rest k xs (o + size m) behind (omega arith))

-- records that rise from an instant on all start then or later
idles_all_since : (h t from : ℕ) (idles : List Idle) → t ≤ from → Rising h from idles → idles_since t idles ≡ idles
idles_all_since h t from [] le z = refl
idles_all_since h t from (r ∷ idles) le z =
    rw (le-ltb r.start t (omega arith), idles_since)
    (ap (λ (k : List Idle). r ∷ k) (idles_all_since h t (suc (r.start + r.length)) idles (omega arith) z.3))

-- of two lists those of both
idles_since_append : (t : ℕ) (k l : List Idle) → idles_since t (k ++ l) ≡ idles_since t k ++ idles_since t l
idles_since_append t [] l = refl
idles_since_append t (r ∷ k) l =
    by_bool (ltb r.start t) (λ b. rw (b, idles_since) (idles_since_append t k l))
    (λ b. rw (b, idles_since) (ap (λ (j : List Idle). r ∷ j) (idles_since_append t k l)))

-- pairs that rise from a pair at or above a job's are all left for it
inversions_all_since : (i k a b : ℕ) (p : List Inversion) → at_most i k a b ≡ true → Pairs a (suc b) p → inversions_since i k p ≡ p
inversions_all_since i k a b [] h z = refl
inversions_all_since i k a b (r ∷ p) h z =
    let here : at_most i k r.task r.job ≡ true = at_most_next i k a b r.task r.job h z.0 in
    rw (here, inversions_since) (ap (λ (q : List Inversion). r ∷ q) (inversions_all_since i k r.task r.job p here z.1))

-- behind the records before a job's pair stand those that are left for it
inversions_behind : (i k a b : ℕ) (p : List Inversion) → Pairs a b p → drop (before_pair i k p) p ≡ inversions_since i k p
inversions_behind i k a b [] z = refl
inversions_behind i k a b (r ∷ p) z =
    by_bool (at_most i k r.task r.job)
    (λ c. rw (c, before_pair, inversions_since)
    (ap (λ (q : List Inversion). r ∷ q) (sym (inversions_all_since i k r.task r.job p c z.1))))
    (λ c. rw (c, before_pair, inversions_since) (inversions_behind i k r.task (suc r.job) p z.1))

module _ {bytes : List ℕ} {ts : Set} {X : Tables} (st : Stand bytes ts X (records_before ts X)) where
  -- a task's offset that is so many records behind the first PV as stand before its next job's pair
  task_stands : (i k o : ℕ) → o ≡ first_inversion_offset ts X + before_pair i k X.inversions * size PV →
      drop o bytes ≡ image (last_records ts X [] (inversions_since i k X.inversions))
  task_stands i k o e =
      let p : List Inversion = X.inversions in
      let en : List Record = end_record (records_before ts X) in
      rw (e, ← inversions_behind i k 0 0 p st.keep_rules.pairs)
      (behind_records bytes PV of_inversion en (before_pair i k p) p (first_inversion_offset ts X) st.inversions_there (before_few i k p))

  -- an ID offset that is so many records behind the tasks as were used, where those that are left are the ones from an instant on
  idle_stands : (t o : ℕ) (used left : List Idle) → X.idles ≡ used ++ left → idles_since t X.idles ≡ left → o ≡ head_length ts + length used * size ID →
      drop o bytes ≡ image (last_records ts X (idles_since t X.idles) X.inversions)
  idle_stands t o used left all since e =
      let rest : List Record = records PV (map of_inversion X.inversions) ++ end_record (records_before ts X) in
      let split : drop (length used) X.idles ≡ left = rw all (drop-append_seam used left) in
      let few : length used ≤ length X.idles = omega (arith, ap length all, length-append used left) in
      rw (e, since, ← split) (behind_records bytes ID of_idle rest (length used) X.idles (head_length ts) st.idles_there few)

-- an offset and the records behind it make up the image
offset_and_rest : (bytes : List ℕ) (ts : Set) (X : Tables) (idles : List Idle) (p : List Inversion) (o : ℕ) →
    drop o bytes ≡ image (last_records ts X idles p) → o + (length idles * size ID + (length p * size PV + size EN)) ≡ length bytes
offset_and_rest bytes ts X idles p o e =
    let us : List (List ℕ) = map of_idle idles in
    let vs : List (List ℕ) = map of_inversion p in
    let en : List Record = end_record (records_before ts X) in
    let rest : length (image (last_records ts X idles p)) ≡ length idles * size ID + (length p * size PV + size EN) =
    both_lengths (records ID us) (records PV vs ++ en)
    ∙ omega (
      arith,
      both_lengths (records PV vs) en,
      records_length ID us,
      records_length PV vs,
      length-map idles of_idle,
      length-map p of_inversion,
    ) in
    omega (arith, simp length-drop at (ap length e))

-- between two instants each record that is no longer left moves its offset by its size
pub offsets_moved : {bytes : List ℕ} {ts : Set} {X : Tables} {t t' : ℕ} {x x' : List ℕ} (o o' : OffsetsOf) → OffsetsStand bytes ts X t x o →
    OffsetsStand bytes ts X t' x' o' →
    (o.idle + length (idles_since t X.idles) * size ID ≡ o'.idle + length (idles_since t' X.idles) * size ID)
    × ((i : ℕ) → i < length ts.tasks →
    slot o.inversions i + length (inversions_since i (slot x i) X.inversions) * size PV
    ≡ slot o'.inversions i + length (inversions_since i (slot x' i) X.inversions) * size PV)
offsets_moved {bytes} {ts} {X} {t} {t'} {x} {x'} o o' a b = (
  omega (
    arith,
    offset_and_rest bytes ts X (idles_since t X.idles) X.inversions o.idle a.idle,
    offset_and_rest bytes ts X (idles_since t' X.idles) X.inversions o'.idle b.idle,
  ),
  λ i l. omega (
    arith,
    offset_and_rest bytes ts X [] (inversions_since i (slot x i) X.inversions) (slot o.inversions i) (a.inversions i l),
    offset_and_rest bytes ts X [] (inversions_since i (slot x' i) X.inversions) (slot o'.inversions i) (b.inversions i l),
  ),
)

-- so that at one instant, with the same next jobs, they are the same
pub one_offsets : {bytes : List ℕ} {ts : Set} {X : Tables} {t : ℕ} {x : List ℕ} (o o' : OffsetsOf) → OffsetsStand bytes ts X t x o →
    OffsetsStand bytes ts X t x o' → (o.idle ≡ o'.idle) × ((i : ℕ) → i < length ts.tasks → slot o.inversions i ≡ slot o'.inversions i)
one_offsets o o' a b = let w = offsets_moved o o' a b in (omega (arith, w.0), λ i l. omega (arith, w.1 i l))

-- the records of a gap before a start start before it
gap_before : (G : Setting) (turns : ℕ) (x : G.Started) (t s u : ℕ) → s ≤ u → idles_since u (gap G turns x t s) ≡ []
gap_before G zero x t s u le = refl
gap_before G (suc turns) x t s u le =
    by_bool (ltb t s)
    (λ b.
    let before : ltb t u ≡ true = lt-ltb t u (omega (arith, ltb-true t s b)) in
    by_act (G.baseline x t) (λ j c. rw (b, c, gap) (rw (before, idles_since)))
    (λ r c. by_bool (leb r s) (λ d. rw (b, c, d, gap) (gap_before G turns x r s u le)) (λ d. rw (b, c, d, gap) (rw (before, idles_since)))))
    (λ b. rw (b, gap))

module _ (ts : Set) (good : set_fault ts ≡ none) where
  -- of a valid timetable's forced idles those from an entry's start on are the ones behind that entry
  forced_since : {x : List ℕ} {f : ℕ} (σ : List Entry) (e : Entry) (rest : List Entry) → ValidFrom (setting ts) x f (σ ++ (e ∷ rest)) →
      (f ≤ e.start)
      × (idles_since e.start (forced_idles (setting ts) x f (σ ++ (e ∷ rest)))
      ≡ forced_idles (setting ts) (after_starts x (σ ++ (e ∷ []))) (e.start + (task ts e.task).time) rest)
  forced_since [] e rest (entry {x = x} {f = f} v w) =
      let t : ℕ = instant (setting ts) x f in
      let u : ℕ = e.start + (task ts e.task).time in
      let left : List Idle = forced_idles (setting ts) (start_job x e.task) u rest in (
        (laws ts good).no_overlap x f e.task e.start v,
        idles_since_append e.start (gap (setting ts) e.start x t e.start) left
            ∙ rw (gap_before (setting ts) e.start x t e.start e.start (omega arith))
            (idles_all_since (hyperperiod ts) e.start u left (omega arith) (idles_rising (setting ts) (laws ts good) w)),
      )
  forced_since (d ∷ σ) e rest (entry {x = x} {f = f} v w) =
      let t : ℕ = instant (setting ts) x f in
      let later = forced_since {x = start_job x d.task} σ e rest w in
      let free : d.start < d.start + (task ts d.task).time = (laws ts good).free_later d.task d.start in (
        omega (arith, (laws ts good).no_overlap x f d.task d.start v, later.0),
        idles_since_append e.start (gap (setting ts) d.start x t d.start) _
            ∙ rw (gap_before (setting ts) d.start x t d.start e.start (omega arith)) later.1,
      )

-- the state after entry r of a cycle has started
module _ {bytes : List ℕ} {ts : Set} {X : Tables} {τ : List Entry} (g : Served bytes ts X τ) (c r : ℕ) (s : State) (a : At bytes ts X τ c r s)
    (lt : r < length τ) where
  -- the ID records that are left are those from the running job's start on
  left_since : idles_since s.running.start X.idles ≡ a.ready.keeps.left
  left_since =
      let h : ℕ = hyperperiod ts in
      let e : Entry = entry_at τ r in
      let rest : List Entry = drop (suc r) τ in
      let R = a.ready.replays in
      let free : ℕ = (after_running s).free in
      let free-is : free ≡ e.start + (task ts e.task).time = rw (a.kept.same_set, a.running_task, a.running_start) in
      let forced : forced_idles (setting ts) [] 0 τ ≡ X.idles = ap (λ (Y : Tables). Y.idles) g.own in
      let valid : ValidFrom (setting ts) [] 0 τ = yields (setting ts) (laws ts g.sound) (suc h) [] 0 X.idles X.inversions τ g.whole in
      let rest-valid =
      yields (setting ts) (laws ts g.sound) (suc h) s.next free R.idles_left X.inversions rest (rest_given bytes ts X τ g a.ready) in
      let one_more : take (suc r) τ ≡ take r τ ++ (e ∷ []) = take-suc τ r (record { task = 0; start = 0 }) lt in
      let parted : τ ≡ take r τ ++ (e ∷ rest) = sym (take-append-drop r τ) ∙ ap (λ (σ : List Entry). take r τ ++ σ) (drop-cons τ r (record { task = 0; start = 0 }) lt) in
      let left : a.ready.keeps.left ≡ forced_idles (setting ts) s.next free rest =
      kept_own (setting ts) (laws ts g.sound) a.ready.keeps.so_far rest rest-valid
      (ap (forced_idles (setting ts) [] 0) (take-append-drop (suc r) τ) ∙ forced) in
      rw a.running_start
      (ap (idles_since e.start) (sym forced ∙ ap (forced_idles (setting ts) [] 0) parted)
      ∙ (forced_since ts g.sound (take r τ) e rest (rw parted at valid)).1
      ∙ rw (← one_more, ← free-is)
      (sym (forced_idles_same (setting ts) (by_slots ts h) s.next (after_starts [] (take (suc r) τ)) free rest R.started) ∙ sym left))

  -- its offsets stand where they should
  pub offsets_stand : StateOffsets bytes ts X s
  offsets_stand =
      let st = g.stand in
      let R = a.ready.replays in
      let K = a.ready.keeps in
      let start : ReplaysAt bytes ts X [] [] 0 (first_offsets ts X).inversions (first_offsets ts X).idle =
      replay_begins st g.sound [] (first_offsets ts X).inversions (λ i l. refl) (λ i l. refl) in
      record {
        now = record {
          idle = idle_stands st s.running.start s.now.idle K.used K.left K.all left_since K.used_offset;
          inversions = λ i l. task_stands st i (slot s.next i) (slot s.now.inversions i) (R.inversion_offsets i l);
        };
        first = rw a.kept.first (record {
          idle = idle_stands st 0 (head_length ts) [] X.idles refl (idles_all_since (hyperperiod ts) 0 0 X.idles (omega arith) st.keep_rules.rising)
              (omega arith);
          inversions = λ i l. task_stands st i (slot [] i) (slot (first_offsets ts X).inversions i) (start.inversion_offsets i l);
        });
      }

-- in the state of every log they do, in the image of the timetable's tables
pub logs_offsets_stand : (bytes : List ℕ) (are-bytes : Bytes bytes) (ts : Set) (τ : List Entry)
    (accepted : rebuilt bytes ≡ gives (record { set = ts; entries = τ })) {k : ℕ} {a : Result Start Located} {d : State} → Log bytes ts k a d →
    k < all_starts τ → StateOffsets bytes ts (tables ts τ) d
logs_offsets_stand bytes are-bytes ts τ accepted {k} {d = d} log lt =
    let g = its_service bytes are-bytes ts τ accepted in
    rw g.own
    (offsets_stand g (k / length τ) (k % length τ) d (serves_nth bytes are-bytes ts τ accepted log lt).at (an_entry bytes are-bytes ts τ accepted k))
