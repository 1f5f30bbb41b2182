-- Replay at byte offsets: replay of the tables that stand in an image goes from start to start as the dispatcher's next start says. Assumes nothing.
use mathlib.Core.Path.{◌≡◌, refl, sym, ◌∙◌, ap}
use mathlib.Core.Bool.{Bool, true, false}
use mathlib.Core.List.{List, [], ◌∷◌, ◌++◌, append_assoc}
use mathlib.Core.Option.{Option, none, some}
use Prim.Native.Nat.{ℕ, suc, ◌+◌, ◌*◌, ◌-◌, ◌≤◌, ◌<◌}
use native.Mathlib.Omega.{arith}
use native.Mathlib.Nat.{zero-add}
use lib.Dec.{ltb}
use lib.ListN.{length, replicate, length-append}
use borrow.Author.Tests.{ltb-true, ltb-false, eq-eqb}
use Rattle.rules.specs.declared.Entry.{Entry}
use Rattle.rules.specs.declared.Idle.{Idle}
use Rattle.rules.specs.declared.Inversion.{Inversion}
use Rattle.rules.specs.declared.Refusal.{Refusal}
use Rattle.rules.specs.Refusals.{gives, refuses, refusal}
use Rattle.rules.specs.Tasks.{Set, limits, task, release, jobs, all_jobs, hyperperiod, set_fault}
use Rattle.rules.specs.Setting.{Setting, Tables, run}
use Rattle.rules.specs.Priority.{slot, start_job, all_started, setting}
use Rattle.rules.specs.Irregularities.{at_most, insert, runs, inversion_of, inversions}
use Rattle.rules.specs.Decision.{is_of, start_task, delay_of, replay_from, replay}
use Rattle.rules.specs.Judging.{idle_in_range, inversion_in_range}
use Rattle.rules.specs.Marks.{Mark, TS, TK, SL, ID, PV, EN, size}
use Rattle.rules.specs.Image.{Record, to_idle, to_inversion, head_length}
use Rattle.rules.specs.Offsets.{Shown, unreadable, no_record, shows, record_at, shown_if, idle_by, idle_in, inversion_by, inversion_in, lent, own_delay, past_own, standing, next_is, stuck, next_start, moved, lower_before, first_offsets}
use Rattle.rules.specs.Dispatcher.{zeros, counts_possible}
use Rattle.rules.proofs.Cases.{by_bool, by_option, by_eq, by_pair, differ, clash}
use Rattle.rules.proofs.Theory.{Rising, Pairs}
use Rattle.rules.proofs.Lowest.{lowest_from_some}
use Rattle.rules.proofs.Pairs.{at_most_le, delay_here, delay_there, delay_bound, delay_insert_same}
use Rattle.rules.proofs.RoundTrip.{decided_by, recorded_some}
use Rattle.rules.proofs.Replayed.{by_decision}
use Rattle.rules.proofs.PriorityLaws.{slot_empty, slot_start_same, slot_start_other, StartKeepsRules, keeps_rules}
use Rattle.rules.proofs.Arrays.{slot_zeros}
use Rattle.rules.proofs.ValidTimetables.{jobs_left, all_left, none_left, one_left}
use Rattle.rules.proofs.JudgedTables.{laws}
use Rattle.rules.proofs.Records.{keep_records}
use Rattle.rules.proofs.LateJobs.{refused_late}
use Rattle.rules.proofs.NextTurns.{shown_if_none}
use Rattle.rules.proofs.Shown.{ShowsIdles, own_as_table, slot_put_same, slot_put_other, not_both, own_behind, lower_behind, other_ahead}
use Rattle.rules.proofs.Starts.{Placed, placed_moved}
use Rattle.rules.proofs.NextToStart.{Comes, comes_next}
use Rattle.rules.proofs.NextJobs.{replay_same}
use Rattle.rules.proofs.Slots.{Same, start_same, by_slots, counts_zero, counts_start}
use Rattle.rules.proofs.PossibleStates.{counts_say}
use Rattle.rules.proofs.ShownAt.{is_lower, is_not_lower, slot_first, Stand, first_idles, first_inversions}
use Rattle.rules.proofs.OneMoreStart.{starts_before, starts_before_more, starts_before_end, starts_before_refusal, after_starts, after_one_more, jobs_left_same, inversions_other, inversions_own}

-- the offset of the first PV, or of EN where there is none
abbrev pub first_inversion_offset : Set → Tables → ℕ
first_inversion_offset ts X = head_length ts + length X.idles * size ID

-- the number of a table's records before a pair (task, job)
abbrev pub before_pair : ℕ → ℕ → List Inversion → ℕ
before_pair i k [] = 0
before_pair i k (r ∷ p) = elim (at_most i k r.task r.job) [ true ↦ 0 | false ↦ suc (before_pair i k p) ]

-- before a task's first job they are those of lower tasks
before_first : (i : ℕ) (p : List Inversion) → lower_before i p ≡ before_pair i 0 p
before_first i [] = refl
before_first i (r ∷ p) =
    by_bool (ltb r.task i) (λ b. rw (b, lower_before) (rw (is_lower i r (ltb-true r.task i b), before_pair) (ap suc (before_first i p))))
    (λ b. rw (b, lower_before) (rw (is_not_lower i r (ltb-false r.task i b), before_pair)))

-- a table in order from a pair on has none before it
before_all : (i k : ℕ) (p : List Inversion) → Pairs i k p → before_pair i k p ≡ 0
before_all i k [] z = refl
before_all i k (r ∷ p) z = rw (z.0, before_pair)

-- as many stand before a task's next job, where the job has no record
pub before_without : (i k : ℕ) (p : List Inversion) → delay_of p i k ≡ none → before_pair i (suc k) p ≡ before_pair i k p
before_without i k [] e = refl
before_without i k (r ∷ p) e =
    by_pair r.task i r.job k
    (λ u v. let g : some r.delay ≡ none = sym (delay_here r p i k u v) ∙ e in clash (cc))
    (λ n. by_bool (at_most i k r.task r.job) (λ c. rw (c, other_ahead r i k c n, before_pair))
    (λ c. rw (c, lower_behind r i k c, before_pair) (ap suc (before_without i k p (sym (delay_there r p i k n) ∙ e)))))

-- and one more, where it has one
pub before_with : (a b i k d : ℕ) (p : List Inversion) → Pairs a b p → delay_of p i k ≡ some d → before_pair i (suc k) p ≡ suc (before_pair i k p)
before_with a b i k d [] z e = clash (cc)
before_with a b i k d (r ∷ p) z e =
    by_pair r.task i r.job k
    (λ u v.
    let all : Pairs i (suc k) p = rw (u, v) at z.1 in
    by_bool (at_most i k r.task r.job) (λ c. rw (c, own_behind r i k u v, before_pair) (ap suc (before_all i (suc k) p all)))
    (λ c. differ (sym (own_ahead u v) ∙ c)))
    (λ n.
    let g : delay_of p i k ≡ some d = sym (delay_there r p i k n) ∙ e in
    by_bool (at_most i k r.task r.job)
    (λ c. absurd (not_both i k r.task r.job c (delay_bound r.task (suc r.job) p z.1 i k d g)))
    (λ c. rw (c, lower_behind r i k c, before_pair) (ap suc (before_with r.task (suc r.job) i k d p z.1 g))))
  where
    -- a job's own record is at its pair
    own_ahead : r.task ≡ i → r.job ≡ k → at_most i k r.task r.job ≡ true
    own_ahead u v = at_most_le i k r.task r.job (sym u) (omega arith)

-- they are no more than the table has
pub before_few : (i k : ℕ) (p : List Inversion) → before_pair i k p ≤ length p
before_few i k [] = omega arith
before_few i k (r ∷ p) =
    by_bool (at_most i k r.task r.job) (λ c. rw (c, before_pair) (omega arith))
    (λ c. rw (c, before_pair) (omega (arith, before_few i k p)))

-- a record is shown with the offset after it
shown_if_after : {B : Type 0} (b : Bool) (r r' : B) (w w' : ℕ) → shown_if b (shows r w) ≡ shows r' w' → w' ≡ w
shown_if_after true r r' w w' e = cc
shown_if_after false r r' w w' e = clash (cc)

module _ (bytes : List ℕ) (ts : Set) (o : ℕ) where
  -- behind an ID that is shown stands the next record
  pub idle_after : (r : Idle) (after : ℕ) → (lent bytes ts).idle_shown o ≡ shows r after → after ≡ o + size ID
  idle_after r after e = in-record (record_at bytes o) e
    where
      in-mark : (m : Mark) (v : List ℕ) → idle_by ts o m v ≡ shows r after → after ≡ o + size ID
      in-mark TS v e = clash (cc)
      in-mark TK v e = clash (cc)
      in-mark SL v e = clash (cc)
      in-mark ID v e = shown_if_after (idle_in_range (hyperperiod ts) (to_idle v)) (to_idle v) r (o + size ID) after e
      in-mark PV v e = shown_if_none (inversion_in_range ts (hyperperiod ts) (to_inversion v)) r after e
      in-mark EN v e = clash (cc)

      in-record : (c : Option Record) → idle_in ts o c ≡ shows r after → after ≡ o + size ID
      in-record none e = clash (cc)
      in-record (some c) e = in-mark c.mark c.values e

  -- and behind a PV
  pub inversion_after : (r : Inversion) (after : ℕ) → (lent bytes ts).inversion_shown o ≡ shows r after → after ≡ o + size PV
  inversion_after r after e = in-record (record_at bytes o) e
    where
      in-mark : (m : Mark) (v : List ℕ) → inversion_by ts o m v ≡ shows r after → after ≡ o + size PV
      in-mark TS v e = clash (cc)
      in-mark TK v e = clash (cc)
      in-mark SL v e = clash (cc)
      in-mark ID v e = clash (cc)
      in-mark PV v e = shown_if_after (inversion_in_range ts (hyperperiod ts) (to_inversion v)) (to_inversion v) r (o + size PV) after e
      in-mark EN v e = clash (cc)

      in-record : (c : Option Record) → inversion_in ts o c ≡ shows r after → after ≡ o + size PV
      in-record none e = clash (cc)
      in-record (some c) e = in-mark c.mark c.values e

-- an offset that shows no record of a job stays when the job starts
pub past_without : (s : Shown Inversion) (i k o : ℕ) → own_delay s i k ≡ none → past_own s i k o ≡ o
past_without unreadable i k o e = refl
past_without no_record i k o e = refl
past_without (shows r after) i k o e =
    by_bool (is_of r i k) (λ b. let g : some r.delay ≡ none = rw (b, own_delay) at e in clash (cc)) (λ b. rw (b, past_own))

-- one that shows its record moves behind it
pub past_with : (s : Shown Inversion) (i k o d : ℕ) → ((r : Inversion) (after : ℕ) → s ≡ shows r after → after ≡ o + size PV) →
    own_delay s i k ≡ some d → past_own s i k o ≡ o + size PV
past_with unreadable i k o d h e = clash (cc)
past_with no_record i k o d h e = clash (cc)
past_with (shows r after) i k o d h e =
    by_bool (is_of r i k) (λ b. rw (b, past_own) (h r after refl)) (λ b. let g : none ≡ some d = rw (b, own_delay) at e in clash (cc))

-- with no job started every slot holds 0
pub zeros_same : (n : ℕ) → Same n zeros []
zeros_same n i l = slot_zeros limits.tasks i ∙ sym (slot_empty i)

-- a start that the baseline would not make was recorded with its delay
inverted_recorded : (G : Setting) (p : List Inversion) (x : G.Started) (idles : List Idle) (i t : ℕ) → decided_by G x t idles p ≡ start_task i →
    runs (G.baseline x t) i ≡ false → delay_of p i (G.next_job x i) ≡ some (t - G.release i (G.next_job x i))
inverted_recorded G p x idles i t decided e =
    by_decision G x t idles p (λ r rest q s d. clash (cc))
    (λ j l d.
    let g : start_task j ≡ start_task i = sym d ∙ decided in
    let q : j ≡ i = cc in
    recorded_some G p x t i (rw (← q) (lowest_from_some G.tasks 0 _ j l))
    (λ v a b. let same : v ≡ t - G.release i (G.next_job x i) = omega arith in a ∙ ap some same))
    (λ j b d.
    let g : start_task j ≡ start_task i = sym d ∙ decided in
    let q : j ≡ i = cc in
    let same : runs (run j) i ≡ false = rw b at e in
    differ (sym (eq-eqb j i q) ∙ same))
    (λ r b d. clash (cc))

-- where replay stands at offsets after starts: what has started, the instant from which the processor is free, the tasks' offsets, the ID offset
pub record ReplaysAt (bytes : List ℕ) (ts : Set) (X : Tables) (σ : List Entry) (x : List ℕ) (f : ℕ) (offsets : List ℕ) (o : ℕ) : Type 0 where
  pub idles_used : List Idle
  pub idles_left : List Idle
  pub all_idles : X.idles ≡ idles_used ++ idles_left
  pub replayed : replay (setting ts) [] X
      ≡ starts_before σ (replay_from (setting ts) (suc (hyperperiod ts)) x f idles_left X.inversions)
  pub free_in_cycle : f ≤ hyperperiod ts
  pub counts : counts_possible (hyperperiod ts) ts.tasks x ≡ true
  pub starts_left : length σ + jobs_left (hyperperiod ts) ts.tasks x ≡ all_jobs (hyperperiod ts) ts
  pub rising : Rising (hyperperiod ts) 0 idles_left
  pub idles_shown : ShowsIdles (lent bytes ts) o idles_left
  pub placed : Placed (setting ts) (lent bytes ts) X.inversions x offsets
  pub idle_offset : o ≡ head_length ts + length idles_used * size ID
  pub inversion_offsets : (i : ℕ) → i < length ts.tasks →
      slot offsets i ≡ first_inversion_offset ts X + before_pair i (slot x i) X.inversions * size PV
  -- what has started is what the starts started; each inversion so far has its record
  pub started : Same (length ts.tasks) x (after_starts [] σ)
  pub inverted_so_far : (i k d : ℕ) → delay_of (inversions (setting ts) [] σ) i k ≡ some d → delay_of X.inversions i k ≡ some d

-- a start of a task's next job, and where replay stands after it
pub record StartsNext (bytes : List ℕ) (ts : Set) (X : Tables) (σ : List Entry) (x offsets : List ℕ) (i t w : ℕ) : Type 0 where
  pub goes_on : ReplaysAt bytes ts X (σ ++ (record { task = i; start = t } ∷ [])) (start_job x i) (t + (task ts i).time)
      (moved (setting ts) (lent bytes ts) x offsets i) w
  pub a_task : i < length ts.tasks
  pub a_job : slot x i < jobs (hyperperiod ts) (task ts i)
  pub released : release (task ts i) (slot x i) ≤ t
  pub ends_in_cycle : t + (task ts i).time ≤ hyperperiod ts

module _ {bytes : List ℕ} {ts : Set} {X : Tables} {n : ℕ} (st : Stand bytes ts X n) (good : set_fault ts ≡ none) where
  -- at the start of a cycle
  pub replay_begins : (x offsets : List ℕ) → Same (length ts.tasks) x [] → Same (length ts.tasks) offsets (first_offsets ts X).inversions →
      ReplaysAt bytes ts X [] x 0 offsets (first_offsets ts X).idle
  replay_begins x offsets sx so = record {
    idles_used = [];
    idles_left = X.idles;
    all_idles = refl;
    replayed = sym (replay_same (setting ts) (by_slots ts (hyperperiod ts)) (suc (hyperperiod ts)) x [] 0 X.idles X.inversions sx);
    free_in_cycle = omega arith;
    counts = counts_zero (hyperperiod ts) ts.tasks x sx;
    starts_left = omega (arith, jobs_left_same (hyperperiod ts) ts.tasks x [] sx, all_left (hyperperiod ts) ts.tasks);
    rising = st.keep_rules.rising;
    idles_shown = first_idles st;
    placed = λ i l. rw (so i l, sx i l, slot_empty i) (first_inversions st i l);
    idle_offset = omega arith;
    inversion_offsets = λ i l. so i l
        ∙ slot_first ts X 0 (length ts.tasks) i (replicate (limits.tasks - length ts.tasks) 0) l
        ∙ rw (zero-add i, sx i l, slot_empty i, before_first i X.inversions);
    started = sx;
    inverted_so_far = λ i k d e. clash (cc);
  }

  module _ {σ : List Entry} {x : List ℕ} {f : ℕ} {offsets : List ℕ} {o : ℕ} (R : ReplaysAt bytes ts X σ x f offsets o) where
    -- no next job number is above the jobs of a cycle
    pub possible : (i : ℕ) → i < length ts.tasks → slot x i ≤ jobs (hyperperiod ts) (task ts i)
    possible = counts_say (hyperperiod ts) ts.tasks x R.counts

    -- what a task's offset shows for its next job is what the table says
    pub shown_delay : (i : ℕ) → i < length ts.tasks →
        own_delay ((lent bytes ts).inversion_shown (slot offsets i)) i (slot x i) ≡ delay_of X.inversions i (slot x i)
    shown_delay i l =
        own_as_table (lent bytes ts) i (slot x i) 0 0 X.inversions st.keep_rules.pairs (slot offsets i) (R.placed i l)

    -- after a start the tasks' offsets are behind the records before their next jobs
    offsets_moved : (i : ℕ) → i < length ts.tasks → (j : ℕ) → j < length ts.tasks →
        slot (moved (setting ts) (lent bytes ts) x offsets i) j
        ≡ first_inversion_offset ts X + before_pair j (slot (start_job x i) j) X.inversions * size PV
    offsets_moved i a j l =
        let p : List Inversion = X.inversions in
        let shown : Shown Inversion = (lent bytes ts).inversion_shown (slot offsets i) in
        let v : ℕ = past_own shown i (slot x i) (slot offsets i) in
        by_eq j i
        (λ u. rw (u, slot_put_same offsets i v, slot_start_same x i)
        (by_option (delay_of p i (slot x i))
        (λ e. past_without shown i (slot x i) (slot offsets i) (shown_delay i a ∙ e)
        ∙ R.inversion_offsets i a
        ∙ rw (before_without i (slot x i) p e))
        (λ d e. past_with shown i (slot x i) (slot offsets i) d (inversion_after bytes ts (slot offsets i)) (shown_delay i a ∙ e)
        ∙ omega (arith, R.inversion_offsets i a, before_with 0 0 i (slot x i) d p st.keep_rules.pairs e))))
        (λ u. slot_put_other offsets i j v u ∙ R.inversion_offsets j l ∙ rw (slot_start_other x i j u))

    -- after a start each inversion so far has its record
    inverted_more : (i t : ℕ) (idles : List Idle) → i < length ts.tasks → decided_by (setting ts) x t idles X.inversions ≡ start_task i →
        (j k d : ℕ) → delay_of (inversions (setting ts) [] (σ ++ (record { task = i; start = t } ∷ []))) j k ≡ some d →
        delay_of X.inversions j k ≡ some d
    inverted_more i t idles a decided j k d e =
        let h : ℕ = hyperperiod ts in
        let y : List ℕ = after_starts [] σ in
        let start : Entry = record { task = i; start = t } in
        let same : slot x i ≡ slot y i = R.started i a in
        by_pair i j (slot y i) k
        (λ u v.
        let own : delay_of (inversions (setting ts) y (start ∷ [])) i (slot y i) ≡ some d =
        sym (inversions_own ts h [] σ start) ∙ (rw (← u, ← v) at e) in
        by_bool (runs ((setting ts).baseline y t) i)
        (λ b. let g : none ≡ some d = rw b at own in clash (cc))
        (λ b.
        let g : delay_of (insert (inversion_of (setting ts) y start) []) i (slot y i) ≡ some d = rw b at own in
        let q : delay_of X.inversions i (slot x i) ≡ some (t - release (task ts i) (slot x i)) =
        inverted_recorded (setting ts) X.inversions x idles i t decided (ap (λ a. runs a i) ((by_slots ts h).baseline_same x y t R.started) ∙ b) in
        let c : some (t - release (task ts i) (slot y i)) ≡ some d = sym (delay_insert_same (inversion_of (setting ts) y start) []) ∙ g in
        rw (← u, ← v, ← same) (q ∙ rw same c)))
        (λ m. R.inverted_so_far j k d (sym (inversions_other ts h [] σ start j k m) ∙ e))

    -- all jobs have started: replay gives these starts
    pub replay_done : all_started (hyperperiod ts) ts.tasks x ≡ true → replay (setting ts) [] X ≡ gives σ
    replay_done all =
        R.replayed ∙ ap (starts_before σ) (rw (all, replay_from)) ∙ starts_before_end σ

    -- and they are as many as a cycle has jobs
    pub done_length : all_started (hyperperiod ts) ts.tasks x ≡ true → length σ ≡ all_jobs (hyperperiod ts) ts
    done_length all = omega (arith, R.starts_left, none_left (hyperperiod ts) ts.tasks x all)

    module _ (left : all_started (hyperperiod ts) ts.tasks x ≡ false) where
      -- what comes next from here
      from_here : {A : Type 0} →
          ((i t w : ℕ) → next_start (setting ts) (lent bytes ts) (standing x f offsets o) ≡ next_is i t w →
          Comes (setting ts) (lent bytes ts) X.inversions x f o R.idles_left i t w → A) →
          ((number : ℕ) → next_start (setting ts) (lent bytes ts) (standing x f offsets o) ≡ stuck number →
          replay_from (setting ts) (suc (hyperperiod ts)) x f R.idles_left X.inversions ≡ refuses (refusal number 0) → A) → A
      from_here =
          comes_next (setting ts) (laws ts good) (lent bytes ts) (λ o r after e. idle_after bytes ts o r after e) X.inversions st.keep_rules.pairs x
          offsets R.placed left f o R.idles_left R.rising R.idles_shown R.free_in_cycle

      -- the search for the next start is stuck: replay comes to a late job
      pub replay_stuck : (number : ℕ) → next_start (setting ts) (lent bytes ts) (standing x f offsets o) ≡ stuck number →
          replay (setting ts) [] X ≡ refuses (refusal 18 (length σ))
      replay_stuck number e =
          from_here (λ i t w q c. clash (cc))
          (λ m q g.
          let stops : replay (setting ts) [] X ≡ refuses (refusal m (length σ)) = R.replayed ∙ ap (starts_before σ) g ∙ starts_before_refusal σ m in
          let (k, same, late_job) = refused_late ts X good (keep_records ts (hyperperiod ts) X st.keep_rules) (refusal m (length σ)) stops in
          let number_is : m ≡ 18 = ap (λ (r : Refusal). r.number) same in
          stops ∙ ap (λ (n : ℕ). refuses (refusal n (length σ))) number_is)

      -- how replay goes on where the search comes to a start
      pub next_replayed : (i t w : ℕ) → next_start (setting ts) (lent bytes ts) (standing x f offsets o) ≡ next_is i t w →
          Comes (setting ts) (lent bytes ts) X.inversions x f o R.idles_left i t w
      next_replayed i t w e =
          from_here
          (λ i' t' w' q c.
          let g : next_is i' t' w' ≡ next_is i t w = sym q ∙ e in
          let its_task : i' ≡ i = cc in
          let its_start : t' ≡ t = cc in
          let its-offset : w' ≡ w = cc in
          rw (its_task, its_start, its-offset) at c)
          (λ m q g. clash (cc))

      -- the search comes to a start: replay goes on from there
      pub replay_starts : (i t w : ℕ) → next_start (setting ts) (lent bytes ts) (standing x f offsets o) ≡ next_is i t w →
          StartsNext bytes ts X σ x offsets i t w
      replay_starts i t w e =
          let h : ℕ = hyperperiod ts in
          let p : List Inversion = X.inversions in
          let z = next_replayed i t w e in
          let start : Entry = record { task = i; start = t } in
          let kept : StartKeepsRules ts h x t i t = keeps_rules ts h x t i t z.keeps in
          let ends : t + (task ts i).time ≤ h = (laws ts good).by_latest x t i t z.keeps in
          let y : List ℕ = after_starts [] σ in
          record {
            goes_on = record {
              idles_used = R.idles_used ++ z.idles_used;
              idles_left = z.idles_left;
              all_idles = R.all_idles
                  ∙ ap (λ (k : List Idle). R.idles_used ++ k) z.way.all
                  ∙ sym (append_assoc R.idles_used z.idles_used z.idles_left);
              replayed = R.replayed ∙ ap (starts_before σ) z.goes_on ∙ sym (starts_before_more σ start _);
              free_in_cycle = ends;
              counts = counts_start h ts.tasks x i R.counts kept.left;
              starts_left = omega (arith, R.starts_left, length-append σ (start ∷ []), one_left h ts.tasks x i kept.a_task kept.left);
              rising = z.way.rising;
              idles_shown = z.shown;
              placed = placed_moved (setting ts) (lent bytes ts) p (laws ts good) st.keep_rules.pairs x offsets t i t z.keeps
                  R.placed;
              idle_offset = omega (arith, z.offset, R.idle_offset, length-append R.idles_used z.idles_used);
              inversion_offsets = offsets_moved i kept.a_task;
              started = λ j l. start_same (length ts.tasks) x y i R.started j l ∙ ap (λ (v : List ℕ). slot v j) (sym (after_one_more [] σ start));
              inverted_so_far = inverted_more i t z.idles_left kept.a_task z.way.decided;
            };
            a_task = kept.a_task;
            a_job = kept.left;
            released = kept.released;
            ends_in_cycle = ends;
          }
