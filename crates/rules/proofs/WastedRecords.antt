-- PV records without effect: from start to start the least offset of such a record is kept. Where all ID records are derived ones, it is where the tables
-- given and the tables derived first differ. Assumes nothing.
use mathlib.Core.Path.{◌≡◌, refl, sym, ◌∙◌, ap}
use mathlib.Core.Bool.{Bool, true, false}
use mathlib.Core.List.{List, [], ◌∷◌, ◌++◌, Memᴰ}
use mathlib.Core.Option.{none, some}
use Prim.Native.Nat.{ℕ, suc, ◌+◌, ◌*◌, min, ◌≤◌, ◌<◌}
use native.Mathlib.Omega.{arith}
use lib.Dec.{ltb}
use lib.ListN.{length}
use borrow.Author.Tests.{ltb-true, ltb-false, lt-ltb, le-ltb}
use Rattle.rules.specs.declared.Entry.{Entry}
use Rattle.rules.specs.declared.Inversion.{Inversion}
use Rattle.rules.specs.Refusals.{gives, refuses, refusal, first, then, or_else}
use Rattle.rules.specs.Tasks.{Set, both, task, jobs, hyperperiod, set_fault}
use Rattle.rules.specs.Setting.{Tables}
use Rattle.rules.specs.Priority.{slot, start_job, all_started, setting}
use Rattle.rules.specs.Irregularities.{at_most, runs, inversion_of, inversions}
use Rattle.rules.specs.Decision.{delay_of, replay}
use Rattle.rules.specs.Judging.{inversion_in_range, records_fault, inversions_differ, tables_differ, tables, compared, judge_tables}
use Rattle.rules.specs.Marks.{ID, PV, size}
use Rattle.rules.specs.Offsets.{Shown, last_offset, lent, past_own, standing, next_is, stuck, next_start}
use Rattle.rules.specs.Image.{head_length, head_count}
use Rattle.rules.proofs.Cases.{by_bool, by_option, by_eq, by_pair, clash, both_true, none_first, or_else_none}
use Rattle.rules.proofs.Theory.{ValidFrom, Pairs}
use Rattle.rules.proofs.Pairs.{at_most_le, delay_here, delay_there, delay_bound, delay_insert_same, sub_of}
use Rattle.rules.proofs.Derived.{Every, inversions_pairs}
use Rattle.rules.proofs.Replayed.{yields}
use Rattle.rules.proofs.PriorityLaws.{slot_empty, slot_start_same, slot_start_other}
use Rattle.rules.proofs.RisingPairs.{member_passes}
use Rattle.rules.proofs.Records.{keep_records}
use Rattle.rules.proofs.JudgedTables.{laws}
use Rattle.rules.proofs.PossibleStates.{none_left}
use Rattle.rules.proofs.Shown.{not_both}
use Rattle.rules.proofs.FirstDifferences.{is_missing, missing_in, before_passing, found_at, before_same, differs_first}
use Rattle.rules.proofs.Slots.{Same, by_slots}
use Rattle.rules.proofs.ShownAt.{Stand}
use Rattle.rules.proofs.OneMoreStart.{after_starts, inversions_other, inversions_own}
use Rattle.rules.proofs.KeptOffsets.{KeepsIdles, kept_differs}
use Rattle.rules.proofs.OffsetReplay.{first_inversion_offset, before_pair, before_with, before_few, inversion_after, past_without, past_with, ReplaysAt, replay_done, replay_stuck, next_replayed, shown_delay}

-- a table has a delay for the job of each of its records
member_delay : {r : Inversion} (p : List Inversion) → Memᴰ r p → delay_of p r.task r.job ≡ none → ⊥
member_delay {r = r} [] m e = elim m [ ]
member_delay {r} (s ∷ p) (Memᴰ.head q) e =
    let g : some s.delay ≡ none = sym (delay_here s p r.task r.job (rw q) (rw q)) ∙ e in clash (cc)
member_delay {r} (s ∷ p) (Memᴰ.tail m) e =
    by_pair s.task r.task s.job r.job
    (λ u v. let g : some s.delay ≡ none = sym (delay_here s p r.task r.job u v) ∙ e in clash (cc))
    (λ n. member_delay p m (sym (delay_there s p r.task r.job n) ∙ e))

-- where one record more passes, the first that passes is that record or the one that was first
before_more : (a b : Inversion → Bool) (i k d c e : ℕ) (p : List Inversion) → Pairs c e p → delay_of p i k ≡ some d →
    ((r : Inversion) → (r.task ≡ i → r.job ≡ k → ⊥) → a r ≡ b r) → ((r : Inversion) → r.task ≡ i → r.job ≡ k → a r ≡ true) →
    before_passing a p ≡ min (before_passing b p) (before_pair i k p)
before_more a b i k d c e [] z g others own = clash (cc)
before_more a b i k d c e (r ∷ p) z g others own =
    by_pair r.task i r.job k
    (λ u v.
    let here : a r ≡ true = own r u v in
    let first-here : at_most i k r.task r.job ≡ true = at_most_le i k r.task r.job (sym u) (omega arith) in
    rw (here, first-here, before_passing, before_pair) (omega arith))
    (λ n.
    let g' : delay_of p i k ≡ some d = sym (delay_there r p i k n) ∙ g in
    let same : a r ≡ b r = others r n in
    by_bool (at_most i k r.task r.job)
    (λ l. absurd (not_both i k r.task r.job l (delay_bound r.task (suc r.job) p z.1 i k d g')))
    (λ l. by_bool (b r)
    (λ y. let y' : a r ≡ true = same ∙ y in rw (y, y', l, before_passing, before_pair) (omega arith))
    (λ y. let y' : a r ≡ false = same ∙ y in
    rw (y, y', l, before_passing, before_pair)
    (omega (arith, before_more a b i k d r.task (suc r.job) p z.1 g' others own)))))

-- a record without effect so far: its job has started, and no inversion was derived for it
abbrev pub without_effect : Set → List Entry → List ℕ → Inversion → Bool
without_effect ts σ x r = both (ltb r.job (slot x r.task)) (missing_in (inversions (setting ts) [] σ) r)

-- the offset of the PV behind so many of them; the last offset where there is no such PV
abbrev pub offset_behind : Set → Tables → ℕ → ℕ
offset_behind ts X m = elim (ltb m (length X.inversions)) [ true ↦ first_inversion_offset ts X + m * size PV | false ↦ last_offset ]

-- after starts, this is the least offset of a PV without effect so far
pub record Wastes (ts : Set) (X : Tables) (σ : List Entry) (x : List ℕ) (wasted : ℕ) : Type 0 where
  pub least : wasted ≡ offset_behind ts X (before_passing (without_effect ts σ x) X.inversions)

module _ {bytes : List ℕ} {ts : Set} {X : Tables} {n : ℕ} (st : Stand bytes ts X n) (good : set_fault ts ≡ none) where
  -- the lower of two such offsets is that behind the lower number
  lower_offset : (m b : ℕ) → b < length X.inversions →
      min (offset_behind ts X m) (first_inversion_offset ts X + b * size PV) ≡ offset_behind ts X (min m b)
  lower_offset m b l =
      let least_of : ltb (min m b) (length X.inversions) ≡ true = lt-ltb (min m b) (length X.inversions) (omega arith) in
      by_bool (ltb m (length X.inversions))
      (λ c. rw (c, least_of, offset_behind) (omega arith))
      (λ c. rw (c, least_of, offset_behind) (omega (arith, ltb-false m (length X.inversions) c, st.short)))

  -- with nothing started none is without effect
  nothing_started : (x : List ℕ) (p : List Inversion) → Same (length ts.tasks) x [] → Every (inversion_in_range ts (hyperperiod ts)) p →
      before_passing (without_effect ts [] x) p ≡ length p
  nothing_started x [] s z = refl
  nothing_started x (r ∷ p) s z =
      let l : r.task < length ts.tasks = ltb-true r.task (length ts.tasks) (both_true (ltb r.task (length ts.tasks)) _ z.0).0 in
      let none_yet : ltb r.job (slot x r.task) ≡ false =
      le-ltb r.job (slot x r.task) (omega (arith, s r.task l, slot_empty r.task)) in
      rw (none_yet, before_passing) (ap suc (nothing_started x p s z.1))

  -- at the start of a cycle
  pub wastes_begin : (x : List ℕ) → Same (length ts.tasks) x [] → Wastes ts X [] x last_offset
  wastes_begin x s = record {
    least = let many : ℕ = length X.inversions in
        rw (nothing_started x X.inversions s st.keep_rules.in_range, le-ltb many many (omega arith), offset_behind);
  }

  -- a start
  module _ {σ : List Entry} {x : List ℕ} {f : ℕ} {offsets : List ℕ} {o wasted : ℕ} (R : ReplaysAt bytes ts X σ x f offsets o)
      (W : Wastes ts X σ x wasted) (left : all_started (hyperperiod ts) ts.tasks x ≡ false) (i t w : ℕ)
      (next : next_start (setting ts) (lent bytes ts) (standing x f offsets o) ≡ next_is i t w) where
    -- the starts with this one more
    abbrev more : List Entry
    more = σ ++ (record { task = i; start = t } ∷ [])

    -- the task is one of the set's
    its_task : i < length ts.tasks
    its_task = (laws ts good).a_task x t i t (next_replayed st good R left i t w next).keeps

    -- records of other jobs are as they were
    others_stay : (r : Inversion) → (r.task ≡ i → r.job ≡ slot x i → ⊥) → without_effect ts more (start_job x i) r ≡ without_effect ts σ x r
    others_stay r n =
        let same : slot x i ≡ slot (after_starts [] σ) i = R.started i its_task in
        let delays : delay_of (inversions (setting ts) [] more) r.task r.job ≡ delay_of (inversions (setting ts) [] σ) r.task r.job =
        inversions_other ts (hyperperiod ts) [] σ (record { task = i; start = t }) r.task r.job (λ u v. n (sym u) (sym v ∙ sym same)) in
        let jobs-started : ltb r.job (slot (start_job x i) r.task) ≡ ltb r.job (slot x r.task) =
        by_eq r.task i
        (λ u. rw (u, slot_start_same x i)
        (by_bool (ltb r.job (slot x i)) (λ b. lt-ltb r.job (suc (slot x i)) (omega (arith, ltb-true r.job (slot x i) b)) ∙ sym b)
        (λ b. le-ltb r.job (suc (slot x i))
        (by_eq r.job (slot x i) (λ v. absurd (n u v)) (λ v. omega (arith, ltb-false r.job (slot x i) b))) ∙ sym b)))
        (λ u. rw (slot_start_other x i r.task u)) in
        rw (delays, jobs-started)

    -- the record of the job that starts had not yet been without effect
    own_before : (r : Inversion) → r.task ≡ i → r.job ≡ slot x i → without_effect ts σ x r ≡ false
    own_before r u v =
        let not_yet : ltb r.job (slot x r.task) ≡ false = le-ltb r.job (slot x r.task) (rw (u, v) (omega arith)) in
        rw not_yet

    -- now it is, unless the start is an inversion
    own_after : (r : Inversion) → r.task ≡ i → r.job ≡ slot x i →
        without_effect ts more (start_job x i) r ≡ runs ((setting ts).baseline x t) i
    own_after r u v =
        let h : ℕ = hyperperiod ts in
        let y : List ℕ = after_starts [] σ in
        let start : Entry = record { task = i; start = t } in
        let same : slot x i ≡ slot y i = R.started i its_task in
        let is-started : ltb r.job (slot (start_job x i) r.task) ≡ true =
        lt-ltb r.job (slot (start_job x i) r.task) (rw (u, v) (omega (arith, slot_start_same x i))) in
        let own : delay_of (inversions (setting ts) [] more) r.task r.job ≡ delay_of (inversions (setting ts) y (start ∷ [])) i (slot y i) =
        rw (u, v, same) (inversions_own ts h [] σ start) in
        let runs_same : runs ((setting ts).baseline x t) i ≡ runs ((setting ts).baseline y t) i =
        ap (λ a. runs a i) ((by_slots ts h).baseline_same x y t R.started) in
        rw (is-started, own, runs_same)
        (by_bool (runs ((setting ts).baseline y t) i) (λ b. rw b)
        (λ b. rw b (ap is_missing (delay_insert_same (inversion_of (setting ts) y start) []))))

    -- the start is an inversion: no record more is without effect
    pub start_inverts : runs ((setting ts).baseline x t) i ≡ false → Wastes ts X more (start_job x i) wasted
    start_inverts b = record {
      least = W.least
          ∙ ap (offset_behind ts X)
          (before_same (without_effect ts σ x) (without_effect ts more (start_job x i)) X.inversions
          (λ r m. by_pair r.task i r.job (slot x i) (λ u v. own_before r u v ∙ sym (own_after r u v ∙ b)) (λ n. sym (others_stay r n))));
    }

    -- the job has no record of its own: no record more is without effect
    pub start_without : past_own ((lent bytes ts).inversion_shown (slot offsets i)) i (slot x i) (slot offsets i) ≡ slot offsets i →
        Wastes ts X more (start_job x i) wasted
    start_without e =
        let shown : Shown Inversion = (lent bytes ts).inversion_shown (slot offsets i) in
        let gone : delay_of X.inversions i (slot x i) ≡ none =
        by_option (delay_of X.inversions i (slot x i)) (λ d. d)
        (λ d q.
        let own = shown_delay st good R i its_task ∙ q in
        absurd (omega (arith, past_with shown i (slot x i) (slot offsets i) d (inversion_after bytes ts (slot offsets i)) own))) in
        record {
          least = W.least
              ∙ ap (offset_behind ts X)
              (before_same (without_effect ts σ x) (without_effect ts more (start_job x i)) X.inversions
              (λ r m. by_pair r.task i r.job (slot x i) (λ u v. absurd (member_delay X.inversions m (rw (u, v) gone)))
              (λ n. sym (others_stay r n))));
        }

    -- the job has a record of its own and the baseline would have run it: that record is without effect
    pub start_wastes : (past_own ((lent bytes ts).inversion_shown (slot offsets i)) i (slot x i) (slot offsets i) ≡ slot offsets i → ⊥) →
        runs ((setting ts).baseline x t) i ≡ true → Wastes ts X more (start_job x i) (min wasted (slot offsets i))
    start_wastes moves b =
        let p : List Inversion = X.inversions in
        let shown : Shown Inversion = (lent bytes ts).inversion_shown (slot offsets i) in
        by_option (delay_of p i (slot x i))
        (λ q. absurd (moves (past_without shown i (slot x i) (slot offsets i) (shown_delay st good R i its_task ∙ q))))
        (λ d q.
        let pairs : Pairs 0 0 p = st.keep_rules.pairs in
        let l : before_pair i (slot x i) p < length p = omega (arith, before_with 0 0 i (slot x i) d p pairs q, before_few i (suc (slot x i)) p) in
        record {
          least = ap (λ (v : ℕ). min v (slot offsets i)) W.least
              ∙ ap (min (offset_behind ts X (before_passing (without_effect ts σ x) p))) (R.inversion_offsets i its_task)
              ∙ lower_offset (before_passing (without_effect ts σ x) p) (before_pair i (slot x i) p) l
              ∙ ap (offset_behind ts X)
              (sym (before_more (without_effect ts more (start_job x i)) (without_effect ts σ x) i (slot x i) d 0 0 p pairs q others_stay
              (λ r u v. own_after r u v ∙ b)));
        })

  -- all jobs have started
  module _ {σ : List Entry} {x : List ℕ} {f : ℕ} {offsets : List ℕ} {o kept wasted : ℕ} (R : ReplaysAt bytes ts X σ x f offsets o)
      (K : KeepsIdles ts X σ x f o kept) (W : Wastes ts X σ x wasted) (done : all_started (hyperperiod ts) ts.tasks x ≡ true) where
    -- the starts are a valid timetable
    pub done_valid : ValidFrom (setting ts) [] 0 σ
    done_valid = yields (setting ts) (laws ts good) (suc (hyperperiod ts)) [] 0 X.idles X.inversions σ (replay_done st good R done)

    -- a record is without effect where no inversion was derived for it
    done_without_effect : before_passing (without_effect ts σ x) X.inversions
        ≡ before_passing (missing_in (inversions (setting ts) [] σ)) X.inversions
    done_without_effect =
        before_same (without_effect ts σ x) (missing_in (inversions (setting ts) [] σ)) X.inversions
        (λ r m.
        let a = both_true (ltb r.task (length ts.tasks)) _
        (member_passes (inversion_in_range ts (hyperperiod ts)) X.inversions st.keep_rules.in_range m) in
        let b = both_true (ltb r.job (jobs (hyperperiod ts) (task ts r.task))) _ a.1 in
        let is-started : ltb r.job (slot x r.task) ≡ true =
        lt-ltb r.job (slot x r.task)
        (omega (
          arith,
          ltb-true r.job (jobs (hyperperiod ts) (task ts r.task)) b.0,
          none_left (hyperperiod ts) ts x done r.task (ltb-true r.task (length ts.tasks) a.0),
        )) in
        rw is-started)

    -- the first difference of the inversions is at the first record without effect
    done_inversions : (place : ℕ) → inversions_differ place X.inversions (inversions (setting ts) [] σ)
        ≡ found_at place (before_passing (without_effect ts σ x) X.inversions) (length X.inversions)
    done_inversions place =
        let q : List Inversion = inversions (setting ts) [] σ in
        differs_first place 0 0
        (sub_of 0 0 0 0 X.inversions q st.keep_rules.pairs (inversions_pairs (setting ts) (laws ts good) done_valid) R.inverted_so_far)
        st.keep_rules.pairs
        ∙ ap (λ (m : ℕ). found_at place m (length X.inversions)) (sym done_without_effect)

    -- an ID is not a derived one: the tables differ at the first such
    pub idle_unused : kept < first_inversion_offset ts X →
        (q : ℕ) × (q < length X.idles) × (kept ≡ head_length ts + q * size ID)
        × (tables_differ (head_count ts) X (tables ts σ) ≡ some (refusal 19 (head_count ts + q)))
    idle_unused lt =
        let some_left : K.many < length X.idles = omega (arith, K.kept_offset) in (
          K.many,
          some_left,
          K.kept_offset,
          kept_differs st good R K done (head_count ts) ∙ rw (lt-ltb K.many (length X.idles) some_left, found_at),
        )

    -- all IDs are derived: the tables differ where the inversions do
    idles_used_up : first_inversion_offset ts X ≤ kept →
        tables_differ (head_count ts) X (tables ts σ)
        ≡ inversions_differ (head_count ts + length X.idles) X.inversions (inversions (setting ts) [] σ)
    idles_used_up le =
        kept_differs st good R K done (head_count ts)
        ∙ rw (le-ltb K.many (length X.idles) (omega (arith, K.kept_offset)), found_at)

    -- a PV was without effect: the tables differ at the first such
    pub inversion_wasted : first_inversion_offset ts X ≤ kept → (wasted ≡ last_offset → ⊥) →
        (q : ℕ) × (q < length X.inversions) × (wasted ≡ first_inversion_offset ts X + q * size PV)
        × (tables_differ (head_count ts) X (tables ts σ) ≡ some (refusal 19 (head_count ts + length X.idles + q)))
    inversion_wasted le some-wasted =
        let p : List Inversion = X.inversions in
        let m : ℕ = before_passing (without_effect ts σ x) p in
        by_bool (ltb m (length p))
        (λ b. (
          m,
          ltb-true m (length p) b,
          W.least ∙ rw (b, offset_behind),
          idles_used_up le ∙ done_inversions (head_count ts + length X.idles) ∙ rw (b, found_at),
        ))
        (λ b. absurd (some-wasted (W.least ∙ rw (b, offset_behind))))

    -- none was: the tables are the same
    pub nothing_wasted : first_inversion_offset ts X ≤ kept → wasted ≡ last_offset → tables_differ (head_count ts) X (tables ts σ) ≡ none
    nothing_wasted le none-wasted =
        let p : List Inversion = X.inversions in
        let m : ℕ = before_passing (without_effect ts σ x) p in
        by_bool (ltb m (length p))
        (λ b.
        let there : wasted ≡ first_inversion_offset ts X + m * size PV = W.least ∙ rw (b, offset_behind) in
        absurd (omega (arith, ltb-true m (length p) b, st.short)))
        (λ b. idles_used_up le ∙ done_inversions (head_count ts + length X.idles) ∙ rw (b, found_at))

  -- records that keep their rules are judged by replay and comparison
  pub judged_by_replay : judge_tables ts X ≡ then (replay (setting ts) [] X) (compared ts X)
  judged_by_replay =
      or_else_none (first (set_fault ts) (records_fault ts (hyperperiod ts) X)) (then (replay (setting ts) [] X) (compared ts X))
      (none_first (set_fault ts) (records_fault ts (hyperperiod ts) X) good (keep_records ts (hyperperiod ts) X st.keep_rules))

  module _ {σ : List Entry} {x : List ℕ} {f : ℕ} {offsets : List ℕ} {o : ℕ} (R : ReplaysAt bytes ts X σ x f offsets o) where
    -- the search for the next start is stuck: the tables are refused with 18 and the number of starts
    pub judged_late : all_started (hyperperiod ts) ts.tasks x ≡ false → (number : ℕ) →
        next_start (setting ts) (lent bytes ts) (standing x f offsets o) ≡ stuck number → judge_tables ts X ≡ refuses (refusal 18 (length σ))
    judged_late left number e = judged_by_replay ∙ ap (λ z. then z (compared ts X)) (replay_stuck st good R left number e)

    -- with all jobs started, what comparing comes to
    module _ {kept wasted : ℕ} (K : KeepsIdles ts X σ x f o kept) (W : Wastes ts X σ x wasted) (done : all_started (hyperperiod ts) ts.tasks x ≡ true) where
      -- judging compares the tables with those of the starts
      judged_as : judge_tables ts X ≡ or_else (tables_differ (head_count ts) X (tables ts σ)) (gives σ)
      judged_as = judged_by_replay ∙ ap (λ z. then z (compared ts X)) (replay_done st good R done)

      -- an ID is not a derived one: 19 at the first such
      pub judged_unused : kept < first_inversion_offset ts X →
          (q : ℕ) × (q < length X.idles) × (kept ≡ head_length ts + q * size ID) × (judge_tables ts X ≡ refuses (refusal 19 (head_count ts + q)))
      judged_unused lt =
          let (q, bound, there, differs) = idle_unused R K W done lt in
          (q, bound, there, judged_as ∙ ap (λ d. or_else d (gives σ)) differs)

      -- a PV was without effect: 19 at the first such
      pub judged_wasted : first_inversion_offset ts X ≤ kept → (wasted ≡ last_offset → ⊥) →
          (q : ℕ) × (q < length X.inversions) × (wasted ≡ first_inversion_offset ts X + q * size PV)
          × (judge_tables ts X ≡ refuses (refusal 19 (head_count ts + length X.idles + q)))
      judged_wasted le some-wasted =
          let (q, bound, there, differs) = inversion_wasted R K W done le some-wasted in
          (q, bound, there, judged_as ∙ ap (λ d. or_else d (gives σ)) differs)

      -- every record had its effect: the tables are accepted with the starts
      pub judged_accepted : first_inversion_offset ts X ≤ kept → wasted ≡ last_offset → judge_tables ts X ≡ gives σ
      judged_accepted le none-wasted = judged_as ∙ ap (λ d. or_else d (gives σ)) (nothing_wasted R K W done le none-wasted)
