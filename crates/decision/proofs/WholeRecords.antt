-- The record at an offset: the rule book reads one exactly where it stands whole, and what an offset shows is what is read there. Assumes nothing.
use Rattle.std.specs.Prelude.{Ok, Err, Some, None, Option as Told}
use mathlib.Core.Path.{◌≡◌, refl, sym, ◌∙◌, ap, ap₂}
use mathlib.Core.Bool.{Bool, true, false}
use mathlib.Core.List.{List}
use mathlib.Core.Option.{Option, none, some}
use Prim.Native.Nat.{ℕ, ◌+◌, min, ◌≤◌, ◌<◌}
use native.Mathlib.Nat.{add-zero}
use native.Mathlib.Omega.{arith}
use lib.Dec.{leb, eqb}
use lib.ListN.{length, get_or, drop}
use lib.Seq.{get_or-drop}
use borrow.Author.Tests.{leb-true, le-leb, eqb-true, eq-eqb, ne_eqb}
use Rattle.rules.specs.declared.Idle.{Idle}
use Rattle.rules.specs.declared.Inversion.{Inversion}
use Rattle.rules.specs.declared.Place.{Place}
use Rattle.rules.specs.Tasks.{Set, both, hyperperiod}
use Rattle.rules.specs.Judging.{idle_in_range, inversion_in_range}
use Rattle.rules.specs.Marks.{Mark, TS, TK, SL, ID, PV, EN, row, marks, size, mark_in, values}
use Rattle.rules.specs.Image.{Record, record_of, to_idle, to_inversion}
use Rattle.rules.specs.Framing.{allowed, if_allowed, mark_at}
use Rattle.rules.specs.Offsets.{Shown, unreadable, no_record, shows, last_offset, whole_record, record_at, shown_if, idle_by, inversion_by, lent, own_delay, readable}
use Rattle.rules.specs.Decision.{is_of}
use Rattle.rules.proofs.Cases.{by_bool, by_option, by_eq, both_true, both_in, clash, differ}
use Rattle.rules.proofs.Marked.{mark_found, found_allowed}
use Rattle.images.specs.Table.{stands_at}
use Rattle.images.proofs.TableLaws.{stands_whole}
use Rattle.decision.specs.Shown.{whole_at, shown_case, has_delay}
use Rattle.decision.specs.declared.Unreadable.{Unreadable}

-- a place behind the tasks of a table image
abbrev behind_tasks : Place
behind_tasks = record { index = 0; offset = 0; rank = 2; due = 0; tasks = 0; listed = 0; inversions = 0 }

-- the record found by a mark ends inside the bytes, and at or before the last offset
found_whole : {A : Type 0} (o : ℕ) (front : List ℕ) (found : Option Mark) (r : Record) → whole_record o front found ≡ some r →
    (found ≡ some r.mark → leb (size r.mark) (length front) ≡ true → leb (o + size r.mark) last_offset ≡ true → A) → A
found_whole o front none r e go = clash (cc)
found_whole o front (some m) r e go =
    by_bool (both (leb (size m) (length front)) (leb (o + size m) last_offset))
    (λ b. let g : some (record_of m (values m front)) ≡ some r = rw (b, whole_record) at e in
    let q : record_of m (values m front) ≡ r = cc in
    let w = both_true (leb (size m) (length front)) _ b in
    rw (← q) at go (refl) w.0 w.1)
    (λ b. let g : none ≡ some r = rw (b, whole_record) at e in clash (cc))

module _ (bytes : List ℕ) (o : ℕ) where
  -- the bytes from the offset on
  abbrev front : List ℕ
  front = drop o bytes

  -- a whole record ends inside the image
  pub whole_inside : (m : Mark) → whole_at bytes o m ≡ true → o + size m ≤ length bytes
  unfolding whole_at
  whole_inside m e = stands_whole bytes o m (both_true (leb (o + size m) last_offset) _ e).1

  -- and at or before the last offset
  whole_ends : (m : Mark) → whole_at bytes o m ≡ true → o + size m ≤ last_offset
  unfolding whole_at
  whole_ends m e = leb-true (o + size m) last_offset (both_true (leb (o + size m) last_offset) _ e).0

  -- a record that ends behind the image or the last offset is not whole
  pub past_readable : (m : Mark) → min (length bytes) last_offset < o + size m → false ≡ whole_at bytes o m
  past_readable m h =
      by_bool (whole_at bytes o m) (λ e. absurd (omega (arith, whole_inside m e, whole_ends m e))) (λ e. sym e)

  -- its first byte is its mark's
  pub first_byte : (m : Mark) → whole_at bytes o m ≡ true → get_or bytes o 0 ≡ (row m).byte₁
  unfolding whole_at stands_at
  first_byte m e =
      let a = both_true (leb (o + size m) last_offset) _ e in
      let b = both_true (leb (size m) (length front)) _ a.1 in
      let c = both_true (eqb (get_or front 0 0) (row m).byte₁) _ b.1 in
      ap (λ (k : ℕ). get_or bytes k 0) (sym (add-zero o)) ∙ sym (get_or-drop o bytes 0 0) ∙ eqb-true (get_or front 0 0) (row m).byte₁ c.0

  -- one that ends before is whole where it stands
  pub before_last : (m : Mark) → o + size m ≤ last_offset → stands_at bytes o m ≡ whole_at bytes o m
  unfolding whole_at
  before_last m h = rw (le-leb (o + size m) last_offset h)

  -- a whole record is read
  pub whole_read : (m : Mark) → whole_at bytes o m ≡ true → record_at bytes o ≡ some (record_of m (values m front))
  unfolding whole_at stands_at record_at
  whole_read m e =
      let a = both_true (leb (o + size m) last_offset) _ e in
      let b = both_true (leb (size m) (length front)) _ a.1 in
      let c = both_true (eqb (get_or front 0 0) (row m).byte₁) _ b.1 in
      let found : mark_in marks (get_or front 0 0) (get_or front 1 0) ≡ some m =
      ap₂ (mark_in marks) (eqb-true (get_or front 0 0) (row m).byte₁ c.0) (eqb-true (get_or front 1 0) (row m).byte₂ c.1) ∙ mark_found m in
      ap (whole_record o front) found ∙ rw (b.0, a.0, whole_record)

  -- a record that is read stands whole, if its mark may stand behind the tasks of a table image
  pub read_whole : (r : Record) → record_at bytes o ≡ some r → allowed 2 behind_tasks r.mark ≡ true → whole_at bytes o r.mark ≡ true
  unfolding whole_at stands_at record_at
  read_whole r e may =
      found_whole o front (mark_in marks (get_or front 0 0) (get_or front 1 0)) r e
      (λ found fits ends.
      let m : Mark = r.mark in
      let kept : mark_at 2 behind_tasks front ≡ some m = ap (if_allowed 2 behind_tasks) found ∙ rw (may, if_allowed) in
      let a = found_allowed 2 behind_tasks front m kept in
      both_in _ _ ends
      (both_in _ _ fits
      (both_in _ _ (eq-eqb (get_or front 0 0) (row m).byte₁ a.first_byte) (eq-eqb (get_or front 1 0) (row m).byte₂ a.second_byte))))

-- the answer that an offset cannot be read
pub unread_shown : {A : Type 0} (k : Shown A) (e : Unreadable) → Err e ≡ shown_case k → readable k ≡ false
unread_shown unreadable e is = refl
unread_shown no_record e is = cc
unread_shown (shows r after) e is = cc

-- or that it can
pub read_shown : {A : Type 0} (k : Shown A) (o : Told A) → Ok o ≡ shown_case k → readable k ≡ true
read_shown unreadable o is = cc
read_shown no_record o is = refl
read_shown (shows r after) o is = refl

-- what the ID offset and a task's offset show
module _ (ts : Set) (bytes : List ℕ) (o : ℕ) where
  -- an idle record, as the ID offset
  abbrev idle_there : Shown Idle
  idle_there = (lent bytes ts).idle_shown o

  -- an inversion record, as a task's offset
  abbrev inversion_there : Shown Inversion
  inversion_there = (lent bytes ts).inversion_shown o

  module _ (h : ℕ) (same : h ≡ hyperperiod ts) (within : Bool) where
    -- a whole ID, within its own range or not
    pub idle_read : whole_at bytes o ID ≡ true → (r : Idle) → r ≡ to_idle (values ID (drop o bytes)) → within ≡ idle_in_range h r →
        shown_case (shown_if within (shows r (o + size ID))) ≡ shown_case idle_there
    idle_read is_whole r read e =
        ap (λ (b : Bool). shown_case (shown_if b (shows r (o + size ID)))) e ∙ rw (whole_read bytes o ID is_whole, same, read)

    -- a whole PV, within its own range or not
    module _ (is_whole : whole_at bytes o PV ≡ true) (r : Inversion) (read : r ≡ to_inversion (values PV (drop o bytes)))
        (e : within ≡ inversion_in_range ts h r) where
      -- at the ID offset
      pub no_idle_read : shown_case (shown_if within no_record) ≡ shown_case idle_there
      no_idle_read = ap (λ (b : Bool). shown_case (shown_if b no_record)) e ∙ rw (whole_read bytes o PV is_whole, same, read)

      -- at a task's offset
      pub inversion_read : shown_case (shown_if within (shows r (o + size PV))) ≡ shown_case inversion_there
      inversion_read = ap (λ (b : Bool). shown_case (shown_if b (shows r (o + size PV)))) e ∙ rw (whole_read bytes o PV is_whole, same, read)

  -- a whole EN at the ID offset
  pub idle_at_end : whole_at bytes o EN ≡ true → Ok None ≡ shown_case idle_there
  idle_at_end e = rw (whole_read bytes o EN e)

  -- and at a task's
  pub inversion_at_end : whole_at bytes o EN ≡ true → Ok None ≡ shown_case inversion_there
  inversion_at_end e = rw (whole_read bytes o EN e)

  -- a record of a table image with this mark would stand whole
  abbrev Stands : Mark → Type 0
  Stands m = allowed 2 behind_tasks m ≡ true → whole_at bytes o m ≡ true

  module _ (no-pv : whole_at bytes o PV ≡ false) (no-en : whole_at bytes o EN ≡ false) where
    -- none of the three that may stand at the ID offset
    pub nothing_for_idle : whole_at bytes o ID ≡ false → Err (record {}) ≡ shown_case idle_there
    nothing_for_idle no-id =
        by_option (record_at bytes o) (λ e. rw e) (λ r e. by_mark r.mark r.values (λ may. read_whole bytes o r e may) ∙ sym (rw e))
      where
        -- by the mark of a record that is read
        by_mark : (m : Mark) (v : List ℕ) → Stands m → Err (record {}) ≡ shown_case (idle_by ts o m v)
        by_mark TS v w = refl
        by_mark TK v w = refl
        by_mark SL v w = refl
        by_mark ID v w = differ (sym (w refl) ∙ no-id)
        by_mark PV v w = differ (sym (w refl) ∙ no-pv)
        by_mark EN v w = differ (sym (w refl) ∙ no-en)

    -- neither of the two that may stand at a task's
    pub nothing_for_task : Err (record {}) ≡ shown_case inversion_there
    nothing_for_task =
        by_option (record_at bytes o) (λ e. rw e) (λ r e. by_mark r.mark r.values (λ may. read_whole bytes o r e may) ∙ sym (rw e))
      where
        -- by the mark of a record that is read
        by_mark : (m : Mark) (v : List ℕ) → Stands m → Err (record {}) ≡ shown_case (inversion_by ts o m v)
        by_mark TS v w = refl
        by_mark TK v w = refl
        by_mark SL v w = refl
        by_mark ID v w = refl
        by_mark PV v w = differ (sym (w refl) ∙ no-pv)
        by_mark EN v w = differ (sym (w refl) ∙ no-en)

  -- an idle record that is shown ends at or before the last offset
  pub idle_after : (r : Idle) (after : ℕ) → idle_there ≡ shows r after → (after ≡ o + size ID) × (o + size ID ≤ last_offset)
  idle_after r after e =
      by_option (record_at bytes o) (λ n. let g : unreadable ≡ shows r after = sym (rw n) ∙ e in clash (cc))
      (λ c n. by_mark c.mark c.values (λ may. read_whole bytes o c n may) (sym (rw n) ∙ e))
    where
      -- by the mark of a record that is read
      by_mark : (m : Mark) (v : List ℕ) → Stands m → idle_by ts o m v ≡ shows r after →
          (after ≡ o + size ID) × (o + size ID ≤ last_offset)
      by_mark TS v w e = clash (cc)
      by_mark TK v w e = clash (cc)
      by_mark SL v w e = clash (cc)
      by_mark ID v w e =
          by_bool (idle_in_range (hyperperiod ts) (to_idle v))
          (λ b. let g : shows (to_idle v) (o + size ID) ≡ shows r after = rw b at e in (cc, whole_ends bytes o ID (w refl)))
          (λ b. let g : unreadable ≡ shows r after = rw b at e in clash (cc))
      by_mark PV v w e =
          by_bool (inversion_in_range ts (hyperperiod ts) (to_inversion v)) (λ b. let g : no_record ≡ shows r after = rw b at e in clash (cc))
          (λ b. let g : unreadable ≡ shows r after = rw b at e in clash (cc))
      by_mark EN v w e = clash (cc)

  -- so does an inversion record, which is in its own range
  pub inversion_after : (r : Inversion) (after : ℕ) → inversion_there ≡ shows r after →
      (after ≡ o + size PV) × (o + size PV ≤ last_offset) × (inversion_in_range ts (hyperperiod ts) r ≡ true)
  inversion_after r after e =
      by_option (record_at bytes o) (λ n. let g : unreadable ≡ shows r after = sym (rw n) ∙ e in clash (cc))
      (λ c n. by_mark c.mark c.values (λ may. read_whole bytes o c n may) (sym (rw n) ∙ e))
    where
      -- by the mark of a record that is read
      by_mark : (m : Mark) (v : List ℕ) → Stands m → inversion_by ts o m v ≡ shows r after →
          (after ≡ o + size PV) × (o + size PV ≤ last_offset) × (inversion_in_range ts (hyperperiod ts) r ≡ true)
      by_mark TS v w e = clash (cc)
      by_mark TK v w e = clash (cc)
      by_mark SL v w e = clash (cc)
      by_mark ID v w e = clash (cc)
      by_mark PV v w e =
          by_bool (inversion_in_range ts (hyperperiod ts) (to_inversion v))
          (λ b. let g : shows (to_inversion v) (o + size PV) ≡ shows r after = rw b at e in
          let q : to_inversion v ≡ r = cc in
          (cc, whole_ends bytes o PV (w refl), rw (← q) b))
          (λ b. let g : unreadable ≡ shows r after = rw b at e in clash (cc))
      by_mark EN v w e = clash (cc)

  -- the record of a PV that stands there
  abbrev pv_there : Inversion
  pv_there = to_inversion (values PV (drop o bytes))

  -- the ID offset, where it can be read
  module _ (can : readable idle_there ≡ true) where
    -- no answer tells that it cannot
    idle_told : {A : Type 0} → Err (record {}) ≡ shown_case idle_there → A
    idle_told e = differ (sym can ∙ unread_shown idle_there _ e)

    -- it stands at a whole ID, PV or EN
    by_idle_readable : {A : Type 0} → (whole_at bytes o ID ≡ true → A) → (whole_at bytes o PV ≡ true → A) → (whole_at bytes o EN ≡ true → A) → A
    by_idle_readable id pv en =
        by_bool (whole_at bytes o ID) id
        (λ no-id. by_bool (whole_at bytes o PV) pv
        (λ no-pv. by_bool (whole_at bytes o EN) en (λ no-en. idle_told (nothing_for_idle no-pv no-en no-id))))

    -- it is inside the image
    pub idle_inside : o < length bytes
    idle_inside =
        by_idle_readable (λ w. omega (arith, whole_inside bytes o ID w)) (λ w. omega (arith, whole_inside bytes o PV w))
        (λ w. omega (arith, whole_inside bytes o EN w))

    -- with another first byte than ID's it shows no record
    pub no_id_shown : (get_or bytes o 0 ≡ (row ID).byte₁ → ⊥) → Ok None ≡ shown_case idle_there
    no_id_shown other =
        by_idle_readable (λ w. absurd (other (first_byte bytes o ID w)))
        (λ w. by_bool (inversion_in_range ts (hyperperiod ts) pv_there) (λ b. no_idle_read _ refl true w _ refl (sym b))
        (λ b. idle_told (no_idle_read _ refl false w _ refl (sym b))))
        idle_at_end

    -- with ID's a whole ID stands there
    pub id_stands : get_or bytes o 0 ≡ (row ID).byte₁ → whole_at bytes o ID ≡ true
    id_stands same =
        by_idle_readable (λ w. w) (λ w. absurd (omega (arith, first_byte bytes o PV w))) (λ w. absurd (omega (arith, first_byte bytes o EN w)))

    -- which is shown
    pub id_shown : whole_at bytes o ID ≡ true → (r : Idle) → r ≡ to_idle (values ID (drop o bytes)) → Ok (Some r) ≡ shown_case idle_there
    id_shown w r read =
        by_bool (idle_in_range (hyperperiod ts) r) (λ b. idle_read _ refl true w r read (sym b))
        (λ b. idle_told (idle_read _ refl false w r read (sym b)))

  -- a task's offset that can be read shows a whole PV, or stands at a whole EN
  by_readable : {A : Type 0} → readable inversion_there ≡ true → (whole_at bytes o PV ≡ true → inversion_there ≡ shows pv_there (o + size PV) → A) →
      (whole_at bytes o EN ≡ true → inversion_there ≡ no_record → A) → A
  by_readable can pv en =
      by_bool (whole_at bytes o PV)
      (λ w.
      let within : Bool = inversion_in_range ts (hyperperiod ts) pv_there in
      let there : inversion_there ≡ shown_if within (shows pv_there (o + size PV)) = rw (whole_read bytes o PV w) in
      by_bool within (λ b. pv w (there ∙ rw b))
      (λ b. let unread : inversion_there ≡ unreadable = there ∙ rw b in differ (sym can ∙ ap readable unread)))
      (λ w. by_bool (whole_at bytes o EN) (λ v. en v (rw (whole_read bytes o EN v)))
      (λ v. differ (sym can ∙ unread_shown inversion_there _ (nothing_for_task w v))))

  module _ (can : readable inversion_there ≡ true) where
    -- it is inside the image
    pub readable_inside : o < length bytes
    readable_inside =
        by_readable can (λ w e. omega (arith, whole_inside bytes o PV w)) (λ w e. omega (arith, whole_inside bytes o EN w))

    -- with another first byte than PV's it shows no record
    pub own_none : (i k : ℕ) → (get_or bytes o 0 ≡ (row PV).byte₁ → ⊥) → own_delay inversion_there i k ≡ none
    own_none i k other = by_readable can (λ w e. absurd (other (first_byte bytes o PV w))) (λ w e. rw e)

    -- with PV's first byte it shows a PV
    module _ (same : get_or bytes o 0 ≡ (row PV).byte₁) where
      -- which stands there whole
      pub pv_stands : whole_at bytes o PV ≡ true
      pv_stands = by_readable can (λ w e. w) (λ w e. absurd (omega (arith, first_byte bytes o EN w)))

      -- and is what is read
      pv_shown : inversion_there ≡ shows pv_there (o + size PV)
      pv_shown = by_readable can (λ w e. e) (λ w e. absurd (omega (arith, first_byte bytes o EN w)))

      module _ (r : Inversion) (read : r ≡ pv_there) (i k : ℕ) where
        -- its delay, by whether it is the record of this job
        own_shown : (b : Bool) → is_of r i k ≡ b → own_delay inversion_there i k ≡ elim b [ true ↦ some r.delay | false ↦ none ]
        own_shown b e =
            let shown : inversion_there ≡ shows r (o + size PV) = pv_shown ∙ ap (λ (q : Inversion). shows q (o + size PV)) (sym read) in
            rw (shown, e, own_delay)

        -- it is another task's
        pub other_task : (r.task ≡ i → ⊥) → own_delay inversion_there i k ≡ none
        other_task other = own_shown false (rw (ne_eqb r.task i other))

        -- it is another job's
        pub other_job : r.task ≡ i → (r.job ≡ k → ⊥) → own_delay inversion_there i k ≡ none
        other_job same_task other = own_shown false (rw (eq-eqb r.task i same_task, ne_eqb r.job k other))

        -- it is this job's
        pub own_job : r.task ≡ i → r.job ≡ k → own_delay inversion_there i k ≡ some r.delay
        own_job same_task same_job = own_shown true (rw (eq-eqb r.task i same_task, eq-eqb r.job k same_job))

        -- with another delay it is not the record with this one
        pub other_delay : (delay : ℕ) → (r.delay ≡ delay → ⊥) → has_delay (own_delay inversion_there i k) delay ≡ false
        other_delay delay other =
            by_bool (is_of r i k) (λ b. rw (own_shown true b) (ne_eqb r.delay delay other)) (λ b. rw (own_shown false b))

        -- with this delay, and this task's, it is where it is this job's
        pub job_shown : (delay : ℕ) → r.delay ≡ delay → r.task ≡ i → eqb r.job k ≡ has_delay (own_delay inversion_there i k) delay
        job_shown delay same_delay same_task =
            by_eq r.job k
            (λ same_job. rw (own_job same_task same_job, eq-eqb r.job k same_job, eq-eqb r.delay delay same_delay))
            (λ other. rw (other_job same_task other, ne_eqb r.job k other))
