-- The offset of the first ID that is not a derived one, from start to start. Assumes nothing.
use mathlib.Core.Path.{◌≡◌, refl, sym, ◌∙◌, ap, subst}
use mathlib.Core.Bool.{Bool, true, false}
use mathlib.Core.List.{List, [], ◌∷◌, ◌++◌, append_assoc}
use mathlib.Core.Option.{none}
use Prim.Native.Nat.{ℕ, ◌+◌, ◌*◌}
use native.Mathlib.Omega.{arith}
use native.Mathlib.Nat.{add-zero}
use lib.Dec.{eqb}
use lib.ListN.{length, length-append}
use borrow.Author.Tests.{eq-eqb, ne_eqb}
use Rattle.rules.specs.declared.Entry.{Entry}
use Rattle.rules.specs.declared.Idle.{Idle}
use Rattle.rules.specs.Refusals.{first}
use Rattle.rules.specs.Tasks.{Set, both, task, hyperperiod, set_fault}
use Rattle.rules.specs.Timetable.{pick}
use Rattle.rules.specs.Setting.{Setting, Tables}
use Rattle.rules.specs.Priority.{start_job, all_started, setting}
use Rattle.rules.specs.Irregularities.{inversions}
use Rattle.rules.specs.Judging.{inversions_differ, tables_differ, tables}
use Rattle.rules.specs.Marks.{ID, size}
use Rattle.rules.specs.Offsets.{Shown, unreadable, no_record, shows, Source, lent, standing, next_is, next_start}
use Rattle.rules.specs.Image.{head_length}
use Rattle.rules.proofs.Cases.{by_eq}
use Rattle.rules.proofs.Theory.{NeverWaits}
use Rattle.rules.proofs.JudgedTables.{laws}
use Rattle.rules.proofs.NextJobs.{forced_idles_same}
use Rattle.rules.proofs.Slots.{Same, by_slots}
use Rattle.rules.proofs.Shown.{ShowsIdles, an_idle}
use Rattle.rules.proofs.ShownAt.{Stand}
use Rattle.rules.proofs.FirstDifferences.{found_at}
use Rattle.rules.proofs.UsedIdles.{is_derived, as_derived, ToStart, DerivedSoFar, kept_after, kept_starts, kept_done}
use Rattle.rules.proofs.OffsetReplay.{ReplaysAt, next_replayed}

module _ (G : Setting) (S : Source) where
  -- what an offset shows is a derived record, if it is a record
  abbrev shown_derived : G.Started → ℕ → Shown Idle → Bool
  shown_derived x s unreadable = true
  shown_derived x s no_record = true
  shown_derived x s (shows r after) = is_derived G x s r

  -- the records used from ID offset o to ID offset w, on the way to a start at s, are what is derived
  abbrev offsets_derived : G.Started → ℕ → ℕ → ℕ → Bool
  offsets_derived x s o w = pick (eqb o w) true (shown_derived x s (S.idle_shown o))

  -- the offset of the first ID that is not a derived one, behind a start: it moves with the ID offset as long as the two are the same and the records
  -- used are what is derived
  abbrev pub kept_behind : G.Started → ℕ → ℕ → ℕ → ℕ → ℕ
  kept_behind x s kept o w = pick (both (eqb kept o) (offsets_derived x s o w)) w kept

  -- what the two offsets say of the records used
  derived_at : (x : G.Started) (s o w : ℕ) (used left : List Idle) → ShowsIdles S o (used ++ left) → w ≡ o + length used * size ID →
      offsets_derived x s o w ≡ as_derived G x s used
  derived_at x s o w [] left shown e = let same : o ≡ w = omega arith in rw (eq-eqb o w same)
  derived_at x s o w (r ∷ used) left (an_idle there shown) e = rw (ne_eqb o w (λ q. omega arith), there)

-- lists parted at the same length are the same
parted_same : {A : Type 0} (a b c d : List A) → a ++ b ≡ c ++ d → length a ≡ length c → (a ≡ c) × (b ≡ d)
parted_same [] b [] d e l = (refl, e)
parted_same [] b (s ∷ c) d e l = absurd (omega arith)
parted_same (r ∷ a) b [] d e l = absurd (omega arith)
parted_same (r ∷ a) b (s ∷ c) d e l =
    let rest : a ++ b ≡ c ++ d = cc in
    let (u, v) = parted_same a b c d rest (omega arith) in
    (cc, v)

-- after starts, this is the offset of the first ID that is not a derived one; as long as all used ones are, it is the ID offset
pub record KeepsIdles (ts : Set) (X : Tables) (σ : List Entry) (x : List ℕ) (f o kept : ℕ) : Type 0 where
  pub used : List Idle
  pub left : List Idle
  pub all : X.idles ≡ used ++ left
  pub used_offset : o ≡ head_length ts + length used * size ID
  pub many : ℕ
  pub kept_offset : kept ≡ head_length ts + many * size ID
  pub so_far : DerivedSoFar (setting ts) [] X σ x f used left many

module _ {bytes : List ℕ} {ts : Set} {X : Tables} {n : ℕ} (st : Stand bytes ts X n) (good : set_fault ts ≡ none) where
  -- at the start of a cycle
  pub keeps_begin : (x : List ℕ) → Same (length ts.tasks) x [] → KeepsIdles ts X [] x 0 (head_length ts) (head_length ts)
  keeps_begin x s = record {
    used = [];
    left = X.idles;
    all = refl;
    used_offset = omega arith;
    many = 0;
    kept_offset = omega arith;
    so_far = record {
      few = omega arith;
      so_far = λ τ v place q. rw (add-zero place, forced_idles_same (setting ts) (by_slots ts (hyperperiod ts)) x [] 0 τ s);
    };
  }

  module _ {σ : List Entry} {x : List ℕ} {f : ℕ} {offsets : List ℕ} {o kept : ℕ} (R : ReplaysAt bytes ts X σ x f offsets o) (K : KeepsIdles ts X σ x f o kept) where
    -- a start
    module _ (open-jobs : all_started (hyperperiod ts) ts.tasks x ≡ false) (i t w : ℕ)
        (next : next_start (setting ts) (lent bytes ts) (standing x f offsets o) ≡ next_is i t w) where
      -- the starts with this one more
      abbrev more_starts : List Entry
      more_starts = σ ++ (record { task = i; start = t } ∷ [])

      -- the records used on the way are those that the two offsets say
      used_derived : offsets_derived (setting ts) (lent bytes ts) x t o w
          ≡ as_derived (setting ts) x t (next_replayed st good R open-jobs i t w next).idles_used
      used_derived =
          let z = next_replayed st good R open-jobs i t w next in
          derived_at (setting ts) (lent bytes ts) x t o w z.idles_used z.idles_left (rw z.way.all at R.idles_shown) z.offset

      -- the offset is kept behind it
      pub keeps_starts : KeepsIdles ts X more_starts (start_job x i) (t + (task ts i).time) w (kept_behind (setting ts) (lent bytes ts) x t kept o w)
      keeps_starts =
          let z = next_replayed st good R open-jobs i t w next in
          let more : List Idle = z.idles_used in
          let parts = parted_same R.idles_used R.idles_left K.used K.left (sym R.all_idles ∙ K.all) (omega (arith, R.idle_offset, K.used_offset)) in
          let way : ToStart (setting ts) x f K.left X.inversions i t more z.idles_left =
          subst (λ (k : List Idle). ToStart (setting ts) x f k X.inversions i t more z.idles_left) parts.1 z.way in
          let keeps = (laws ts good).any_free x t f i t z.keeps (omega (arith, z.way.later)) in
          record {
            used = K.used ++ more;
            left = z.idles_left;
            all = K.all ∙ ap (λ (k : List Idle). K.used ++ k) way.all ∙ sym (append_assoc K.used more z.idles_left);
            used_offset = omega (arith, z.offset, K.used_offset, length-append K.used more);
            many = kept_after K.many (length K.used) (as_derived (setting ts) x t more) (length more);
            kept_offset = rw used_derived
                (by_eq K.many (length K.used)
                (λ q. rw (eq-eqb K.many (length K.used) q, eq-eqb kept o (omega (arith, K.kept_offset, K.used_offset)))
                (moves (length more) (as_derived (setting ts) x t more) q z.offset))
                (λ n. rw (
                  ne_eqb K.many (length K.used) n,
                  ne_eqb kept o (λ q. n (omega (arith, K.kept_offset, K.used_offset))),
                ) K.kept_offset));
            so_far = kept_starts (setting ts) (laws ts good) {e = record { task = i; start = t }} K.so_far keeps way;
          }
        where
          moves : (more : ℕ) (b : Bool) → K.many ≡ length K.used → w ≡ o + more * size ID →
              pick b w kept ≡ head_length ts + pick b (length K.used + more) K.many * size ID
          moves more true q e = omega (arith, K.used_offset)
          moves more false q e = K.kept_offset

      -- with a baseline that never waits it stays the ID offset
      pub keeps_along : NeverWaits (setting ts) → kept ≡ o → KeepsIdles ts X more_starts (start_job x i) (t + (task ts i).time) w w
      keeps_along never along =
          let derived = used_derived ∙ (next_replayed st good R open-jobs i t w next).way.always never in
          let behind : kept_behind (setting ts) (lent bytes ts) x t kept o w ≡ w = rw (eq-eqb kept o along, derived) in
          subst (λ (k : ℕ). KeepsIdles ts X more_starts (start_job x i) (t + (task ts i).time) w k) behind keeps_starts

    -- all jobs have started: the first difference is at the kept ID; where none stands there, it is that of the inversions
    pub kept_differs : all_started (hyperperiod ts) ts.tasks x ≡ true → (place : ℕ) →
        tables_differ place X (tables ts σ)
        ≡ first (found_at place K.many (length X.idles))
        (inversions_differ (place + length X.idles) X.inversions (inversions (setting ts) [] σ))
    kept_differs done place = kept_done (setting ts) (laws ts good) K.so_far K.all done place (inversions (setting ts) [] σ)
