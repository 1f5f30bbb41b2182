-- What `hv_figures` returns and leaves, over every result that meets its contract. Assumes nothing.
use mathlib.Core.Path.{◌≡◌, sym, ◌∙◌, ap}
use mathlib.Core.Logic.{◌↔◌, inl, inr}
use mathlib.Core.List.{List, [], ◌∷◌, ◌++◌}
use Prim.Native.Nat.{ℕ, ◌≤◌, ◌<◌}
use native.Mathlib.Omega.{arith}
use lib.ListN.{length, drop}
use lib.Seq.{take_all}
use lib.IntN.{ℤ}
use borrow.Author.Tests.{leb-true, le-leb, lt-leb}
use Rattle.fields.specs.Number.{Bytes}
use Rattle.rules.specs.declared.Entry.{Entry}
use Rattle.rules.specs.declared.Axis.{Axis}
use Rattle.rules.specs.declared.Layout.{Layout}
use Rattle.rules.specs.declared.Refusal.{Refusal}
use Rattle.std.specs.Prelude.{Result, Err, ⊤}
use Rattle.rules.specs.declared.Located.{Located}
use Rattle.rules.specs.Refusals.{Judged, gives, refuses, refusal, or_else, unless, check_tells, axis_tells}
use Rattle.rules.specs.Tasks.{Set}
use Rattle.rules.specs.Framing.{start_place, frame_records, index_of_end, nothing_follows, frame, set_in, tables_in}
use Rattle.rules.specs.Located.{located}
use Rattle.rules.specs.Operations.{Timed, rebuilt, output_after, check_tables, read_tables, rebuild_from}
use Rattle.rules.specs.Axis.{front, figures_in, measured, measured_into, axis_answer}
use Rattle.rules.specs.AxisRules.{FiguresOfImage}
use Rattle.rules.specs.Promised.{TableImage}
use Rattle.rules.proofs.Cases.{by_judged, by_le, clash, gives_in, then_gives, or_else_gives, unless_none}
use Rattle.rules.proofs.Demand2.{rebuilds}
use Rattle.rules.proofs.Fronts.{front_taken, fronts_more}
use Rattle.rules.proofs.Promises as book
use Rattle.hervantyu.specs.Lent.{location_of, TablesChecked, given_or, Figured}

module _ (images : List ℕ) (old : List ℤ) {old-count old-used r count used : ℕ} {w : List ℕ} {left : List ℤ}
    (told : Figured images old old-count old-used r w count used left) where
  -- by what judging the image at the front comes to
  answered : (z : Judged (List ℤ)) → measured_into (length old) images ≡ z →
      (r ≡ (axis_tells (axis_answer (front images) z)).number) × (w ≡ location_of (axis_tells (axis_answer (front images) z)))
      × (count ≡ given_or (λ (a : Axis). a.figures) (axis_answer (front images) z) old-count)
      × (used ≡ given_or (λ (a : Axis). a.used) (axis_answer (front images) z) old-used) × (left ≡ output_after z old)
  answered z e = (
    told.told.answered.its_number ∙ ap (λ (y : Judged (List ℤ)). (axis_tells (axis_answer (front images) y)).number) e,
    told.told.answered.its_location ∙ ap (λ (y : Judged (List ℤ)). location_of (axis_tells (axis_answer (front images) y))) e,
    told.told.its_count ∙ ap (λ (y : Judged (List ℤ)). given_or (λ (a : Axis). a.figures) (axis_answer (front images) y) old-count) e,
    told.told.its_used ∙ ap (λ (y : Judged (List ℤ)). given_or (λ (a : Axis). a.used) (axis_answer (front images) y) old-used) e,
    told.its_figures ∙ ap (λ (y : Judged (List ℤ)). output_after y old) e,
  )

  -- figures that there are, with room for them or not
  given : (fs : List ℤ) → measured images ≡ gives fs → length fs ≤ length old → measured_into (length old) images ≡ gives fs
  given fs e l = rw (e, le-leb (length fs) (length old) l)

  too_short : (fs : List ℤ) → measured images ≡ gives fs → length old < length fs → measured_into (length old) images ≡ refuses (refusal 20 0)
  too_short fs e l = rw (e, lt-leb (length fs) (length old) l)

  -- what is refused is refused as checking the image at the front refuses it
  refused_check : (q : Refusal) → rebuilt (front images) ≡ refuses q → (check_tables (front images) ≡ Err (located (front images) q)) × (measured images ≡ refuses q)
  unfolding check_tables
  refused_check q e = (rw e, rw e)

  measured_some : (i : Timed) → rebuilt (front images) ≡ gives i → measured images ≡ gives (figures_in i)
  measured_some i e = rw e

  refused_number : (q : Refusal) → check_tables (front images) ≡ Err (located (front images) q) → (1 ≤ q.number) × (q.number ≤ 19)
  refused_number q e = elim (book.table_numbers (front images) (located (front images) q) e) [ inl n ↦ (n.0, omega (arith, n.1)) | inr n ↦ (omega (arith, n.0), n.1) ]

  refused_answer : (q : Refusal) → measured images ≡ refuses q → measured_into (length old) images ≡ refuses q
  refused_answer q e = rw e

  -- 0 is returned exactly where there are figures and room for them
  pub figures_zero : Bytes images → (r ≡ 0) ↔ ((fs : List ℤ) × FiguresOfImage images fs × (length fs ≤ length old))
  figures_zero b = (
    λ z.
        by_judged (rebuilt (front images))
        (λ i e.
        let fs : List ℤ = figures_in i in
        let m = measured_some i e in
        by_le (length fs) (length old) (λ l. (fs, (book.measured_images images b fs).0 m, l))
        (λ l. absurd (omega (arith, z, (answered _ (too_short fs m l)).0))))
        (λ q e.
        let c = refused_check q e in
        absurd (omega (arith, z, (answered _ (refused_answer q c.1)).0, (refused_number q c.0).0))),
    λ g. (answered _ (given g.0 ((book.measured_images images b g.0).1 g.1) g.2)).0,
  )

  -- with what is written then
  pub figures_written : Bytes images → (fs : List ℤ) → FiguresOfImage images fs → length fs ≤ length old →
      (w ≡ 0 ∷ 0 ∷ []) × (count ≡ length fs) × (used ≡ length (front images)) × (left ≡ fs ++ drop (length fs) old)
  figures_written b fs f l = let a = answered _ (given fs ((book.measured_images images b fs).1 f) l) in (a.1, a.2, a.3, a.4)

  -- 20 is returned exactly where there are figures and no room
  pub figures_twenty : Bytes images → (r ≡ 20) ↔ ((fs : List ℤ) × FiguresOfImage images fs × (length old < length fs))
  figures_twenty b = (
    λ t.
        by_judged (rebuilt (front images))
        (λ i e.
        let fs : List ℤ = figures_in i in
        let m = measured_some i e in
        by_le (length fs) (length old) (λ l. absurd (omega (arith, t, (answered _ (given fs m l)).0)))
        (λ l. (fs, (book.measured_images images b fs).0 m, l)))
        (λ q e.
        let c = refused_check q e in
        absurd (omega (arith, t, (answered _ (refused_answer q c.1)).0, (refused_number q c.0).1))),
    λ g. (answered _ (too_short g.0 ((book.measured_images images b g.0).1 g.1) g.2)).0,
  )

  pub figures_nowhere : Bytes images → r ≡ 20 → w ≡ 0 ∷ 0 ∷ []
  figures_nowhere b t = let g = (figures_twenty b).0 t in (answered _ (too_short g.0 ((book.measured_images images b g.0).1 g.1) g.2)).1

  -- any other number, and its place and byte, are those of checking the image at the front
  pub figures_checked : 1 ≤ r → (r ≡ 20 → ⊥) → TablesChecked (front images) r w
  figures_checked some not-20 =
      by_judged (rebuilt (front images))
      (λ i e.
      let fs : List ℤ = figures_in i in
      let m = measured_some i e in
      by_le (length fs) (length old) (λ l. absurd (omega (arith, (answered _ (given fs m l)).0)))
      (λ l. absurd (not-20 (answered _ (too_short fs m l)).0)))
      (λ q e.
      let c = refused_check q e in
      let a = answered _ (refused_answer q c.1) in
      record {
        its_number = a.0 ∙ sym (ap (λ (y : Result ⊤ Located). (check_tells y).number) c.0);
        its_location = a.1 ∙ sym (ap (λ (y : Result ⊤ Located). location_of (check_tells y)) c.0);
      })

  -- and nothing else is written
  pub figures_kept : 1 ≤ r → (count ≡ old-count) × (used ≡ old-used) × (left ≡ old)
  figures_kept some =
      by_judged (measured_into (length old) images)
      (λ fs e. absurd (omega (arith, (answered _ e).0)))
      (λ q e. let a = answered _ e in (a.2, a.3, a.4))

-- the figures of an image are one list
pub one_measure : (images : List ℕ) → Bytes images → {x y : List ℤ} → FiguresOfImage images x → FiguresOfImage images y → x ≡ y
one_measure images b {x} {y} f g = gives_in x y (sym ((book.measured_images images b x).1 f) ∙ (book.measured_images images b y).1 g)

-- a whole image is its own front
whole_front : (image : List ℕ) (l : Layout) → frame 2 image ≡ gives l → front image ≡ image
whole_front image l e =
    then_gives (frame_records 2 start_place image) (λ (k : Layout). or_else (unless (nothing_follows image k) 10 (index_of_end k)) (gives k)) l e
    (λ k u g.
    let o = or_else_gives (unless (nothing_follows image k) 10 (index_of_end k)) (gives k) l g in
    let short = leb-true _ _ (unless_none (nothing_follows image k) 10 (index_of_end k) o.0) in
    front_taken image k u ∙ take_all k.ended image short)

module _ {image : List ℕ} {ts : Set} {τ : List Entry} (t : TableImage image ts τ) where
  abbrev held : Timed
  held = record { set = ts; entries = τ }

  own_front : front image ≡ image
  own_front =
      then_gives (read_tables image) rebuild_from held (rebuilds t)
      (λ i e g. then_gives (frame 2 image) (λ (l : Layout). gives (record { set = set_in l image; tables = tables_in l image })) i e
      (λ l f h. whole_front image l f))

  -- an accepted image is the one at the front, whatever follows it
  pub front_first : (rest : List ℕ) → front (image ++ rest) ≡ image
  front_first rest =
      let m : measured image ≡ gives (figures_in held) = rw own_front (rw (rebuilds t)) in
      (fronts_more image rest (λ p u. clash (cc))).same_front (figures_in held) m ∙ own_front
