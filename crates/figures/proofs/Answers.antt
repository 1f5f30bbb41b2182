-- What measuring answers: the refusal that the image is judged with, no room, or its figures. Assumes nothing.
use mathlib.Core.Path.{◌≡◌, sym, ◌∙◌, ap}
use mathlib.Core.List.{List}
use Prim.Native.Nat.{ℕ, ◌+◌, ◌≤◌, ◌<◌}
use native.Mathlib.Omega.{arith}
use lib.ListN.{length, length-append}
use lib.IntN.{ℤ}
use borrow.Author.Tests.{le-leb, lt-leb}
use Rattle.rules.specs.declared.Located.{Located}
use Rattle.rules.specs.declared.Layout.{Layout}
use Rattle.std.specs.Prelude.{Result, Ok, Err}
use Rattle.rules.specs.declared.Axis.{Axis}
use Rattle.rules.specs.Refusals.{Judged, gives, refuses, refusal}
use Rattle.rules.specs.Tasks.{Set, hyperperiod, memory_set}
use Rattle.rules.specs.Several.{list_below}
use Rattle.rules.specs.Lateness.{worst_lateness}
use Rattle.rules.specs.Intervals.{spare}
use Rattle.rules.specs.Framing.{start_place, frame_records}
use Rattle.rules.specs.Located.{located, RefusedAt}
use Rattle.rules.specs.Operations.{output_after}
use Rattle.rules.specs.Axis.{figures_of, front, Measures}
use Rattle.rules.proofs.Several.{list_length}
use Rattle.rules.proofs.FewIntervals.{spare_few}
use Rattle.rules.proofs.Fronts.{refused_whole}
use Rattle.sets.specs.declared.Kept.{Kept}
use Rattle.sets.specs.Kept.{tasks_in, hyperperiod_in}
use Rattle.sets.proofs.SetKept.{kept_cycle}
use Rattle.tables.specs.declared.Tables.{Tables as Judgement}
use Rattle.tables.specs.Judged.{Good}
use Rattle.figures.specs.Figures.{figures_put, image_measured, MeasuresImage}

module _ {bytes : List ℕ} {t : Judgement} {kept : Kept} (g : Good bytes t kept) {many : ℕ}
    (are : many ≡ length (spare (memory_set t.set) (hyperperiod_in kept))) where
  abbrev ts : Set
  ts = memory_set t.set

  -- how many figures there are
  pub few_figures : tasks_in kept + 3 + many ≤ 8212
  few_figures = omega (arith, are, spare_few g.keeps.good, g.keeps.few)

  figures_many : length (figures_of ts g.entries) ≡ tasks_in kept + 3 + many
  unfolding figures_of
  figures_many =
      omega (
        arith,
        length-append (list_below (length ts.tasks) (worst_lateness ts g.entries)) (spare ts (hyperperiod ts)),
        list_length (length ts.tasks) (worst_lateness ts g.entries),
        g.keeps.n_tasks,
        are,
        ap (λ (h : ℕ). length (spare ts h)) (kept_cycle g.keeps),
      )

  -- they are given, where there is room
  module _ (old : List ℤ) where
    pub too_short : length old < tasks_in kept + 3 + many → MeasuresImage bytes old (Err (located bytes (refusal 20 0))) old
    too_short short =
        let e : image_measured (length old) bytes ≡ refuses (refusal 20 0) =
        rw (g.read, g.judged, lt-leb (length (figures_of ts g.entries)) (length old) (omega (arith, figures_many))) in
        record { answer = rw e; output = rw e }

    module _ (enough : tasks_in kept + 3 + many ≤ length old) where
      given : image_measured (length old) bytes ≡ gives (figures_of ts g.entries)
      given = rw (g.read, g.judged, le-leb (length (figures_of ts g.entries)) (length old) (omega (arith, figures_many)))

      pub measured_so : {out : List ℤ} → out ≡ figures_put ts g.entries old →
          MeasuresImage bytes old (Ok (record { figures = tasks_in kept + 3 + many; used = length bytes })) out
      measured_so is = record { answer = rw (given, figures_many); output = is ∙ sym (ap (λ (z : Judged (List ℤ)). output_after z old) given) }

-- bytes that are not framed up to EN are refused as a whole, and others are measured up to it
pub refused_front : (images : List ℕ) (old : List ℤ) (r : Located) → RefusedAt images (frame_records 2 start_place images) r →
    Measures images old (Err r) old
refused_front images old r e =
    let w = refused_whole images _ e.judged in
    record { answer = rw (w.1, w.0) (ap Err e.there); output = rw (w.1, w.0) }

pub measured_front : (images : List ℕ) (l : Layout) → frame_records 2 start_place images ≡ gives l → {old out : List ℤ} {r : Result Axis Located} →
    MeasuresImage (front images) old r out → Measures images old r out
measured_front images l e m = record { answer = m.answer; output = m.output }
