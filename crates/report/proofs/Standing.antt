-- The report goes ahead: a read behind the bytes that are held, and an image, are turns of the drive, and leave less. Assumes nothing.
use mathlib.Core.Path.{◌≡◌, refl, sym, ◌∙◌, ap}
use mathlib.Core.List.{List, ◌++◌}
use Prim.Native.Nat.{ℕ, suc, ◌+◌, ◌-◌, ◌≤◌, ◌<◌}
use native.Mathlib.Numerals.{add-one}
use native.Mathlib.Omega.{arith}
use lib.Dec.{ltb}
use lib.ListN.{length, take, drop, length-take, length-drop}
use lib.Seq.{length-take-le, take-add, drop_at, drop-drop, take_at}
use borrow.Author.Tests.{lt-ltb, le-ltb}
use Rattle.std.specs.Prelude.{Ok}
use Rattle.std.specs.List.{copy_within}
use Rattle.rules.proofs.Cases.{by_le}
use Rattle.standard.specs.Calls.{ReadBehind}
use Rattle.reporting.specs.Report.{goes_on, most_images, turn}
use Rattle.reporting.proofs.NoFurther.{Goes}
use Rattle.report.specs.declared.Stand.{Stand}
use Rattle.report.specs.Stands.{between, held_in, Stands, CanRead, Ahead, ReadOn, after_image, PassedOn, Driven, reads, passes}

-- bytes from one place to another, without the first of them
rest_held : (begin end used : ℕ) (bytes : List ℕ) → begin + used ≤ end → end ≤ length bytes →
    between (begin + used) end bytes ≡ drop used (between begin end bytes)
rest_held begin end used bytes l k =
    let rest = end - (begin + used) in
    let all : end - begin ≡ used + rest = omega arith in
    let behind = drop begin bytes in
    sym
    (ap (λ (n : ℕ). drop used (take n behind)) all
    ∙ ap (drop used) (take-add used rest behind)
    ∙ drop_at (take used behind) (take rest (drop used behind)) used (length-take-le used behind (rw length-drop (omega arith)))
    ∙ ap (take rest) (drop-drop used begin bytes))

module _ {s : Stand} {buffer : List ℕ} (w : Stands s buffer) where
  -- so many bytes are held
  pub many_held : length (held_in s buffer) ≡ s.end - s.begin
  many_held = rw (length-take, length-drop) (omega (arith, w.inside))

  -- an image among them has its bytes there, and is not one too many
  module _ (used : ℕ) (g : Goes (held_in s buffer) s.images used) where
    pub used_inside : s.begin + used ≤ s.end
    used_inside = omega (arith, g.inside, many_held, w.in_order)

    pub not_last : s.images < most_images
    not_last = by_le (suc s.images) most_images (λ l. l) (λ l. absurd (g.not_last (omega (arith, w.few))))

    image_passed : PassedOn s buffer used (after_image s used) buffer
    image_passed = record {
      ahead = record {
        stands = record { in_order = used_inside; inside = w.inside; long = w.long; few = omega (arith, not_last) };
        less = omega (arith, used_inside, not_last, w.inside, w.long);
      };
      held = rest_held s.begin s.end used buffer used_inside w.inside;
      more = refl;
      images = add-one s.images;
    }

    -- passing it is a turn of the drive
    pub image_drives : {text : List ℕ} → turn (held_in s buffer) s.more s.images ≡ goes_on text used → {t : Stand} → t ≡ after_image s used →
        Driven s buffer t buffer
    image_drives e is = rw is (passes e image_passed)

-- whether bytes came
came : (held n : ℕ) (bytes : List ℕ) → held ≤ n → n ≤ length bytes → ltb held n ≡ ltb 0 (length (between held n bytes))
came held n bytes l k =
    let many : length (between held n bytes) ≡ n - held = rw (length-take, length-drop) (omega arith) in
    by_le (suc held) n (λ more. lt-ltb held n more ∙ sym (lt-ltb 0 (length (between held n bytes)) (omega arith)))
    (λ none. le-ltb held n (omega arith) ∙ sym (le-ltb 0 (length (between held n bytes)) (omega arith)))

-- with what was read behind the bytes at the front of the buffer: bytes more, or the end
pub read_on : {s : Stand} {old : List ℕ} (w : CanRead s old) {moved : List ℕ} → moved ≡ copy_within old s.begin s.end 0 → {new : List ℕ} (n : ℕ) →
    length new ≡ length old → ReadBehind (s.end - s.begin) moved (Ok n) new →
    ReadOn s old (record { begin = 0; end = n; more = ltb (s.end - s.begin) n; images = s.images }) new
read_on {s} {old} w {moved} is {new} n same read =
    let held = s.end - s.begin in
    let known = w.stands in
    let behind = read.inside in
    let all : n - 0 ≡ held + (n - held) = omega arith in
    let front : take held new ≡ held_in s old =
    read.kept ∙ ap (take held) is ∙ take_at (held_in s old) (drop (0 + held) old) held (many_held known) in
    record {
      ahead = record {
        stands = record { in_order = omega arith; inside = behind.1; long = same ∙ known.long; few = known.few };
        less =
            by_le (suc held) n (λ more. rw (lt-ltb held n more, w.can_come) (omega (arith, known.long, w.has_room)))
            (λ none. rw (le-ltb held n (omega arith), w.can_come) (omega (arith, known.long, w.has_room)));
      };
      piece = between held n new;
      held = ap (λ (k : ℕ). take k new) all ∙ take-add held (n - held) new ∙ ap (λ (front : List ℕ). front ++ between held n new) front;
      more = came held n new behind.0 behind.1;
      images = refl;
    }

-- each turn of the drive leaves less
pub driven_ahead : {s : Stand} {old : List ℕ} {t : Stand} {new : List ℕ} → Driven s old t new → Ahead s t new
driven_ahead (reads e d) = d.ahead
driven_ahead (passes e d) = d.ahead
