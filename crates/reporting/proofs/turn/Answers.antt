-- `reporting::turn` meets its contract: no room, no bytes, a byte behind the last image that may come, or an image. Assumes nothing.
use mathlib.Core.Path.{refl, sym}
use native.Mathlib.Omega.{arith}
use lib.ListN.{length}
use Rattle.std.proofs.lemmas.Bool.{eqb-true, eqb-false}
use Rattle.std.proofs.lemmas.List.{take_min}
use Rattle.text.specs.Text.{longest_input, too_long}
use Rattle.text.proofs.Lengths.{refused_short}
use Rattle.reporting.proofs.TurnLaws.{leaves_as, stops_left, none_turn, last_turn, held_turn, turned}
use Rattle.reporting.proofs.turn.Goals as goal

pub returns-then-out-lt-ROOM : goal.returns-then-out-lt-ROOM
returns-then-out-lt-ROOM c = record { short = λ l. (refl, refl); turns = λ l. absurd (omega arith) }

pub returns-then-is_empty : goal.returns-then-is_empty
returns-then-is_empty c =
    let a = c.args in
    turned (omega arith) (leaves_as (none_turn a.held.now a.more a.images (eqb-true _ 0 (sym c.if-is_empty.ensures))) c.none_held.ensures)

pub put_too_long-requires : goal.put_too_long-requires
put_too_long-requires c = omega (arith, refused_short too_long (omega arith) (omega arith) (omega arith))

pub returns-then-images-eq-MOST_IMAGES : goal.returns-then-images-eq-MOST_IMAGES
returns-then-images-eq-MOST_IMAGES c =
    let a = c.args in
    let some = eqb-false (length a.held.now) 0 (sym c.if-is_empty.ensures) in
    turned (omega arith)
    (leaves_as (last_turn a.held.now a.more a.images (omega arith) c.if-images-eq-MOST_IMAGES.true) (stops_left c.put_too_long.ensures))

pub returns : goal.returns
returns c =
    let a = c.args in
    let some = eqb-false (length a.held.now) 0 (sym c.if-is_empty.ensures) in
    turned (omega arith)
    (leaves_as (held_turn a.held.now a.more a.images (omega arith) c.if-images-eq-MOST_IMAGES.false)
    (rw (c.min-many.ensures, take_min longest_input a.held.now) at c.of_image.ensures))
