-- One step of framing: the tests of a record in their order, and a turn of framing a whole image. Assumes nothing.
use mathlib.Core.Path.{◌≡◌, refl, sym, ◌∙◌, ap, ap₂}
use mathlib.Core.Logic.{◌⊎◌, inl, inr}
use mathlib.Core.Bool.{Bool, true, false}
use mathlib.Core.List.{List}
use mathlib.Core.Option.{Option, none, some}
use Prim.Native.Nat.{ℕ, ◌+◌, ◌-◌, ◌≤◌, ◌<◌}
use native.Mathlib.Nat.{add-zero}
use native.Mathlib.Omega.{arith}
use borrow.Author.Tests.{le-leb, lt-leb}
use lib.ListN.{length, get_or, drop, length-drop}
use lib.Seq.{drop-drop, get_or-drop}
use Rattle.std.specs.Prelude.{Result, Ok, Err}
use Rattle.rules.specs.declared.Place.{Place}
use Rattle.rules.specs.declared.Layout.{Layout}
use Rattle.rules.specs.declared.Located.{Located}
use Rattle.rules.specs.Refusals.{gives, refuses}
use Rattle.rules.specs.Marks.{Mark, row, marks, size, mark_in, front_mark, values}
use Rattle.rules.specs.Framing.{in_kind, may_follow, allowed, if_allowed, mark_at, frame_records, start_place, frame}
use Rattle.rules.specs.Located.{offset_of, bare, RefusedAt}
use Rattle.rules.proofs.Cases.{both_true}
use Rattle.rules.proofs.Marked.{mark_front, found_allowed}
use Rattle.rules.proofs.RefusalNumbers.{framing_names}
use Rattle.rules.proofs.RecordOffsets.{begins_offset}
use Rattle.rules.proofs.FramingTurns as turns
use Rattle.framing.specs.declared.Step.{Step}
use Rattle.framing.specs.declared.Step.TheVariants.{GoesOn, Ended}
use Rattle.framing.specs.Frames.{refusal_at, Whole, Follows, Steps, Reached, frame_as, frame_answer}
use Rattle.framing.proofs.PlaceLaws.{placed_after, end_index, refused_place}

-- what one record comes to, by the tests in their order
module _ (kind : ℕ) (bytes : List ℕ) (s : Place) where
  abbrev rest : List ℕ
  rest = drop s.offset bytes

  -- the mark that the two bytes at the place are
  abbrev pub mark_there : Option Mark
  mark_there = mark_in marks (get_or bytes s.offset 0) (get_or bytes (s.offset + 1) 0)

  pub too_short : length bytes - s.offset < 2 → Steps kind bytes s (Err (refusal_at 1 s))
  too_short h = (turns.frame_too_short kind s rest (omega (arith, length-drop s.offset bytes)), refl, refl)

  module _ (two : 2 ≤ length bytes - s.offset) where
    mark_is : {o : Option Mark} → o ≡ mark_there → mark_at kind s rest ≡ if_allowed kind s o
    mark_is found =
        let first : get_or rest 0 0 ≡ get_or bytes s.offset 0 = rw (get_or-drop s.offset bytes 0 0, add-zero) in
        ap₂ (λ (a b : ℕ). if_allowed kind s (mark_in marks a b)) first (get_or-drop s.offset bytes 1 0) ∙ ap (if_allowed kind s) (sym found)

    refuses_mark : mark_at kind s rest ≡ none → Steps kind bytes s (Err (refusal_at 2 s))
    refuses_mark e = (turns.frame_unmarked kind s rest (omega (arith, length-drop s.offset bytes)) e, refl, refl)

    pub no_mark : none ≡ mark_there → Steps kind bytes s (Err (refusal_at 2 s))
    no_mark e = refuses_mark (mark_is e)

    module _ {m : Mark} (found : some m ≡ mark_there) where
      pub not_allowed : false ≡ allowed kind s m → Steps kind bytes s (Err (refusal_at 2 s))
      not_allowed e = refuses_mark (mark_is found ∙ rw (← e, if_allowed))

      module _ (may : true ≡ allowed kind s m) where
        marked : mark_at kind s rest ≡ some m
        marked = mark_is found ∙ rw (← may, if_allowed)

        pub cut_off : length bytes - s.offset < size m → Steps kind bytes s (Err (refusal_at 1 s))
        cut_off h = (
          turns.frame_cut_off kind s rest m (omega (arith, length-drop s.offset bytes)) marked (omega (arith, length-drop s.offset bytes)),
          refl,
          refl,
        )

        module _ (w : Whole bytes s m) where
          front : turns.WholeAllowed kind s rest m
          front = record { marked = marked; not_cut = omega (arith, length-drop s.offset bytes) }

          front_is : front_mark rest ≡ some m
          front_is = let a = found_allowed kind s rest m marked in mark_front rest m a.first_byte a.second_byte

          its_turn : may_follow s.rank (row m).rank ≡ true
          its_turn = (both_true (in_kind kind (row m)) (may_follow s.rank (row m).rank) (sym may)).1

          pub behind_mark : (r : Result Step Located) → Follows kind bytes s m r → Steps kind bytes s r
          behind_mark (Ok (GoesOn t)) f =
              let behind = turns.by_after kind s m (values m rest) (sym f.next) in
              let at : t.offset ≡ s.offset + size m = (turns.moves behind).1 in (
                placed_after bytes w.placed front_is w.not_cut its_turn behind,
                omega arith,
                turns.frame_goes kind s rest m t front (sym f.next)
                    ∙ ap (frame_records kind t) (drop-drop (size m) s.offset bytes ∙ ap (λ (i : ℕ). drop i bytes) (sym at)),
                record { mark = m; its_turn = its_turn; goes = sym f.next },
              )
          behind_mark (Ok (Ended l)) f =
              let last = end_index bytes w.placed its_turn (turns.by_after kind s m (values m rest) (sym f.next)) in
              (turns.frame_stops kind s rest m (gives l) front (sym f.next), last.0, last.1)
          behind_mark (Err r) f = (
            turns.frame_stops kind s rest m (refuses (bare r)) front (sym f.next),
            refused_place (turns.by_after kind s m (values m rest) (sym f.next)),
            f.located,
          )

-- a refusal by framing up to EN is that of a whole image as well
pub refused_as : (whole : Bool) (kind : ℕ) {bytes : List ℕ} {q : Located} → RefusedAt bytes (frame_records kind start_place bytes) q →
    Err q ≡ frame_answer bytes (frame_as whole kind bytes)
refused_as true kind w = rw w.judged (ap Err w.there)
refused_as false kind w = rw w.judged (ap Err w.there)

-- a turn of framing: what has come so far, with what one record comes to
module _ {kind : ℕ} {bytes : List ℕ} {s : Place} (re : Reached kind bytes s) where
  -- a refusal of the record is the image's, located where the record begins
  pub refused_frame : {q : Located} → Steps kind bytes s (Err q) → RefusedAt bytes (frame_records kind start_place bytes) q
  refused_frame {q} w =
      let z : frame_records kind start_place bytes ≡ refuses (bare q) = re.same ∙ w.0 in
      let f : frame kind bytes ≡ refuses (bare q) = rw z in
      let there : q.offset ≡ offset_of q.place bytes = rw (w.1, w.2) (sym (begins_offset re.placed.begins)) in
      record { judged = z; there = rw (framing_names kind bytes (bare q) f) (λ i. record { number = q.number; place = q.place; offset = there i }) }

  -- where framing goes on, it comes to the place behind the record
  pub reached : {t : Place} → Steps kind bytes s (Ok (GoesOn t)) → Reached kind bytes t
  reached f = record { placed = f.0; same = re.same ∙ f.2 }

  -- and at EN it has come to a layout, unless bytes follow
  module _ {l : Layout} (w : Steps kind bytes s (Ok (Ended l))) where
    layout_is : frame_records kind start_place bytes ≡ gives l
    layout_is = re.same ∙ w.0

    pub followed : {whole : Bool} → whole ≡ true → l.ended < length bytes → Err (refusal_at 10 s) ≡ frame_answer bytes (frame_as whole kind bytes)
    followed e h = rw (e, layout_is, lt-leb (length bytes) l.ended h, w.1, begins_offset re.placed.begins)

    pub framed : {whole : Bool} → ((whole ≡ true) × (length bytes ≤ l.ended)) ⊎ (whole ≡ false) → Ok l ≡ frame_answer bytes (frame_as whole kind bytes)
    framed (inl (e, h)) = rw (e, layout_is, le-leb (length bytes) l.ended h)
    framed (inr e) = rw (e, layout_is)
