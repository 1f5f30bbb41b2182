-- What whoever reads the program's text can rely on, from the contract of `list`: one text; for an input that is not too long, the listing of the very
-- timetable behind the tables, or the table image's refusal; and P2's listing is the document's. Assumes nothing.
use mathlib.Core.Path.{◌≡◌, refl, sym, ◌∙◌, ap}
use mathlib.Core.List.{List, [], ◌∷◌}
use Prim.Native.Nat.{ℕ, suc, ◌≤◌, ◌<◌}
use native.Mathlib.Omega.{arith}
use lib.ListN.{length, take}
use lib.Seq.{length-take-le, take_all}
use borrow.Author.Tests.{le-leb, lt-leb}
use Rattle.fields.specs.Number.{Bytes}
use Rattle.rules.specs.declared.Entry.{Entry}
use Rattle.rules.specs.declared.Located.{Located}
use Rattle.std.specs.Prelude.{Err}
use Rattle.rules.specs.Tasks.{Set, hyperperiod}
use Rattle.rules.specs.Framing.{frame_records}
use Rattle.rules.specs.Operations.{check_tables}
use Rattle.rules.specs.Promised.{TableImage, TheByte}
use Rattle.rules.specs.Worked.{P2_bytes}
use Rattle.rules.proofs.Cases.{by_le}
use Rattle.rules.proofs.ImageOrder.{tables_refused_at}
use Rattle.rules.proofs.Promises.{tables_byte}
use Rattle.rules.proofs.Demand2.{rebuilds}
use Rattle.text.specs.Text.{decimal, refused_text, longest_input, too_long}
use Rattle.text.proofs.Promises.{one_front}
use Rattle.lines.specs.Text.{line, ok_line, listing_of, text_of, listing, program_text}
use Rattle.lines.specs.Lists.{room, Listed}

-- two results that meet the contract of `list` are equal
pub one_listing : {bytes old : List ℕ} {r q : ℕ} {out other : List ℕ} → Listed bytes old r out → Listed bytes old q other → (r ≡ q) × (out ≡ other)
one_listing {old = old} a b =
    by_le room (length old) (λ l. one_front (a.lists l) (b.lists l))
    (λ l. ((a.short l).0 ∙ sym (b.short l).0, (a.short l).1 ∙ sym (b.short l).1))

-- the image of a timetable's tables is listed as exactly that timetable
pub accepted_listing : {bytes : List ℕ} {ts : Set} {τ : List Entry} → TableImage bytes ts τ → listing bytes ≡ listing_of ts τ
unfolding listing
accepted_listing {bytes} t = ap (text_of bytes) (rebuilds t)

-- any other image is listed as the refusal that checking it gives
pub refused_listing : (bytes : List ℕ) (r : Located) → check_tables bytes ≡ Err r → listing bytes ≡ refused_text r
unfolding listing
refused_listing bytes r e = let w = tables_refused_at bytes r e in ap (text_of bytes) w.judged ∙ ap refused_text (sym w.there)

-- so the third number of its line is the byte at which the record begins that the second one names, 0 where it names none
pub listed_byte : (bytes : List ℕ) → Bytes bytes → (r : Located) → check_tables bytes ≡ Err r → TheByte 2 bytes r.number r.place r.offset
listed_byte bytes b r e = tables_byte bytes b (Err r) e

-- an input of at most 65,536 bytes is listed
pub judged_input : (input : List ℕ) → length input ≤ longest_input → program_text input ≡ listing input
unfolding program_text
judged_input input l = simp (le-leb _ _ l)

-- any longer one is refused, whatever it is
pub refused_input : (input : List ℕ) → longest_input < length input → program_text input ≡ refused_text too_long
unfolding program_text
refused_input input l = simp (lt-leb _ _ l)

-- the first 65,537 bytes of an input decide what is written: no more of it has to be read
pub first_bytes_decide : (input : List ℕ) → program_text (take (suc longest_input) input) ≡ program_text input
first_bytes_decide input =
    by_le (suc longest_input) (length input)
    (λ l.
    refused_input (take (suc longest_input) input) (omega (arith, length-take-le (suc longest_input) input l))
    ∙ sym (refused_input input (omega arith)))
    (λ l. ap program_text (take_all (suc longest_input) input (omega arith)))

-- the document's seven lines and "ok 7"
pub p2_listing : listing P2_bytes
    ≡ (0x30 ∷ 0x20 ∷ 0x30 ∷ 0x20 ∷ 0x30 ∷ 0x20 ∷ 0x31 ∷ 0x0A
    ∷ 0x32 ∷ 0x20 ∷ 0x30 ∷ 0x20 ∷ 0x31 ∷ 0x20 ∷ 0x37 ∷ 0x0A
    ∷ 0x31 ∷ 0x20 ∷ 0x30 ∷ 0x20 ∷ 0x37 ∷ 0x20 ∷ 0x39 ∷ 0x0A
    ∷ 0x30 ∷ 0x20 ∷ 0x31 ∷ 0x20 ∷ 0x39 ∷ 0x20 ∷ 0x31 ∷ 0x30 ∷ 0x0A
    ∷ 0x30 ∷ 0x20 ∷ 0x32 ∷ 0x20 ∷ 0x31 ∷ 0x32 ∷ 0x20 ∷ 0x31 ∷ 0x33 ∷ 0x0A
    ∷ 0x31 ∷ 0x20 ∷ 0x31 ∷ 0x20 ∷ 0x31 ∷ 0x33 ∷ 0x20 ∷ 0x31 ∷ 0x35 ∷ 0x0A
    ∷ 0x30 ∷ 0x20 ∷ 0x33 ∷ 0x20 ∷ 0x31 ∷ 0x35 ∷ 0x20 ∷ 0x31 ∷ 0x36 ∷ 0x0A
    ∷ 0x6F ∷ 0x6B ∷ 0x20 ∷ 0x37 ∷ 0x0A
    ∷ [])
unfolding listing listing_of line ok_line decimal frame_records hyperperiod
p2_listing = refl
