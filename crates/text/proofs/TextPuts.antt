-- Texts put on a page, one behind the other. Assumes nothing.
use mathlib.Core.Path.{◌≡◌, refl, sym, ◌∙◌, ap}
use mathlib.Core.List.{List, [], ◌∷◌, ◌++◌}
use Prim.Native.Nat.{ℕ, ◌+◌, ◌≤◌}
use native.Mathlib.Nat.{zero-add}
use native.Mathlib.Omega.{arith}
use borrow.Rule.Slice.PartMut.{put_mid}
use lib.ListN.{length, drop, set, length-append}
use Rattle.std.specs.Borrow.{MutBor}
use Rattle.std.proofs.lemmas.List.Edits.{paste_all}
use Rattle.std.proofs.lemmas.Slice.{put_mid-paste}
use Rattle.writing.specs.Writing.{put_at}
use Rattle.writing.proofs.Puts.{put_fits, put_sets, put_next, put_none}
use Rattle.text.specs.declared.Page.{Page}
use Rattle.text.specs.Puts.{PutAt, AtFront}
use Rattle.text.specs.Pages.{Opened, Fits, Puts}

-- a byte stored at a place
pub byte_put : (old : List ℕ) (at x : ℕ) → at + 1 ≤ length old → set old at x ≡ put_at old at (x ∷ [])
byte_put old at x h = sym (put_sets old at (x ∷ []) h)

-- bytes copied to a place
pub bytes_put : (old : List ℕ) (at k : ℕ) (bytes : List ℕ) {over : List ℕ} → over ≡ bytes → length bytes ≡ k → at + length bytes ≤ length old →
    put_mid at k old over ≡ put_at old at bytes
bytes_put old at k bytes e many h =
    put_mid-paste at k old _ bytes (length bytes) e many refl ∙ paste_all old at bytes (length bytes) refl ∙ sym (put_fits old at bytes h)

-- a text put behind another is put with it
pub texts_put : {old : List ℕ} {at : ℕ} {xs ys : List ℕ} {r q : ℕ} {out last : List ℕ} → at + length (xs ++ ys) ≤ length old →
    PutAt old at xs r out → PutAt out r ys q last → PutAt old at (xs ++ ys) q last
texts_put {old} {at} {xs} {ys} {r} {q} {out} {last} h a b = record {
  behind = omega (arith, a.behind, b.behind, length-append xs ys);
  put = b.put ∙ rw (a.put, a.behind) (put_next old at xs ys h);
}

pub both_put : {p q r : Page} {xs ys : List ℕ} → Fits (xs ++ ys) p → Puts xs p q → Puts ys q r → Puts (xs ++ ys) p r
both_put h a b = record { same = b.same ∙ a.same; same_length = b.same_length ∙ a.same_length; put = texts_put h a.put b.put }

-- an equal text is put too
pub same_text : {p q : Page} {xs ys : List ℕ} → Puts xs p q → xs ≡ ys → Puts ys p q
same_text put e = rw e at put

-- no text
pub none_put : (p : Page) → p.at ≤ length p.out.now → Puts [] p p
none_put p h = record { same = refl; same_length = refl; put = record { behind = omega arith; put = sym (put_none p.out.now p.at h) } }

-- a text put at the front
pub text_at_front : {old text : List ℕ} {r : ℕ} {out : List ℕ} → length text ≤ length old → PutAt old 0 text r out → AtFront text old r out
text_at_front {old} {text} h a = record {
  many = omega (arith, a.behind);
  front = a.put ∙ put_fits old 0 text (omega arith) ∙ rw (zero-add (length text));
}

pub page_front : {out : MutBor (List ℕ)} {p q : Page} {text : List ℕ} → Opened out p → length text ≤ length out.now → Puts text p q →
    AtFront text out.now q.at q.out.now
page_front o h a = text_at_front h (rw (o.front, o.kept) at a.put)

-- and its length is within the output
pub front_inside : {text old : List ℕ} {r : ℕ} {out : List ℕ} → AtFront text old r out → r ≤ length out
front_inside {text} {old} a = omega (arith, a.many, ap length a.front, length-append text (drop (length text) old))
