-- What whoever reads a text can rely on: a text at the front of an output leaves one output; and the line of what is too long is the documents'.
-- Assumes nothing.
use mathlib.Core.Path.{◌≡◌, refl, sym, ◌∙◌}
use mathlib.Core.List.{List, [], ◌∷◌}
use Prim.Native.Nat.{ℕ}
use Rattle.text.specs.declared.Page.{Page}
use Rattle.text.specs.Text.{decimal, refused_text, too_long}
use Rattle.text.specs.Puts.{PutAt, AtFront}
use Rattle.text.specs.Pages.{Puts}

-- a text at the front of an output leaves one answer and one output
pub one_front : {text old : List ℕ} {r q : ℕ} {out other : List ℕ} → AtFront text old r out → AtFront text old q other → (r ≡ q) × (out ≡ other)
one_front a b = (a.many ∙ sym b.many, a.front ∙ sym b.front)

-- and so does a text at a place
pub one_put : {old : List ℕ} {at : ℕ} {text : List ℕ} {r q : ℕ} {out other : List ℕ} → PutAt old at text r out → PutAt old at text q other →
    (r ≡ q) × (out ≡ other)
one_put a b = (a.behind ∙ sym b.behind, a.put ∙ sym b.put)

-- a text on a page too
pub one_page : {text : List ℕ} {old new other : Page} → Puts text old new → Puts text old other → (new.at ≡ other.at) × (new.out.now ≡ other.out.now)
one_page a b = one_put a.put b.put

-- the document's "refused 20 0", with document 02's third number
pub too_long_line : refused_text too_long
    ≡ (0x72 ∷ 0x65 ∷ 0x66 ∷ 0x75 ∷ 0x73 ∷ 0x65 ∷ 0x64 ∷ 0x20 ∷ 0x32 ∷ 0x30 ∷ 0x20 ∷ 0x30 ∷ 0x20 ∷ 0x30 ∷ 0x0A ∷ [])
unfolding refused_text decimal
too_long_line = refl
