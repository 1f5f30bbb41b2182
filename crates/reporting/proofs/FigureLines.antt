-- Figures put one a line: what is kept from one to the next, and what is there at the end. Assumes nothing.
use mathlib.Core.Path.{◌≡◌, refl, sym, ◌∙◌, ap, subst}
use mathlib.Core.List.{List, [], ◌∷◌, ◌++◌, append_assoc, append-nil}
use Prim.Native.Nat.{ℕ, ◌+◌, ◌*◌, ◌≤◌, ◌<◌}
use native.Mathlib.Numerals.{add-one}
use native.Mathlib.Omega.{arith}
use lib.IntN.{ℤ, pos}
use lib.ListN.{length, get_or, take, length-append}
use lib.Seq.{take-suc}
use mir.Syntax.{w64}
use mir.Val.{SFits}
use Rattle.text.specs.Text.{line_end, signed_then}
use Rattle.text.specs.declared.Page.{Page}
use Rattle.text.specs.Pages.{Fits, Puts}
use Rattle.text.proofs.TextPuts.{both_put}
use Rattle.text.proofs.Lengths.{signed_short}
use Rattle.reporting.specs.Report.{figure_lines}
use Rattle.reporting.specs.Turns.{longest_line}

-- the lines of figures behind figures stand behind theirs
lines_behind : (before behind : List ℤ) → figure_lines (before ++ behind) ≡ figure_lines before ++ figure_lines behind
lines_behind [] behind = refl
lines_behind (z ∷ before) behind =
    rw (lines_behind before behind) (sym (append_assoc (signed_then z line_end) (figure_lines before) (figure_lines behind)))

-- so many figures put: their lines stand on the page, and none is longer than the longest
pub record FiguresPut (figures : List ℤ) (old : Page) (i : ℕ) (p : Page) : Type 0 where
  pub short : length (figure_lines (take i figures)) ≤ i * longest_line
  pub puts : Puts (figure_lines (take i figures)) old p

module _ {figures : List ℤ} {old : Page} {i : ℕ} {p : Page} (w : FiguresPut figures old i p)
    (room : old.at + length figures * longest_line ≤ length old.out.now) (more : i < length figures) (fits : SFits w64 (get_or figures i (pos 0))) where
  abbrev line : List ℕ
  line = signed_then (get_or figures i (pos 0)) line_end

  -- a figure's line is short, and has room
  line_short : length line ≤ longest_line
  line_short = signed_short (get_or figures i (pos 0)) line_end fits

  pub line_fits : Fits line p
  line_fits = omega (arith, line_short)

  -- the lines up to it
  one_more : figure_lines (take (i + 1) figures) ≡ figure_lines (take i figures) ++ line
  one_more =
      rw (add-one i, take-suc figures i (pos 0) more)
      (lines_behind (take i figures) (get_or figures i (pos 0) ∷ []) ∙ ap (λ (l : List ℕ). figure_lines (take i figures) ++ l) (append-nil line))

  -- with it one figure more is put
  pub figures_more : {q : Page} → Puts line p q → FiguresPut figures old (i + 1) q
  figures_more {q} b =
      let many = length-append (figure_lines (take i figures)) line in
      record {
        short = rw one_more (omega (arith, many, line_short));
        puts = subst (λ lines. Puts lines old q) (sym one_more) (both_put (omega (arith, many, line_fits)) w.puts b);
      }
