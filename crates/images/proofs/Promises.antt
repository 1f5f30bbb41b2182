-- The contract of finding a mark determines its answer. Assumes nothing.
use Rattle.std.specs.Prelude.{◌≡◌, Option as CodeOption, Some, None}
use mathlib.Core.Path.{refl, sym, ◌∙◌, ap}
use mathlib.Core.Option.{Option, none, some}
use Rattle.rules.specs.Marks.{Mark, TS, TK, SL, ID, PV, EN}
use Rattle.images.specs.declared.Mark.{Mark as CodeMark}
use Rattle.images.specs.declared.Mark.TheVariants as mark_case
use Rattle.images.specs.Table.{found_mark}

-- what is found, as the code has it
abbrev answer : Option Mark → CodeOption CodeMark
answer none = None
answer (some TS) = Some mark_case.TS
answer (some TK) = Some mark_case.TK
answer (some SL) = Some mark_case.SL
answer (some ID) = Some mark_case.ID
answer (some PV) = Some mark_case.PV
answer (some EN) = Some mark_case.EN

answer_back : (r : CodeOption CodeMark) → answer (found_mark r) ≡ r
answer_back None = refl
answer_back (Some mark_case.TS) = refl
answer_back (Some mark_case.TK) = refl
answer_back (Some mark_case.SL) = refl
answer_back (Some mark_case.ID) = refl
answer_back (Some mark_case.PV) = refl
answer_back (Some mark_case.EN) = refl

-- two answers of `Mark::find` that meet its contract are equal
pub one_mark : (found : Option Mark) (r s : CodeOption CodeMark) → found_mark r ≡ found → found_mark s ≡ found → r ≡ s
one_mark found r s e f = sym (answer_back r) ∙ ap answer (e ∙ sym f) ∙ answer_back s
