-- The code's table of marks, in the rule book's terms, and what a whole record at a place is. Assumes nothing.
use Rattle.std.specs.Prelude.{Bool, List, ℕ, ◌+◌, ◌*◌, Some, None, leb, eqb, length, get_or, drop}
use Rattle.std.specs.Prelude.{Option as CodeOption}
use Rattle.std.proofs.Math.Option.{Option, none, some}
use Rattle.rules.specs.Tasks.{both}
use Rattle.rules.specs.Marks.{Mark, TS, TK, SL, ID, PV, EN, Class, head_class, task_class, option_class, listed_class, inversion_class, end_class, row, marks, size, body_length}
use Rattle.images.specs.declared.Class.{Class as CodeClass}
use Rattle.images.specs.declared.Class.TheVariants as class_case
use Rattle.images.specs.declared.Row.{Row}
use Rattle.images.specs.declared.Mark.{Mark as CodeMark}
use Rattle.images.specs.declared.Mark.TheVariants as mark_case
use Rattle.images.specs.declared.Kind.{Kind}
use Rattle.images.specs.declared.Kind.TheVariants.{Timetable, Tables}

-- the rule book's mark for the code's, and for one that is found
abbrev pub mark_of : CodeMark → Mark
mark_of mark_case.TS = TS
mark_of mark_case.TK = TK
mark_of mark_case.SL = SL
mark_of mark_case.ID = ID
mark_of mark_case.PV = PV
mark_of mark_case.EN = EN

abbrev pub found_mark : CodeOption CodeMark → Option Mark
found_mark None = none
found_mark (Some m) = some (mark_of m)

-- the mark at a place of the table, EN behind it
abbrev pub mark_at : ℕ → Mark
mark_at k = get_or marks k EN

-- the number of a kind in an image
abbrev pub kind_number : Kind → ℕ
kind_number Timetable = 1
kind_number Tables = 2

-- a mark's two bytes as one number
abbrev pub pair_of : Mark → ℕ
pair_of m = (row m).byte₁ + (row m).byte₂ * 256

-- a class and a mark's row as the code has them
abbrev pub code_class : Class → CodeClass
code_class head_class = class_case.Head
code_class task_class = class_case.Task
code_class option_class = class_case.Option
code_class listed_class = class_case.Listed
code_class inversion_class = class_case.Inversion
code_class end_class = class_case.End

abbrev pub code_row : Mark → Row
code_row m = record {
  first = (row m).byte₁;
  second = (row m).byte₂;
  body = body_length m;
  size = size m;
  timetable = (row m).in_kind₁;
  tables = (row m).in_kind₂;
  rank = (row m).rank;
  class = code_class (row m).class;
  once = (row m).once;
}

-- does a whole record with a mark stand at a place
unfoldable pub stands_at : List ℕ → ℕ → Mark → Bool
stands_at bytes at m =
    both (leb (size m) (length (drop at bytes)))
    (both (eqb (get_or (drop at bytes) 0 0) (row m).byte₁) (eqb (get_or (drop at bytes) 1 0) (row m).byte₂))
