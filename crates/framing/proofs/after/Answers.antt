-- `framing::after` meets its contract: the class that is read is that of the mark, and its own function answers. Assumes nothing.
use mathlib.Core.Path.{◌≡◌, sym, ◌∙◌, ap}
use Rattle.rules.specs.Marks.{Mark, Class, head_class, task_class, option_class, listed_class, inversion_class, end_class, row}
use Rattle.rules.proofs.Marked.{in_class}
use Rattle.images.specs.declared.Row.{Row}
use Rattle.images.specs.Table.{code_class, code_row}
use Rattle.images.proofs.TableLaws.{class_told}
use Rattle.framing.proofs.RecordLaws.{whole_as, of_mark, one_task, one_option, one_listed, one_inversion}
use Rattle.framing.proofs.after.Goals as goal

-- the class of a mark, by the row that was read
class-is : (m : Mark) {r : Row} (d : Class) → r ≡ code_row m → r.class ≡ code_class d → (row m).class ≡ d
class-is m d read e = class_told (row m).class d (sym (ap (λ (q : Row). q.class) read) ∙ e)

pub after_head-requires : goal.after_head-requires
after_head-requires c = whole_as (in_class _ head_class (class-is _ head_class c.row.ensures c.in-Head.is)) c.requires

pub after_end-requires : goal.after_end-requires
after_end-requires c = whole_as (in_class _ end_class (class-is _ end_class c.row.ensures c.in-End.is)) c.requires

pub returns-in-Head : goal.returns-in-Head
returns-in-Head c = of_mark (in_class _ head_class (class-is _ head_class c.row.ensures c.in-Head.is)) _ c.after_head.ensures

pub returns-in-Task : goal.returns-in-Task
returns-in-Task c = one_task c.after_task.ensures (in_class _ task_class (class-is _ task_class c.row.ensures c.in-Task.is))

pub returns-in-Option : goal.returns-in-Option
returns-in-Option c = one_option c.past.ensures (class-is _ option_class c.row.ensures c.in-Option.is)

pub returns-in-Listed : goal.returns-in-Listed
returns-in-Listed c = one_listed c.past-in-Listed.ensures (class-is _ listed_class c.row.ensures c.in-Listed.is)

pub returns-in-Inversion : goal.returns-in-Inversion
returns-in-Inversion c = one_inversion c.past-in-Inversion.ensures (class-is _ inversion_class c.row.ensures c.in-Inversion.is)

pub returns-in-End : goal.returns-in-End
returns-in-End c = of_mark (in_class _ end_class (class-is _ end_class c.row.ensures c.in-End.is)) _ (c.after_end.ensures _)
