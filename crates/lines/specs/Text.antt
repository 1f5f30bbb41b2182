-- The text that the program writes: document 01, "A set to work by hand". Assumes nothing.
use Rattle.std.specs.Prelude.{List, [], ◌∷◌, ◌++◌, ℕ, zero, suc, leb, length}
use Rattle.rules.specs.declared.Entry.{Entry}
use Rattle.rules.specs.Tasks.{Set}
use Rattle.rules.specs.Refusals.{Judged, gives, refuses}
use Rattle.rules.specs.Timetable.{pick, entry_at, job_at, end_at}
use Rattle.rules.specs.Located.{located}
use Rattle.rules.specs.Operations.{Timed, rebuilt}
use Rattle.text.specs.Text.{space, line_end, number_then, refused_text, longest_input, too_long}

-- a line of four numbers: task, job, start, end
unfoldable pub line : ℕ → ℕ → ℕ → ℕ → List ℕ
line task job start end = number_then task space ++ (number_then job space ++ (number_then start space ++ number_then end line_end))

-- the line of entry j of a timetable
abbrev pub entry_line : Set → List Entry → ℕ → List ℕ
entry_line ts τ j = line (entry_at τ j).task (job_at τ j) (entry_at τ j).start (end_at ts τ j)

-- the lines of the first so many entries
abbrev pub entry_lines : Set → List Entry → ℕ → List ℕ
entry_lines ts τ zero = []
entry_lines ts τ (suc j) = entry_lines ts τ j ++ entry_line ts τ j

-- the word before the number of starts, with a space behind it: "ok "
abbrev pub ok_word : List ℕ
ok_word = 0x6F ∷ 0x6B ∷ space ∷ []

-- the last line: "ok " and the number of starts
unfoldable pub ok_line : ℕ → List ℕ
ok_line starts = ok_word ++ number_then starts line_end

-- the listing of a timetable: a line for each start, then the last line
unfoldable pub listing_of : Set → List Entry → List ℕ
listing_of ts τ = entry_lines ts τ (length τ) ++ ok_line (length τ)

-- what judging an image came to, as text
abbrev pub text_of : List ℕ → Judged Timed → List ℕ
text_of bytes (gives i) = listing_of i.set i.entries
text_of bytes (refuses r) = refused_text (located bytes r)

-- the listing of any bytes as a table image: the timetable that is rebuilt, or the refusal
unfoldable pub listing : List ℕ → List ℕ
listing bytes = text_of bytes (rebuilt bytes)

-- what the program writes for its whole input: the listing, or the refusal of an input that is too long
unfoldable pub program_text : List ℕ → List ℕ
program_text input = pick (leb (length input) longest_input) (listing input) (refused_text too_long)
