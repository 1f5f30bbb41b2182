-- What whoever reads a report can rely on, from the contract of `turn`: one text; the report of the whole input however it comes in pieces, and its front
-- where a read fails; and P2's report is the document's. Assumes nothing.
use mathlib.Core.Path.{◌≡◌, refl, sym, ◌∙◌}
use mathlib.Core.Bool.{Bool, true}
use mathlib.Core.List.{List, [], ◌∷◌, ◌++◌}
use Prim.Native.Nat.{ℕ, suc, ◌+◌, ◌≤◌}
use native.Mathlib.Omega.{arith}
use lib.ListN.{length}
use Rattle.rules.specs.Tasks.{hyperperiod}
use Rattle.rules.specs.Framing.{frame_records}
use Rattle.rules.specs.Ticks.{ticks_that}
use Rattle.rules.specs.Lateness.{worst_lateness}
use Rattle.rules.specs.Intervals.{due_at, is_deadline, work_due, first_release, last_deadline, begins, ending, up_to, intervals, spare}
use Rattle.rules.specs.Axis.{figures_of, front}
use Rattle.rules.specs.Worked.{P2_bytes}
use Rattle.rules.proofs.Cases.{by_le}
use Rattle.text.specs.Text.{decimal, refused_text}
use Rattle.reporting.specs.declared.TurnAnswer.{TurnAnswer}
use Rattle.reporting.specs.Report.{Turn, turn, report, joined, drive}
use Rattle.reporting.specs.Turns.{room, Leaves, Turned, written}
use Rattle.reporting.proofs.Cuts.{drive_is, written_front}

-- two results that meet the contract of `turn` are equal
one_leaving : {t : Turn} {old : List ℕ} {r q : TurnAnswer} {out other : List ℕ} → Leaves t old r out → Leaves t old q other → (r ≡ q) × (out ≡ other)
one_leaving a b = (a.answer ∙ sym b.answer, a.output ∙ sym b.output)

pub one_turn : {held : List ℕ} {more : Bool} {images : ℕ} {old : List ℕ} {r q : TurnAnswer} {out other : List ℕ} →
    Turned held more images old r out → Turned held more images old q other → (r ≡ q) × (out ≡ other)
one_turn {old = old} a b =
    by_le room (length old) (λ l. one_leaving (a.turns l) (b.turns l))
    (λ l. ((a.short l).0 ∙ sym (b.short l).0, (a.short l).1 ∙ sym (b.short l).1))

-- however an input comes in pieces, the turns over them write the report of the whole; one turn for each byte, one for each piece and two for the end are
-- enough
pub any_cut : (pieces : List (List ℕ)) (turns : ℕ) → length (joined pieces) + length pieces + 2 ≤ turns → drive turns [] pieces true 0 ≡ report (joined pieces)
unfolding report
any_cut pieces turns l = drive_is turns (suc (length (joined pieces))) 0 [] pieces (omega arith) (omega arith)

-- what is written before a read that fails is the front of the report of whatever the input would have been
pub front_written : (pieces : List (List ℕ)) (turns : ℕ) (behind : List ℕ) →
    (rest : List ℕ) × (report (joined pieces ++ behind) ≡ written turns [] pieces 0 ++ rest)
unfolding report
front_written pieces turns behind = written_front turns (suc (length (joined pieces ++ behind))) behind 0 [] pieces (omega arith)

-- no bytes at all give 1: "refused 1 0 0"
pub no_bytes : report [] ≡ (0x72 ∷ 0x65 ∷ 0x66 ∷ 0x75 ∷ 0x73 ∷ 0x65 ∷ 0x64 ∷ 0x20 ∷ 0x31 ∷ 0x20 ∷ 0x30 ∷ 0x20 ∷ 0x30 ∷ 0x0A ∷ [])
unfolding report turn refused_text decimal
no_bytes = refl

-- the figures of document 02's example: 14, 2 and 4 ticks, lateness 0, -1 and -13, capacities 4, 2, 0 and -4
pub p2_report : report P2_bytes
    ≡ (0x31 ∷ 0x34 ∷ 0x0A ∷ 0x32 ∷ 0x0A ∷ 0x34 ∷ 0x0A
    ∷ 0x30 ∷ 0x0A ∷ 0x2D ∷ 0x31 ∷ 0x0A ∷ 0x2D ∷ 0x31 ∷ 0x33 ∷ 0x0A
    ∷ 0x34 ∷ 0x0A ∷ 0x32 ∷ 0x0A ∷ 0x30 ∷ 0x0A ∷ 0x2D ∷ 0x34 ∷ 0x0A
    ∷ [])
unfolding report turn decimal front frame_records hyperperiod figures_of ticks_that worst_lateness spare intervals up_to ending begins last_deadline
    first_release work_due is_deadline due_at
p2_report = refl
