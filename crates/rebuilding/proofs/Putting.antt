-- Putting the entries of the rebuilt timetable: an accepted image may be replayed, its cycle is never stuck, its starts are the entries of the
-- timetable behind its tables, and put one behind the other they are one put of all their bytes. Assumes nothing.
use mathlib.Core.Path.{◌≡◌, sym, ◌∙◌, ap}
use mathlib.Core.List.{List, [], ◌∷◌, append-nil}
use Prim.Native.Nat.{ℕ, ◌+◌, ◌*◌, ◌-◌, ◌≤◌}
use native.Mathlib.Omega.{arith}
use native.Mathlib.Nat.{zero-add}
use lib.ListN.{length, drop, length-append, length-drop, drop_of_length-le}
use lib.Seq.{take_all, drop-drop, length-take-le}
use borrow.Rule.Slice.PartMut.{mid_of, post_of, put_mid}
use Rattle.fields.specs.Number.{Bytes}
use Rattle.rules.specs.declared.Entry.{Entry}
use Rattle.rules.specs.declared.Offsets.{Offsets}
use Rattle.rules.specs.Tasks.{Set}
use Rattle.rules.specs.Marks.{SL, size, head_length_of}
use Rattle.rules.specs.Image.{written, record_of, of_entry}
use Rattle.rules.proofs.Cases.{clash, gives_in}
use Rattle.rules.proofs.Framed.{written_length}
use Rattle.rules.proofs.OffsetReplay.{replay_done}
use Rattle.rules.proofs.AcceptedTables.{no_faults, replayed}
use Rattle.sets.specs.declared.Kept.{Kept}
use Rattle.sets.specs.Kept.{tasks_in, Keeps}
use Rattle.replay.specs.Runs.{entries_from, CanReplay, cycle_of}
use Rattle.replay.proofs.Running.{by_answer}
use Rattle.replay.proofs.Cycles.{cycle_stand, cycle_stuck, cycle_done}
use Rattle.writing.specs.Writing.{put_at}
use Rattle.writing.proofs.Puts.{put_fits, put_none, put_length, put_next}
use Rattle.rebuilding.specs.Rebuilt.{TimetableBehind, entries_bytes, entries_put, CanPut}
use Rattle.rebuilding.proofs.Rebuilding.{as_many_entries, jobs_kept, entries_length}

-- entries put one behind the other, where there is room for all, are one put of all their bytes
puts_all : (τ : List Entry) (old : List ℕ) (at : ℕ) → at + length τ * size SL ≤ length old → entries_from old at τ ≡ put_at old at (entries_bytes τ)
unfolding entries_from
puts_all [] old at room = sym (put_none old at (omega arith))
puts_all (e ∷ τ) old at room =
    let bytes : List ℕ = written (record_of SL (of_entry e)) in
    let long : length bytes ≡ size SL = written_length SL (of_entry e) in
    puts_all τ (put_at old at bytes) (at + size SL) (omega (arith, put_length old at bytes))
    ∙ ap (λ (k : ℕ). put_at (put_at old at bytes) (at + k) (entries_bytes τ)) (sym long)
    ∙ put_next old at bytes (entries_bytes τ) (omega (arith, long, length-append bytes (entries_bytes τ), entries_length τ))

-- bytes put at the front of the part from a place on, which is lent and comes back, are put at that place
puts_behind : (old : List ℕ) (at : ℕ) (bytes : List ℕ) → at + length bytes ≤ length old →
    let rest = length old - at in
    put_mid at rest old (put_at (mid_of at rest old) 0 bytes) ≡ put_at old at bytes
puts_behind old at bytes room =
    let rest : ℕ = length old - at in
    let long = length-drop at old in
    let part : mid_of at rest old ≡ drop at old = take_all rest (drop at old) (omega (arith, long)) in
    let none : post_of at rest old ≡ [] = drop_of_length-le (drop at old) {i = rest} (omega (arith, long)) in
    rw (part, none, put_fits (drop at old) 0 bytes (omega (arith, long)), zero-add, drop-drop, append-nil) (sym (put_fits old at bytes room))

-- an accepted image, and what is kept of its set
module _ {bytes : List ℕ} {ts : Set} {kept : Kept} {first : Offsets} {τ : List Entry} (b : TimetableBehind bytes ts first τ) (keeps : Keeps ts kept) where
  -- it may be replayed
  pub can_replay : CanReplay ts bytes kept first
  can_replay =
      let faultless = no_faults ts b.tables τ b.judged in
      record { tables = b.tables; read = b.read; good = faultless.0; records_good = faultless.1; keeps = keeps; first_is = b.offsets }

  module _ (are-bytes : Bytes bytes) where
    -- its cycle is never stuck, and its starts are the entries of the timetable
    starts_are : (cycle_of ts bytes kept first).entries ≡ τ
    unfolding can_replay
    starts_are =
        by_answer (cycle_of ts bytes kept first).last
        (λ f e.
        let done = cycle_done are-bytes can_replay f e in
        gives_in (cycle_of ts bytes kept first).entries τ
        (sym (replay_done (cycle_stand are-bytes can_replay) can_replay.good done.replays done.all)
        ∙ replayed ts b.tables τ b.judged))
        (λ number e. let no = sym b.judged ∙ cycle_stuck are-bytes can_replay number e in clash (cc))

    -- put behind the tasks of an output with room they are the bytes of all entries of the timetable there
    pub all_put : {us : Set} {old out : List ℕ} {at : ℕ} → CanPut us bytes kept first old → at ≡ head_length_of (tasks_in kept) →
        out ≡ entries_from (mid_of at (length old - at) old) 0 (cycle_of ts bytes kept first).entries →
        put_mid at (length old - at) old out ≡ entries_put old (tasks_in kept) τ
    all_put {us} {old} {out} {at} can at-is out-is =
        let jobs = as_many_entries bytes ts first τ b ∙ sym (jobs_kept bytes ts first τ b keeps) in
        let others = as_many_entries bytes us first can.entries can.behind ∙ sym (jobs_kept bytes us first can.entries can.behind can.keeps) in
        let rest : ℕ = length old - at in
        let room : at + length τ * size SL ≤ length old = omega (arith, can.room, jobs, others) in
        ap (put_mid at rest old)
        (out-is
        ∙ ap (entries_from (mid_of at rest old) 0) starts_are
        ∙ puts_all τ (mid_of at rest old) 0 (omega (arith, length-take-le rest (drop at old) (omega (arith, length-drop at old)))))
        ∙ puts_behind old at (entries_bytes τ) (omega (arith, entries_length τ))
        ∙ ap (λ (k : ℕ). put_at old k (entries_bytes τ)) at-is
