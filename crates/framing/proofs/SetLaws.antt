-- The set of an image: tasks read one after the other fill the slots in turn, and are the tasks that the rule book reads; and where
-- a refusal of the set stands. Assumes nothing.
use mathlib.Core.Path.{◌≡◌, refl, sym, ◌∙◌, ap, ap₂}
use mathlib.Core.List.{List, [], ◌∷◌, ◌++◌, map}
use mathlib.Core.Option.{some}
use Prim.Native.Nat.{ℕ, zero, suc, ◌+◌, ◌-◌, ◌*◌, ◌≤◌, ◌<◌}
use native.Mathlib.Nat.{add-zero}
use native.Mathlib.Numerals.{add-one}
use native.Mathlib.Omega.{arith}
use lib.ListN.{length, set, take, drop, replicate, length-append, length-replicate}
use lib.Seq.{set_at, append_snoc, drop-drop, take_at}
use Rattle.rules.specs.declared.Task.{Task}
use Rattle.rules.specs.declared.Layout.{Layout}
use Rattle.rules.specs.declared.Refusal.{Refusal}
use Rattle.rules.specs.Tasks.{Set, limits, set_fault}
use Rattle.rules.specs.Marks.{TS, TK, size, body_length, head_length_of}
use Rattle.rules.specs.Image.{Record, image, to_task, head_records}
use Rattle.rules.specs.Framing.{read, set_in}
use Rattle.rules.specs.Located.{names_record, offset_of, located}
use Rattle.rules.specs.Dispatcher.{zero_task}
use Rattle.rules.proofs.Cases.{by_bool, by_nat}
use Rattle.rules.proofs.RecordOffsets.{tasks_begin}
use Rattle.rules.proofs.RefusalPlaces.{set_place}
use Rattle.images.specs.Bodies.{part_of, task_of}
use Rattle.framing.specs.SetRead.{tasks_at, set_read, set_located}
use Rattle.images.proofs.BodyLaws.{task_body_is}

module _ (bytes : List ℕ) where
  -- the task of the TK record at a place
  abbrev pub task_at : ℕ → Task
  task_at at = task_of (part_of bytes (at + 2) (body_length TK))

  -- as many tasks are read as are asked for
  tasks_length : (at many : ℕ) → length (tasks_at bytes at many) ≡ many
  unfolding tasks_at
  tasks_length at zero = refl
  tasks_length at (suc many) = ap suc (tasks_length (at + size TK) many)

  -- one task more is read behind the others
  tasks_more : (at many : ℕ) → tasks_at bytes at (suc many) ≡ tasks_at bytes at many ++ (task_at (at + many * size TK) ∷ [])
  unfolding tasks_at
  tasks_more at zero = rw add-zero
  tasks_more at (suc many) =
      let e : at + size TK + many * size TK ≡ at + suc many * size TK = omega arith in
      ap (λ (ts : List Task). task_at at ∷ ts) (tasks_more (at + size TK) many ∙ rw e)

  -- the slots when so many tasks have been read
  abbrev pub slots : ℕ → List Task
  slots i = tasks_at bytes (size TS) i ++ replicate (16 - i) zero_task

  -- before the first task, and after one more
  pub slots_empty : replicate 16 zero_task ≡ slots 0
  unfolding tasks_at
  slots_empty = refl

  pub slots_more : (at i : ℕ) → i < 16 → at ≡ size TS + i * size TK → set (slots i) i (task_at at) ≡ slots (i + 1)
  slots_more at i h e =
      let left : 16 - i ≡ suc (16 - suc i) = omega arith in
      let others = replicate (16 - suc i) zero_task in
      rw (left, add-one, e)
      (set_at (tasks_at bytes (size TS) i) zero_task others (task_at (size TS + i * size TK)) i (tasks_length (size TS) i)
      ∙ sym (append_snoc (tasks_at bytes (size TS) i) (task_at (size TS + i * size TK)) others)
      ∙ ap (λ (ts : List Task). ts ++ others) (sym (tasks_more (size TS) i)))

  -- what is answered, when all tasks have been read
  pub set_filled : (n i : ℕ) (ts : List Task) → i ≡ n → ts ≡ slots i → record { n = n; tasks = ts } ≡ set_read n bytes
  unfolding set_read
  set_filled n i ts e f = rw (f, e)

  -- tasks that stand whole are those that the rule book reads
  pub tasks_read : (at many : ℕ) → at + many * size TK ≤ length bytes → tasks_at bytes at many ≡ map to_task (read TK many (drop at bytes))
  unfolding tasks_at
  tasks_read at zero h = refl
  tasks_read at (suc many) h =
      ap₂ ◌∷◌ (task_body_is bytes at (omega arith)) (rw (drop-drop (size TK) at bytes) (tasks_read (at + size TK) many (omega arith)))

  -- and the set read of an image with a layout holds them
  pub set_read_is : (l : Layout) → head_length_of l.tasks ≤ length bytes →
      set_read l.tasks bytes ≡ record { n = l.tasks; tasks = (set_in l bytes).tasks ++ replicate (16 - l.tasks) zero_task }
  unfolding set_read
  set_read_is l h = rw (tasks_read (size TS) l.tasks h)

  -- a set that is read has its tasks in its first slots, of which there are 16
  pub set_tasks_many : (n : ℕ) → (set_read n bytes).n ≡ n
  unfolding set_read
  set_tasks_many n = refl

  pub set_slots_many : (n : ℕ) → n ≤ limits.tasks → length (set_read n bytes).tasks ≡ limits.tasks
  unfolding set_read
  set_slots_many n few = simp (length-append, length-replicate, tasks_length) (omega arith)

  pub set_tasks_are : (n : ℕ) → head_length_of n ≤ length bytes → take n (set_read n bytes).tasks ≡ map to_task (read TK n (drop (size TS) bytes))
  unfolding set_read
  set_tasks_are n h =
      take_at (tasks_at bytes (size TS) n) (replicate (limits.tasks - n) zero_task) n (tasks_length (size TS) n) ∙ tasks_read (size TS) n h

-- a set's refusal is located so in an image that begins with the set
pub set_located_there : (kind : ℕ) (bytes : List ℕ) (ts : Set) (qs : List Record) → bytes ≡ image (head_records kind ts ++ qs) → (r : Refusal) →
    set_fault ts ≡ some r → set_located r ≡ located bytes r
set_located_there kind bytes ts qs is r e =
    let p = set_place ts r e in
    by_bool (names_record r.number)
    (λ named. by_nat r.place (λ z. rw (named, z))
    (λ i z.
    let next : 1 + i ≡ suc i = omega arith in
    let there : size TS + i * size TK ≡ offset_of (suc i) bytes = sym (rw is (rw next at (tasks_begin kind ts qs i (omega arith)))) in
    rw (named, z) (λ k. record { number = r.number; place = suc i; offset = there k })))
    (λ none_named. let z = p.1 none_named in rw (none_named, z))
