-- Listing the image of a valid timetable, entry by entry: what is kept from one to the next, and what is there at the end. Assumes nothing.
use mathlib.Core.Path.{◌≡◌, refl, sym, ◌∙◌, ap, ap₂, subst}
use mathlib.Core.List.{List, [], ◌∷◌, ◌++◌}
use Prim.Native.Nat.{ℕ, suc, ◌+◌, ◌-◌, ◌*◌, ◌/◌, ◌≤◌, ◌<◌}
use native.Mathlib.Numerals.{add-one}
use native.Mathlib.Omega.{arith}
use Rattle.std.specs.Borrow.{MutBor}
use lib.ListN.{length, get_or, take, set, replicate, length-append, length-set, get_or-replicate}
use lib.Seq.{take-suc, get_or-set_same, get_or-set_other}
use Rattle.rules.specs.declared.Task.{Task}
use Rattle.rules.specs.declared.TaskSet.{TaskSet}
use Rattle.rules.specs.declared.Entry.{Entry}
use Rattle.rules.specs.Tasks.{Set, limits}
use Rattle.rules.specs.Timetable.{entry_at, count, job_at, end_at}
use Rattle.rules.specs.Marks.{TS, SL, size, body_length, head_length_of}
use Rattle.rules.specs.Promised.{TimetableImage}
use Rattle.rules.specs.Dispatcher.{zero_task}
use Rattle.rules.proofs.Cases.{by_eq}
use Rattle.rules.proofs.Positions.{count_more, count_same}
use Rattle.images.specs.Bodies.{part_of, head_of, entry_of}
use Rattle.framing.specs.SetRead.{set_read}
use Rattle.text.specs.declared.Page.{Page}
use Rattle.text.specs.Pages.{Opened, Fits, Puts}
use Rattle.text.proofs.TextPuts.{both_put, none_put, page_front}
use Rattle.lines.specs.Text.{line, entry_line, entry_lines, ok_line, listing_of}
use Rattle.lines.specs.Lists.{CanList, Lists}
use Rattle.lines.proofs.TextLengths.{lines_within, job_low, end_low}
use Rattle.lines.proofs.Standing.{image_long, head_stands, task_stands, entry_stands, one_image}

-- what TS tells of an image that can be listed is its number of tasks, and they stand behind it
module _ {bytes old : List ℕ} (can : CanList bytes old) where
  pub head_inside : size TS ≤ length bytes
  head_inside = omega (arith, image_long can.image)

  module _ (n : ℕ) (told : n ≡ (head_of (part_of bytes 2 (body_length TS))).n) where
    pub tasks_told : n ≡ length can.set.tasks
    tasks_told = told ∙ head_stands can.image

    pub set_inside : (n ≤ limits.tasks) × (head_length_of n + 6 ≤ length bytes)
    set_inside = (omega (arith, tasks_told, can.image.good.few_tasks), omega (arith, tasks_told, image_long can.image))

    -- the entries stand behind them, up to EN
    pub all_starts : (length bytes - 6 - head_length_of n) / size SL ≡ length can.entries
    all_starts = omega (arith, tasks_told, image_long can.image)

-- so many starts listed, of so many, whose first stands at a byte offset: their lines are put, and the jobs of each task are counted
pub record ListedSoFar (bytes : List ℕ) (s : TaskSet) (first all : ℕ) (old : Page) (jobs : List ℕ) (starts : ℕ) (p : Page) : Type 0 where
  pub can : CanList bytes old.out.now
  pub set_is : s ≡ set_read (length can.set.tasks) bytes
  pub here : first ≡ head_length_of (length can.set.tasks)
  pub many : all ≡ length can.entries
  pub front : old.at ≡ 0
  pub slots : length jobs ≡ limits.tasks
  pub counted : (i : ℕ) → i < limits.tasks → get_or jobs i 0 ≡ count i (take starts can.entries)
  pub puts : Puts (entry_lines can.set can.entries starts) old p

-- before the first entry
pub listed_none : {bytes : List ℕ} {out : MutBor (List ℕ)} (can : CanList bytes out.now) {n : ℕ} → n ≡ (head_of (part_of bytes 2 (body_length TS))).n →
    {s : TaskSet} → s ≡ set_read n bytes → {first : ℕ} → first ≡ head_length_of n → {old : Page} → Opened out old →
    ListedSoFar bytes s first ((length bytes - 6 - first) / size SL) old (replicate 16 0) 0 old
listed_none {bytes} can {n} told read at {old} opened =
    let tasks = tasks_told can n told in
    record {
      can = record { set = can.set; entries = can.entries; image = can.image; room = omega (arith, can.room, ap length opened.kept) };
      set_is = read ∙ rw tasks;
      here = at ∙ rw tasks;
      many = rw at (all_starts can n told);
      front = opened.front;
      slots = refl;
      counted = λ i l. get_or-replicate 16 i 0 0 l;
      puts = none_put old (omega (arith, opened.front));
    }

module _ {bytes : List ℕ} {s : TaskSet} {first all : ℕ} {old : Page} {jobs : List ℕ} {starts : ℕ} {p : Page}
    (w : ListedSoFar bytes s first all old jobs starts p) where
  abbrev ts : Set
  ts = w.can.set

  abbrev τ : List Entry
  τ = w.can.entries

  abbrev timetable : TimetableImage bytes ts τ
  timetable = w.can.image

  -- there is room for the lines of so many starts, and the last line
  lines_room : (j : ℕ) → j ≤ length τ → Fits (entry_lines ts τ j) old
  unfolding listing_of
  lines_room j l =
      omega (
        arith,
        w.front,
        w.can.room,
        lines_within ts τ j (length τ) l,
        length-append (entry_lines ts τ (length τ)) (ok_line (length τ)),
      )

  -- an entry is left
  module _ (less : starts < all) where
    more : starts < length τ
    more = omega (arith, w.many)

    -- it stands there whole
    pub entry_inside : first + starts * size SL + size SL ≤ length bytes
    entry_inside = omega (arith, image_long timetable, w.here, more)

    -- what is read there
    module _ (x : Entry) (is : x ≡ entry_of (part_of bytes (first + starts * size SL + 2) (body_length SL))) where
      -- is the entry
      is_entry : x ≡ entry_at τ starts
      is_entry = is ∙ entry_stands timetable starts (first + starts * size SL) more (omega (arith, w.here))

      -- its task has a slot
      a_task : x.task < length ts.tasks
      a_task = rw is_entry (timetable.valid.tasks_below_n starts more)

      pub a_slot : x.task < limits.tasks
      a_slot = omega (arith, a_task, timetable.good.few_tasks)

      -- with the task, and its next job number
      its_end : x.start + (get_or s.tasks x.task zero_task).time ≡ end_at ts τ starts
      its_end =
          ap (λ (set : TaskSet). x.start + (get_or set.tasks x.task zero_task).time) w.set_is
          ∙ ap (λ (t : Task). x.start + t.time) (task_stands timetable x.task zero_task a_task)
          ∙ rw is_entry

      its_job : get_or jobs x.task 0 ≡ job_at τ starts
      its_job = w.counted x.task a_slot ∙ rw is_entry

      -- both of which are small
      pub end_fits : x.start + (get_or s.tasks x.task zero_task).time ≤ limits.ticks
      end_fits = omega (arith, its_end, end_low timetable.good timetable.valid starts more)

      pub job_fits : get_or jobs x.task 0 < limits.jobs
      job_fits = omega (arith, its_job, job_low timetable.good timetable.valid starts more)

      -- its line
      abbrev its_line : List ℕ
      its_line = line x.task (get_or jobs x.task 0) x.start (x.start + (get_or s.tasks x.task zero_task).time)

      line_is : its_line ≡ entry_line ts τ starts
      line_is = rw (its_end, its_job, is_entry)

      -- has room
      pub line_fits : Fits its_line p
      line_fits =
          omega (arith, ap length line_is, lines_room (suc starts) more, length-append (entry_lines ts τ starts) (entry_line ts τ starts))

      -- the entries up to it are one more
      one_more : take (starts + 1) τ ≡ take starts τ ++ (x ∷ [])
      one_more = rw (add-one starts) (take-suc τ starts (record { task = 0; start = 0 }) more ∙ rw is_entry)

      -- and with it one start more is listed
      pub listed_more : {q : Page} → Puts its_line p q → ListedSoFar bytes s first all old (set jobs x.task (get_or jobs x.task 0 + 1)) (starts + 1) q
      listed_more b = record {
        can = w.can;
        set_is = w.set_is;
        here = w.here;
        many = w.many;
        front = w.front;
        slots = length-set jobs x.task (get_or jobs x.task 0 + 1) ∙ w.slots;
        counted = λ i l. rw one_more
            (by_eq i x.task
            (λ q. rw q (get_or-set_same jobs x.task (get_or jobs x.task 0 + 1) 0 (omega (arith, w.slots, a_slot))
            ∙ ap (λ (k : ℕ). k + 1) (w.counted x.task a_slot) ∙ rw add-one (sym (count_more x (take starts τ)))))
            (λ n. get_or-set_other jobs x.task i (get_or jobs x.task 0 + 1) 0 n ∙ w.counted i l ∙ sym (count_same i x (take starts τ) n)));
        puts = rw add-one (both_put (lines_room (suc starts) more) w.puts (rw line_is at b));
      }

  -- none is left
  module _ (none : all ≤ starts) (most : starts ≤ all) where
    done : starts ≡ length τ
    done = omega (arith, w.many)

    -- the last line has room
    all_room : Fits (entry_lines ts τ starts ++ ok_line starts) old
    unfolding listing_of
    all_room = subst (λ (k : ℕ). old.at + length (entry_lines ts τ k ++ ok_line k) ≤ length old.out.now) (sym done) (omega (arith, w.front, w.can.room))

    pub ok_fits : Fits (ok_line all) p
    ok_fits = let same : all ≡ starts = omega arith in rw same (omega (arith, all_room, length-append (entry_lines ts τ starts) (ok_line starts)))

    -- what is then put is the listing of the one timetable whose image it is
    whole_listing : (us : Set) (σ : List Entry) → TimetableImage bytes us σ → entry_lines ts τ starts ++ ok_line starts ≡ listing_of us σ
    unfolding listing_of
    whole_listing us σ u =
        let same = one_image timetable u in
        ap (λ (k : ℕ). entry_lines ts τ k ++ ok_line k) done ∙ ap₂ listing_of same.0 same.1

    -- it is at the front
    pub listed_all : {out : MutBor (List ℕ)} {q : Page} → Opened out old → Puts (ok_line all) p q → Lists bytes out.now q.at q.out.now
    unfolding Lists
    listed_all opened b us σ u =
        let same : all ≡ starts = omega arith in
        let room = ap length opened.kept in
        rw (whole_listing us σ u) at (page_front opened (omega (arith, all_room, w.front)) (both_put all_room w.puts (rw same at b)))
