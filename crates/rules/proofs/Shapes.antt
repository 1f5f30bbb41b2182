-- The order of records: those of a framed image are TS, TK records, the records listed first (SL or ID), PV records and EN. Timetable images and table
-- images are treated as one; records stand for their lists of values. Assumes nothing.
use mathlib.Core.Path.{◌≡◌, refl, sym, ◌∙◌, ap, ap₂, subst, subst₂}
use mathlib.Core.Logic.{◌⊎◌, inl, inr}
use mathlib.Core.Bool.{true}
use mathlib.Core.List.{List, [], ◌∷◌, ◌++◌}
use mathlib.Core.Option.{none}
use Prim.Native.Nat.{ℕ, zero, suc, ◌+◌, ◌*◌, ◌-◌, ◌≤◌, ◌<◌}
use native.Mathlib.Omega.{arith}
use lib.Dec.{leb, eqb}
use lib.ListN.{length}
use borrow.Author.Tests.{leb-true, eqb-true, le-leb, le-ltb, eq-eqb}
use Rattle.fields.specs.Body.{head₀, tail₀, Fit}
use Rattle.rules.specs.declared.Place.{Place}
use Rattle.rules.specs.declared.Layout.{Layout}
use Rattle.rules.specs.Refusals.{gives, unless}
use Rattle.rules.specs.Tasks.{few_enough, limits}
use Rattle.rules.specs.Priority.{slot}
use Rattle.rules.specs.Marks.{Mark, TS, TK, SL, ID, PV, EN, row, size}
use Rattle.rules.specs.Image.{Record, record_of, records, end_record, Each, countable}
use Rattle.rules.specs.Framing.{start_place, layout_at, in_kind, may_follow, allowed, head_fault, least_behind, tasks_due, after_head, after_task, after_later, goes_on, ends, after}
use Rattle.rules.proofs.Cases.{by_bool, differ, both_true, both_in, first_none, unless_none}
use Rattle.rules.proofs.Marked.{turn_of, due_turn, later_turn}
use Rattle.rules.proofs.FramingTurns.{one_listed, one_inversion, After, past_head, past_task, past_later, past_end, by_after}
use Rattle.rules.proofs.Framed.{Stands, Runs, last, more}

-- the two kinds of image, each with the mark of the records that are listed first after the tasks
pub data Kind : ℕ → Mark → Type 0 where
  of_timetable : Kind 1 SL
  of_tables : Kind 2 ID

-- all records of an image, from the values of its TK records, of those listed first and of its PV records
abbrev pub laid_out : ℕ → Mark → List (List ℕ) → List (List ℕ) → List (List ℕ) → List Record
laid_out kind m vs us ps =
    record_of TS (1 ∷ kind ∷ length vs ∷ [])
    ∷ (records TK vs ++ (records m us ++ (records PV ps ++ end_record (suc (length vs + (length us + length ps))))))

-- the layout of so many TK records, records listed first and PV records
abbrev pub layout_of : Mark → ℕ → ℕ → ℕ → Layout
layout_of m n a b =
    record { tasks = n; listed = a; inversions = b; ended = size TS + (n * size TK + (a * size m + (b * size PV + size EN))) }

-- values that an image of a kind can hold
pub record Holdable (kind : ℕ) (m : Mark) (vs us ps : List (List ℕ)) : Type 0 where
  pub some_tasks : 1 ≤ length vs
  pub few_tasks : length vs ≤ limits.tasks
  pub tasks_fit : Each (row TK).widths vs
  pub listed_fit : Each (row m).widths us
  pub inversions_fit : Each (row PV).widths ps
  pub inversions_of_kind : 1 ≤ length ps → in_kind kind (row PV) ≡ true
  pub count_fits : suc (length vs + (length us + length ps)) < countable

-- the values in so many slots
abbrev slots : ℕ → List ℕ → List ℕ
slots zero v = []
slots (suc many) v = head₀ v ∷ slots many (tail₀ v)

-- values that fit their fields are those in as many slots
pub all_slots : (ws v : List ℕ) → Fit ws v → v ≡ slots (length ws) v
all_slots [] [] h = refl
all_slots [] (x ∷ v) h = absurd h
all_slots (w ∷ ws) [] h = absurd h
all_slots (w ∷ ws) (x ∷ v) h = ap (λ (y : List ℕ). x ∷ y) (all_slots ws v h.1)

-- a mark that comes after the tasks is in its turn where none of a higher rank has stood
pub in_later_turn : (least rank : ℕ) → 2 ≤ least → least ≤ rank → may_follow least rank ≡ true
in_later_turn least rank h k = rw (le-ltb least 2 h, may_follow) (le-leb least rank k)

-- the records that framing goes on behind, each with the ranks that it can follow
data Follows (kind : ℕ) (m : Mark) (s : Place) : Mark → List ℕ → Place → Type 0 where
  head : {v : List ℕ} → s.rank ≡ 0 → head_fault kind s.index v ≡ none → Follows kind m s TS v (after_head TS s v)
  task : {v : List ℕ} → s.rank ≡ 1 → Follows kind m s TK v (after_task TK s)
  listed : {v : List ℕ} → 2 ≤ s.rank → s.rank ≤ 6 → Follows kind m s m v (after_later m s (suc s.listed) s.inversions)
  inversion : {v : List ℕ} → 2 ≤ s.rank → in_kind kind (row PV) ≡ true → Follows kind m s PV v (after_later PV s s.listed (suc s.inversions))

-- the records listed first have one rank, and as many may stand as do
ranked : {kind : ℕ} {m : Mark} → Kind kind m → ((row m).rank ≡ 6) × (least_behind (row m) ≡ 6)
ranked of_timetable = (refl, refl)
ranked of_tables = (refl, refl)

-- and one mark in each kind
listed_mark : {kind : ℕ} {m k : Mark} → Kind kind m → (k ≡ SL) ⊎ (k ≡ ID) → in_kind kind (row k) ≡ true → m ≡ k
listed_mark of_timetable (inl e) i = sym e
listed_mark of_timetable (inr e) i = differ (sym (rw e at i))
listed_mark of_tables (inl e) i = differ (sym (rw e at i))
listed_mark of_tables (inr e) i = sym e

-- framing goes on behind no other records
follows : {kind : ℕ} {m : Mark} → Kind kind m → {s : Place} {k : Mark} {v : List ℕ} {t : Place} → After kind s k v (goes_on t) → allowed kind s k ≡ true →
    Follows kind m s k v t
follows {kind} K {s = s} (past_head h) a = head (due_turn s.rank 0 (omega arith) (turn_of kind s TS a)) h
follows {kind} K {s = s} past_task a = task (due_turn s.rank 1 (omega arith) (turn_of kind s TK a))
follows {kind} {m} K {s = s} {k = k} {v = v} (past_later l e (one_listed o)) a =
    let same = listed_mark K o (both_true (in_kind kind (row k)) _ a).0 in
    let turn = later_turn s.rank (row k).rank l (turn_of kind s k a) in
    subst (λ (x : Mark). Follows kind m s x v (after_later x s (suc s.listed) s.inversions)) same
    (listed turn.0 (omega (arith, turn.1, (ranked K).0, ap (λ (x : Mark). (row x).rank) same)))
follows {kind} {m} K {s = s} {k = k} {v = v} (past_later l e (one_inversion o)) a =
    let turn = later_turn s.rank (row k).rank l (turn_of kind s k a) in
    subst (λ (x : Mark). Follows kind m s x v (after_later x s s.listed (suc s.inversions))) (sym o)
    (inversion turn.0 (rw o at (both_true (in_kind kind (row k)) _ a).0))

-- a layout and EN's number, counted from a place on which so many listed records and PV records follow
record Counted (l : Layout) (number : ℕ) (s : Place) (m : Mark) (a b : ℕ) : Type 0 where
  tasks_are : l.tasks ≡ s.tasks
  listed_are : l.listed ≡ s.listed + a
  inversions_are : l.inversions ≡ s.inversions + b
  ended_at : l.ended ≡ s.offset + (a * size m + (b * size PV + size EN))
  number_is : number ≡ s.index + (a + b)

-- the records behind the tasks
record Behind (kind : ℕ) (m : Mark) (s : Place) (rs : List Record) (l : Layout) : Type 0 where
  listed_values : List (List ℕ)
  inversion_values : List (List ℕ)
  number : ℕ
  is : rs ≡ records m listed_values ++ (records PV inversion_values ++ end_record number)
  counted : Counted l number s m (length listed_values) (length inversion_values)
  listed_fit : Each (row m).widths listed_values
  inversions_fit : Each (row PV).widths inversion_values
  inversions_of_kind : 1 ≤ length inversion_values → in_kind kind (row PV) ≡ true
  none_listed : 7 ≤ s.rank → listed_values ≡ []
  number_fits : number < countable

-- EN alone
behind_end : {kind : ℕ} {s : Place} {k : Mark} {v : List ℕ} {l : Layout} (m : Mark) → After kind s k v (ends (gives l)) → Fit (row k).widths v →
    Behind kind m s (record_of k v ∷ []) l
behind_end {s = s} {v = v} m (past_end e) f =
    let number : v ≡ s.index ∷ [] = all_slots (row EN).widths v f ∙ ap (λ (x : ℕ). x ∷ []) e in
    let fits : Fit (4 ∷ []) (s.index ∷ []) = subst (Fit (4 ∷ [])) number f in
    record {
      listed_values = [];
      inversion_values = [];
      number = s.index;
      is = ap (λ (x : List ℕ). record_of EN x ∷ []) number;
      counted = omega arith;
      listed_fit = tt;
      inversions_fit = tt;
      inversions_of_kind = λ h. absurd (omega arith);
      none_listed = λ h. refl;
      number_fits = fits.0;
    }

-- one more record before them
behind_more : {kind : ℕ} {m : Mark} {s t : Place} {k : Mark} {v : List ℕ} {rs : List Record} {l : Layout} → 2 ≤ s.rank → Follows kind m s k v t →
    Fit (row k).widths v → Behind kind m t rs l → Behind kind m s (record_of k v ∷ rs) l
behind_more late (head c h) f i = absurd (omega arith)
behind_more late (task c) f i = absurd (omega arith)
behind_more {m = m} {v = v} late (listed b c) f i =
    record {
      listed_values = v ∷ i.listed_values;
      inversion_values = i.inversion_values;
      number = i.number;
      is = ap (λ (x : List Record). record_of m v ∷ x) i.is;
      counted = omega (arith, i.counted);
      listed_fit = (f, i.listed_fit);
      inversions_fit = i.inversions_fit;
      inversions_of_kind = i.inversions_of_kind;
      none_listed = λ h. absurd (omega arith);
      number_fits = i.number_fits;
    }
behind_more {m = m} {v = v} late (inversion b c) f i =
    let none_left : i.listed_values ≡ [] = i.none_listed (omega arith) in
    let more-inversions = records PV i.inversion_values ++ end_record i.number in
    record {
      listed_values = [];
      inversion_values = v ∷ i.inversion_values;
      number = i.number;
      is = ap (λ (x : List Record). record_of PV v ∷ x) (i.is ∙ ap (λ (x : List (List ℕ)). records m x ++ more-inversions) none_left);
      counted = omega (arith, rw none_left at i.counted);
      listed_fit = tt;
      inversions_fit = (f, i.inversions_fit);
      inversions_of_kind = λ h. c;
      none_listed = λ h. refl;
      number_fits = i.number_fits;
    }

-- behind the tasks, records stay behind the tasks
late_after : {kind : ℕ} {m : Mark} {s t : Place} {k : Mark} {v : List ℕ} → Kind kind m → 2 ≤ s.rank → Follows kind m s k v t → 2 ≤ t.rank
late_after K late (head c h) = absurd (omega arith)
late_after K late (task c) = absurd (omega arith)
late_after K late (listed b c) = omega (arith, (ranked K).1)
late_after K late (inversion b c) = omega arith

-- what runs behind the tasks are records listed first, PV records and EN
behind : {kind : ℕ} {m : Mark} {s : Place} {rs : List Record} {l : Layout} → Kind kind m → Runs kind s rs l → 2 ≤ s.rank → Behind kind m s rs l
behind {kind} {m} K (last {s = s} {m = k} {v = v} o e) late = behind_end m (by_after kind s k v e) o.fits
behind {kind} K (more {s = s} {m = k} {v = v} o e w) late =
    let f = follows K (by_after kind s k v e) o.may in behind_more late f o.fits (behind K w (late_after K late f))

-- EN ends framing only behind the tasks
ends_late : {kind : ℕ} {s : Place} {k : Mark} {v : List ℕ} {l : Layout} → After kind s k v (ends (gives l)) → allowed kind s k ≡ true → 2 ≤ s.rank
ends_late {kind} {s} (past_end e) a = (later_turn s.rank 8 (omega arith) (turn_of kind s EN a)).0

-- one TK record, where some are due
record FirstTask (kind i o d n : ℕ) (rs : List Record) (l : Layout) : Type 0 where
  task_values : List ℕ
  rest : List Record
  is : rs ≡ record_of TK task_values ∷ rest
  fits : Fit (row TK).widths task_values
  run : Runs kind (tasks_due (suc i) (o + size TK) d n) rest l

-- the record that framing goes on behind is a TK
task_first : {kind i o d n : ℕ} {m : Mark} {t : Place} {k : Mark} {v : List ℕ} {rs : List Record} {l : Layout} →
    Follows kind m (tasks_due i o (suc d) n) k v t → Fit (row k).widths v → Runs kind t rs l → FirstTask kind i o d n (record_of k v ∷ rs) l
task_first (head c h) f w = absurd (omega arith)
task_first {kind} {i} {o} {d} {n} {v = v} {rs = rs} {l = l} (task c) f w =
    let one_less : suc d - 1 ≡ d = omega arith in
    record {
      task_values = v;
      rest = rs;
      is = refl;
      fits = f;
      run = subst (λ (x : ℕ). Runs kind (tasks_due (suc i) (o + size TK) x n) rs l) one_less w;
    }
task_first (listed b c) f w = absurd (omega arith)
task_first (inversion b c) f w = absurd (omega arith)

-- where TK records are due, one stands first
first_task : {kind i o d n : ℕ} {m : Mark} {rs : List Record} {l : Layout} → Kind kind m → Runs kind (tasks_due i o (suc d) n) rs l →
    FirstTask kind i o d n rs l
first_task {kind} K (last {s = s} {m = k} {v = v} o e) = absurd (omega (arith, ends_late (by_after kind s k v e) o.may))
first_task {kind} K (more {s = s} {m = k} {v = v} o e w) = task_first (follows K (by_after kind s k v e) o.may) o.fits w

-- TK records, as many as are due
record AllTasks (kind i o d n : ℕ) (rs : List Record) (l : Layout) : Type 0 where
  task_values : List (List ℕ)
  rest : List Record
  is : rs ≡ records TK task_values ++ rest
  many : length task_values ≡ d
  fit : Each (row TK).widths task_values
  run : Runs kind (tasks_due (i + d) (o + d * size TK) 0 n) rest l

-- as many TK records stand first as are due
all_tasks : {kind : ℕ} {m : Mark} → Kind kind m → (d i o n : ℕ) (rs : List Record) (l : Layout) → Runs kind (tasks_due i o d n) rs l →
    AllTasks kind i o d n rs l
all_tasks {kind} K zero i o n rs l w =
    let index : i ≡ i + 0 = omega arith in
    let offset : o ≡ o + 0 * size TK = omega arith in
    record {
      task_values = [];
      rest = rs;
      is = refl;
      many = refl;
      fit = tt;
      run = subst₂ (λ (x y : ℕ). Runs kind (tasks_due x y 0 n) rs l) index offset w;
    }
all_tasks {kind} K (suc d) i o n rs l w =
    let a = first_task K w in
    let t = all_tasks K d (suc i) (o + size TK) n a.rest l a.run in
    let index : suc i + d ≡ i + suc d = omega arith in
    let offset : o + size TK + d * size TK ≡ o + suc d * size TK = omega arith in
    record {
      task_values = a.task_values ∷ t.task_values;
      rest = t.rest;
      is = a.is ∙ ap (λ (x : List Record). record_of TK a.task_values ∷ x) t.is;
      many = ap suc t.many;
      fit = (a.fits, t.fit);
      run = subst₂ (λ (x y : ℕ). Runs kind (tasks_due x y 0 n) t.rest l) index offset t.run;
    }

-- a TS without fault has edition 1, the kind and an n from 1 to 16
head_values : (kind index : ℕ) (v : List ℕ) → head_fault kind index v ≡ none → Fit (row TS).widths v →
    (v ≡ 1 ∷ kind ∷ slot v 2 ∷ []) × (1 ≤ slot v 2) × (slot v 2 ≤ limits.tasks)
head_values kind index v h f =
    let a = first_none (unless (eqb (slot v 0) 1) 3 index) _ h in
    let b = first_none (unless (eqb (slot v 1) kind) 4 index) _ a.1 in
    let c = both_true (leb 1 (slot v 2)) (leb (slot v 2) limits.tasks) (unless_none (few_enough (slot v 2)) 5 index b.1) in
    let edition : slot v 0 ≡ 1 = eqb-true _ _ (unless_none _ 3 index a.0) in
    let its-kind : slot v 1 ≡ kind = eqb-true _ _ (unless_none _ 4 index b.0) in
    (all_slots (row TS).widths v f ∙ ap₂ (λ (x y : ℕ). x ∷ y ∷ slot v 2 ∷ []) edition its-kind, leb-true _ _ c.0, leb-true _ _ c.1)

-- TS, with n, before the tasks
record Begins (kind : ℕ) (rs : List Record) (l : Layout) : Type 0 where
  n : ℕ
  rest : List Record
  is : rs ≡ record_of TS (1 ∷ kind ∷ n ∷ []) ∷ rest
  some_tasks : 1 ≤ n
  few_tasks : n ≤ limits.tasks
  run : Runs kind (tasks_due 1 (size TS) n n) rest l

-- the record that framing goes on behind at the start is a TS
head_first : {kind : ℕ} {m : Mark} {t : Place} {k : Mark} {v : List ℕ} {rs : List Record} {l : Layout} → Follows kind m start_place k v t →
    Fit (row k).widths v → Runs kind t rs l → Begins kind (record_of k v ∷ rs) l
head_first {kind} {v = v} {rs = rs} (head c h) f w =
    let g = head_values kind 0 v h f in
    record { n = slot v 2; rest = rs; is = ap (λ (x : List ℕ). record_of TS x ∷ rs) g.0; some_tasks = g.1; few_tasks = g.2; run = w }
head_first (task c) f w = absurd (omega arith)
head_first (listed b c) f w = absurd (omega arith)
head_first (inversion b c) f w = absurd (omega arith)

-- TS stands first
begins : {kind : ℕ} {m : Mark} {rs : List Record} {l : Layout} → Kind kind m → Runs kind start_place rs l → Begins kind rs l
begins {kind} K (last {s = s} {m = k} {v = v} o e) = absurd (omega (arith, ends_late (by_after kind s k v e) o.may))
begins {kind} K (more {s = s} {m = k} {v = v} o e w) = head_first (follows K (by_after kind s k v e) o.may) o.fits w

-- records laid out from values that an image can hold, with their layout
pub record HasShape (kind : ℕ) (m : Mark) (rs : List Record) (l : Layout) : Type 0 where
  pub task_values : List (List ℕ)
  pub listed_values : List (List ℕ)
  pub inversion_values : List (List ℕ)
  pub is : rs ≡ laid_out kind m task_values listed_values inversion_values
  pub holdable : Holdable kind m task_values listed_values inversion_values
  pub layout : l ≡ layout_of m (length task_values) (length listed_values) (length inversion_values)

-- a layout is its four numbers
same_layout : (k l : Layout) → k.tasks ≡ l.tasks → k.listed ≡ l.listed → k.inversions ≡ l.inversions → k.ended ≡ l.ended → k ≡ l
same_layout k l a b c d = λ i. record { tasks = a i; listed = b i; inversions = c i; ended = d i }

-- records that run from the start to EN are laid out so
pub shaped : {kind : ℕ} {m : Mark} {rs : List Record} {l : Layout} → Kind kind m → Runs kind start_place rs l → HasShape kind m rs l
shaped {kind} {m} {rs} {l} K w =
    let b = begins K w in
    let t = all_tasks K b.n 1 (size TS) b.n b.rest l b.run in
    let r = behind K t.run (omega arith) in
    let c = r.counted in
    let vs = t.task_values in
    let us = r.listed_values in
    let ps = r.inversion_values in
    let n : b.n ≡ length vs = sym t.many in
    let number : r.number ≡ suc (length vs + (length us + length ps)) = omega (arith, c.number_is) in
    record {
      task_values = vs;
      listed_values = us;
      inversion_values = ps;
      is = b.is
          ∙ ap (λ (x : List Record). record_of TS (1 ∷ kind ∷ b.n ∷ []) ∷ x) (t.is ∙ ap (λ (x : List Record). records TK vs ++ x) r.is)
          ∙ ap₂ (λ (x y : ℕ). record_of TS (1 ∷ kind ∷ x ∷ []) ∷ (records TK vs ++ (records m us ++ (records PV ps ++ end_record y)))) n number;
      holdable = record {
        some_tasks = omega (arith, b.some_tasks);
        few_tasks = omega (arith, b.few_tasks);
        tasks_fit = t.fit;
        listed_fit = r.listed_fit;
        inversions_fit = r.inversions_fit;
        inversions_of_kind = r.inversions_of_kind;
        count_fits = omega (arith, r.number_fits);
      };
      layout = same_layout l (layout_of m (length vs) (length us) (length ps)) (c.tasks_are ∙ n) (omega (arith, c.listed_are))
          (omega (arith, c.inversions_are)) (omega (arith, c.ended_at));
    }

-- a mark that is in both kinds is in any
in-each-kind : (kind : ℕ) (m : Mark) → (row m).in_kind₁ ≡ true → (row m).in_kind₂ ≡ true → in_kind kind (row m) ≡ true
in-each-kind kind m p q = by_bool (eqb kind 1) (λ c. rw (c, in_kind) p) (λ c. rw (c, in_kind) q)

-- a mark that comes after the tasks may stand in its kind and in its turn
may_stand : (kind : ℕ) (s : Place) (m : Mark) → in_kind kind (row m) ≡ true → 2 ≤ s.rank → s.rank ≤ (row m).rank → allowed kind s m ≡ true
may_stand kind s m k h l = both_in _ _ k (in_later_turn s.rank (row m).rank h l)

-- the records listed first are in their kind
listed_in : {kind : ℕ} {m : Mark} → Kind kind m → in_kind kind (row m) ≡ true
listed_in of_timetable = refl
listed_in of_tables = refl

-- and framing goes on behind them
goes_listed : {kind : ℕ} {m : Mark} → Kind kind m → (s : Place) (v : List ℕ) →
    after kind s m v ≡ goes_on (after_later m s (suc s.listed) s.inversions)
goes_listed of_timetable s v = refl
goes_listed of_tables s v = refl

module _ {kind : ℕ} {m : Mark} (K : Kind kind m) (l : Layout) (number : ℕ) (fits : number < countable) where
  -- EN runs behind the tasks
  runs_end : (s : Place) → 2 ≤ s.rank → s.rank ≤ 8 → Counted l number s m 0 0 → Runs kind s (end_record number) l
  runs_end s h k c =
      let o : Stands kind s EN (number ∷ []) = record { may = may_stand kind s EN (in-each-kind kind EN refl refl) h k; fits = (fits, tt) } in
      let is-index : number ≡ s.index = omega (arith, c.number_is) in
      let layout : layout_at EN s ≡ l =
      same_layout (layout_at EN s) l (sym c.tasks_are) (omega (arith, c.listed_are)) (omega (arith, c.inversions_are)) (omega (arith, c.ended_at)) in
      let e : after kind s EN (number ∷ []) ≡ ends (gives l) = rw (eq-eqb number s.index is-index) (ap (λ (x : Layout). ends (gives x)) layout) in
      last o e

  -- so do PV records before it
  runs_inversions : (ps : List (List ℕ)) (s : Place) → (1 ≤ length ps → in_kind kind (row PV) ≡ true) → Each (row PV).widths ps → 2 ≤ s.rank →
      s.rank ≤ 7 → Counted l number s m 0 (length ps) → Runs kind s (records PV ps ++ end_record number) l
  runs_inversions [] s i f h k c = runs_end s h (omega arith) c
  runs_inversions (p ∷ ps) s i f h k c =
      let its-kind = i (omega arith) in
      more (record { may = may_stand kind s PV its-kind h k; fits = f.0 }) refl
      (runs_inversions ps (after_later PV s s.listed (suc s.inversions)) (λ _. its-kind) f.1 (omega arith) (omega arith) (omega (arith, c)))

  -- and the records listed first before those
  runs_listed : (us ps : List (List ℕ)) (s : Place) → (1 ≤ length ps → in_kind kind (row PV) ≡ true) → Each (row m).widths us → Each (row PV).widths ps →
      2 ≤ s.rank → s.rank ≤ 6 → Counted l number s m (length us) (length ps) →
      Runs kind s (records m us ++ (records PV ps ++ end_record number)) l
  runs_listed [] ps s i f g h k c = runs_inversions ps s i g h (omega arith) c
  runs_listed (u ∷ us) ps s i f g h k c =
      let r = ranked K in
      more (record { may = may_stand kind s m (listed_in K) h (omega arith); fits = f.0 }) (goes_listed K s u)
      (runs_listed us ps (after_later m s (suc s.listed) s.inversions) i f.1 g (omega arith) (omega arith) (omega (arith, c)))

-- TK records run where as many are due
runs_tasks : {kind : ℕ} (vs : List (List ℕ)) (i o n : ℕ) (rest : List Record) (l : Layout) → Each (row TK).widths vs →
    Runs kind (tasks_due (i + length vs) (o + length vs * size TK) 0 n) rest l → Runs kind (tasks_due i o (length vs) n) (records TK vs ++ rest) l
runs_tasks {kind} [] i o n rest l f w =
    let index : i + 0 ≡ i = omega arith in
    let offset : o + 0 * size TK ≡ o = omega arith in
    subst₂ (λ (x y : ℕ). Runs kind (tasks_due x y 0 n) rest l) index offset w
runs_tasks {kind} (v ∷ vs) i o n rest l f w =
    let index : i + suc (length vs) ≡ suc i + length vs = omega arith in
    let offset : o + suc (length vs) * size TK ≡ o + size TK + length vs * size TK = omega arith in
    let one_less : suc (length vs) - 1 ≡ length vs = omega arith in
    let stands : Stands kind (tasks_due i o (suc (length vs)) n) TK v = record { may = rw (in-each-kind kind TK refl refl); fits = f.0 } in
    more stands (ap (λ (x : ℕ). goes_on (tasks_due (suc i) (o + size TK) x n)) one_less)
    (runs_tasks vs (suc i) (o + size TK) n rest l f.1 (subst₂ (λ (x y : ℕ). Runs kind (tasks_due x y 0 n) rest l) index offset w))

-- a kind fits its field
kind_fits : {kind : ℕ} {m : Mark} → Kind kind m → kind < 256
kind_fits of_timetable = omega arith
kind_fits of_tables = omega arith

-- and back: records laid out so run from the start to EN
pub shaped_runs : {kind : ℕ} {m : Mark} → Kind kind m → (vs us ps : List (List ℕ)) → Holdable kind m vs us ps →
    Runs kind start_place (laid_out kind m vs us ps) (layout_of m (length vs) (length us) (length ps))
shaped_runs {kind} {m} K vs us ps h =
    let n = length vs in
    let l = layout_of m n (length us) (length ps) in
    let number = suc (n + (length us + length ps)) in
    let some_tasks = h.some_tasks in
    let few_tasks = h.few_tasks in
    let o : Stands kind start_place TS (1 ∷ kind ∷ n ∷ []) =
    record { may = rw (in-each-kind kind TS refl refl); fits = (omega arith, (kind_fits K, (omega arith, tt))) } in
    let e : after kind start_place TS (1 ∷ kind ∷ n ∷ []) ≡ goes_on (tasks_due 1 (size TS) n n) =
    rw (eq-eqb kind kind refl, le-leb 1 n some_tasks, le-leb n limits.tasks few_tasks) in
    more o e
    (runs_tasks vs 1 (size TS) n (records m us ++ (records PV ps ++ end_record number)) l h.tasks_fit
    (runs_listed K l number h.count_fits us ps (tasks_due (1 + n) (size TS + n * size TK) 0 n) h.inversions_of_kind h.listed_fit
    h.inversions_fit (omega arith) (omega arith) (omega arith)))
