-- Images and values correspond one to one: what is written is read back, and what is read is written back. Also where records stand in an image, and how
-- long it is. Assumes nothing.
use mathlib.Core.Path.{◌≡◌, refl, sym, ◌∙◌, ap, ap₂, subst}
use mathlib.Core.Bool.{true, false}
use mathlib.Core.List.{List, [], ◌∷◌, ◌++◌, map, append_assoc}
use Prim.Native.Nat.{ℕ, suc, ◌+◌, ◌*◌, ◌≤◌}
use native.Mathlib.Omega.{arith}
use lib.ListN.{length, drop, length-append, length-map}
use lib.Seq.{drop_at, drop-drop}
use Rattle.fields.specs.Number.{Bytes}
use Rattle.fields.specs.Body.{Fit}
use Rattle.rules.specs.declared.Layout.{Layout}
use Rattle.rules.specs.declared.Entry.{Entry}
use Rattle.rules.specs.declared.Idle.{Idle}
use Rattle.rules.specs.declared.Inversion.{Inversion}
use Rattle.rules.specs.Tasks.{Set, set_with}
use Rattle.rules.specs.Refusals.{Judged, gives, then}
use Rattle.rules.specs.Setting.{Tables}
use Rattle.rules.specs.Marks.{Mark, TS, TK, SL, ID, PV, row, size}
use Rattle.rules.specs.Image.{Record, record_of, written, image, records, head_records, end_record, of_task, of_entry, of_idle, of_inversion, to_task, to_entry, to_idle, to_inversion, timetable_records, table_records, timetable_image, table_image, Each, WritableTimetable, WritableTables, head_length, head_count}
use Rattle.rules.specs.Framing.{frame, set_in, entries_in, tables_in}
use Rattle.rules.specs.Operations.{Timed, Tabled, read_timetable, read_tables}
use Rattle.rules.proofs.Cases.{differ, then_gives, gives_in}
use Rattle.rules.proofs.Framed.{image_bytes, written_length}
use Rattle.rules.proofs.Shapes.{of_timetable, of_tables, laid_out, Holdable, all_slots}
use Rattle.rules.proofs.Held.{ReadAs, Holds, held, Laid, laid}

module _ {A : Type 0} (of : A → List ℕ) (to : List ℕ → A) where
  -- things that are written as values and read again are the same
  all_to_of : ((x : A) → to (of x) ≡ x) → (xs : List A) → map to (map of xs) ≡ xs
  all_to_of same [] = refl
  all_to_of same (x ∷ xs) = ap₂ ◌∷◌ (same x) (all_to_of same xs)

  -- values that fit and are read are written again as they were
  all_of_to : (ws : List ℕ) → ((v : List ℕ) → Fit ws v → v ≡ of (to v)) → (vs : List (List ℕ)) → Each ws vs → vs ≡ map of (map to vs)
  all_of_to ws same [] f = refl
  all_of_to ws same (v ∷ vs) f = ap₂ ◌∷◌ (same v f.0) (all_of_to ws same vs f.1)

-- so with the values of tasks
tasks_again : (vs : List (List ℕ)) → Each (row TK).widths vs → vs ≡ map of_task (map to_task vs)
tasks_again = all_of_to of_task to_task (row TK).widths (all_slots (row TK).widths)

-- with those of entries
entries_again : (vs : List (List ℕ)) → Each (row SL).widths vs → vs ≡ map of_entry (map to_entry vs)
entries_again = all_of_to of_entry to_entry (row SL).widths (all_slots (row SL).widths)

-- with those of forced idles
idles_again : (vs : List (List ℕ)) → Each (row ID).widths vs → vs ≡ map of_idle (map to_idle vs)
idles_again = all_of_to of_idle to_idle (row ID).widths (all_slots (row ID).widths)

-- and with those of inversions
inversions_again : (vs : List (List ℕ)) → Each (row PV).widths vs → vs ≡ map of_inversion (map to_inversion vs)
inversions_again = all_of_to of_inversion to_inversion (row PV).widths (all_slots (row PV).widths)

-- a timetable's records are laid out from its values
timetable_laid_out : (ts : Set) (τ : List Entry) → laid_out 1 SL (map of_task ts.tasks) (map of_entry τ) [] ≡ timetable_records ts τ
timetable_laid_out ts τ =
    let vs = map of_task ts.tasks in
    let us = map of_entry τ in
    let many : length vs ≡ length ts.tasks = length-map ts.tasks of_task in
    let number : suc (length vs + (length us + 0)) ≡ head_count ts + length τ = omega (arith, length-map τ of_entry) in
    ap₂ (λ (n k : ℕ). record_of TS (1 ∷ 1 ∷ n ∷ []) ∷ (records TK vs ++ (records SL us ++ end_record k))) many number

-- a timetable that can be written has values that an image can hold
holdable_timetable : (ts : Set) (τ : List Entry) → WritableTimetable ts τ → Holdable 1 SL (map of_task ts.tasks) (map of_entry τ) []
holdable_timetable ts τ w =
    let many = length-map ts.tasks of_task in
    record {
      some_tasks = omega (arith, w.some_tasks);
      few_tasks = omega (arith, w.few_tasks);
      tasks_fit = w.tasks_fit;
      listed_fit = w.entries_fit;
      inversions_fit = tt;
      inversions_of_kind = λ h. absurd (omega arith);
      count_fits = omega (arith, w.count_fits, length-map τ of_entry);
    }

-- and a timetable whose values an image can hold can be written
writable_timetable : (ts : Set) (τ : List Entry) → Holdable 1 SL (map of_task ts.tasks) (map of_entry τ) [] → WritableTimetable ts τ
writable_timetable ts τ h =
    let many = length-map ts.tasks of_task in
    record {
      some_tasks = omega (arith, h.some_tasks);
      few_tasks = omega (arith, h.few_tasks);
      tasks_fit = h.tasks_fit;
      entries_fit = h.listed_fit;
      count_fits = omega (arith, h.count_fits, length-map τ of_entry);
    }

-- a timetable whose values are read is what is read
timetable_read : (bytes : List ℕ) (l : Layout) (ts : Set) (τ : List Entry) → ReadAs SL l bytes (map of_task ts.tasks) (map of_entry τ) [] →
    ◌≡◌ {A = Timed} (record { set = set_in l bytes; entries = entries_in l bytes }) (record { set = ts; entries = τ })
timetable_read bytes l ts τ r =
    ap₂ (λ (x : Set) (y : List Entry). record { set = x; entries = y })
    (ap set_with (ap (map to_task) r.tasks_read ∙ all_to_of of_task to_task (λ t. refl) ts.tasks))
    (ap (map to_entry) r.listed_read ∙ all_to_of of_entry to_entry (λ e. refl) τ)

-- reading a timetable image gives back what was written
pub written_timetable : (ts : Set) (τ : List Entry) → WritableTimetable ts τ →
    read_timetable (timetable_image ts τ) ≡ gives (record { set = ts; entries = τ })
written_timetable ts τ w =
    let bytes = timetable_image ts τ in
    let g : Laid 1 SL bytes (map of_task ts.tasks) (map of_entry τ) [] =
    subst (λ (rs : List Record). Laid 1 SL (image rs) (map of_task ts.tasks) (map of_entry τ) []) (timetable_laid_out ts τ)
    (laid of_timetable (map of_task ts.tasks) (map of_entry τ) [] (holdable_timetable ts τ w)) in
    ap (λ (z : Judged Layout). then z (λ (l : Layout). gives (record { set = set_in l bytes; entries = entries_in l bytes }))) g.framed_so
    ∙ ap gives (timetable_read bytes g.layout ts τ g.reads)

-- no PV record is in a timetable image
none_in_timetable : (ps : List (List ℕ)) → (1 ≤ length ps → false ≡ true) → ps ≡ []
none_in_timetable [] h = refl
none_in_timetable (p ∷ ps) h = differ (sym (h (omega arith)))

-- what is read from a timetable image can be written, and writing it gives back the bytes
pub framed_timetable : (bytes : List ℕ) → Bytes bytes → (i : Timed) → read_timetable bytes ≡ gives i →
    WritableTimetable i.set i.entries × (bytes ≡ timetable_image i.set i.entries)
framed_timetable bytes b i e =
    then_gives (frame 1 bytes) (λ (l : Layout). gives (record { set = set_in l bytes; entries = entries_in l bytes })) i e
    (λ l u g.
    let h = held of_timetable bytes l b u in
    let f = h.holds.holdable in
    let ts : Set = set_with (map to_task h.task_values) in
    let τ = map to_entry h.listed_values in
    let k : Holds 1 SL bytes l (map of_task ts.tasks) (map of_entry τ) [] =
    rw (
      tasks_again h.task_values f.tasks_fit,
      entries_again h.listed_values f.listed_fit,
      none_in_timetable h.inversion_values f.inversions_of_kind,
    ) at h.holds in
    subst (λ (x : Timed). WritableTimetable x.set x.entries × (bytes ≡ timetable_image x.set x.entries))
    (sym (timetable_read bytes l ts τ k.reads) ∙ gives_in _ _ g)
    (writable_timetable ts τ k.holdable, k.is ∙ ap image (timetable_laid_out ts τ)))

-- equal images of timetables that can be written are those of equal timetables
pub one_timetable_image : (ts us : Set) (τ σ : List Entry) → WritableTimetable ts τ → WritableTimetable us σ →
    timetable_image ts τ ≡ timetable_image us σ → (ts ≡ us) × (τ ≡ σ)
one_timetable_image ts us τ σ v w e =
    let same = gives_in _ _ (sym (written_timetable ts τ v) ∙ ap read_timetable e ∙ written_timetable us σ w) in
    (ap (λ (i : Timed). i.set) same, ap (λ (i : Timed). i.entries) same)

-- the records of tables are laid out from their values
table_laid_out : (ts : Set) (X : Tables) →
    laid_out 2 ID (map of_task ts.tasks) (map of_idle X.idles) (map of_inversion X.inversions) ≡ table_records ts X
table_laid_out ts X =
    let vs = map of_task ts.tasks in
    let us = map of_idle X.idles in
    let ps = map of_inversion X.inversions in
    let many : length vs ≡ length ts.tasks = length-map ts.tasks of_task in
    let number : suc (length vs + (length us + length ps)) ≡ head_count ts + (length X.idles + length X.inversions) =
    omega (arith, length-map X.idles of_idle, length-map X.inversions of_inversion) in
    ap₂ (λ (n k : ℕ). record_of TS (1 ∷ 2 ∷ n ∷ []) ∷ (records TK vs ++ (records ID us ++ (records PV ps ++ end_record k)))) many number

-- tables that can be written have values that an image can hold
holdable_tables : (ts : Set) (X : Tables) → WritableTables ts X →
    Holdable 2 ID (map of_task ts.tasks) (map of_idle X.idles) (map of_inversion X.inversions)
holdable_tables ts X w =
    let many = length-map ts.tasks of_task in
    record {
      some_tasks = omega (arith, w.some_tasks);
      few_tasks = omega (arith, w.few_tasks);
      tasks_fit = w.tasks_fit;
      listed_fit = w.idles_fit;
      inversions_fit = w.inversions_fit;
      inversions_of_kind = λ h. refl;
      count_fits = omega (arith, w.count_fits, length-map X.idles of_idle, length-map X.inversions of_inversion);
    }

-- and tables whose values an image can hold can be written
writable_tables : (ts : Set) (X : Tables) → Holdable 2 ID (map of_task ts.tasks) (map of_idle X.idles) (map of_inversion X.inversions) →
    WritableTables ts X
writable_tables ts X h =
    let many = length-map ts.tasks of_task in
    record {
      some_tasks = omega (arith, h.some_tasks);
      few_tasks = omega (arith, h.few_tasks);
      tasks_fit = h.tasks_fit;
      idles_fit = h.listed_fit;
      inversions_fit = h.inversions_fit;
      count_fits = omega (arith, h.count_fits, length-map X.idles of_idle, length-map X.inversions of_inversion);
    }

-- tables whose values are read are what is read
tables_read : (bytes : List ℕ) (l : Layout) (ts : Set) (X : Tables) →
    ReadAs ID l bytes (map of_task ts.tasks) (map of_idle X.idles) (map of_inversion X.inversions) →
    ◌≡◌ {A = Tabled} (record { set = set_in l bytes; tables = tables_in l bytes }) (record { set = ts; tables = X })
tables_read bytes l ts X r =
    let idles-are = ap (map to_idle) r.listed_read ∙ all_to_of of_idle to_idle (λ x. refl) X.idles in
    let inversions_are = ap (map to_inversion) r.inversions_read ∙ all_to_of of_inversion to_inversion (λ x. refl) X.inversions in
    ap₂ (λ (x : Set) (y : Tables). record { set = x; tables = y })
    (ap set_with (ap (map to_task) r.tasks_read ∙ all_to_of of_task to_task (λ t. refl) ts.tasks))
    (ap₂ (λ (x : List Idle) (y : List Inversion). record { idles = x; inversions = y }) idles-are inversions_are)

-- reading a table image gives back what was written
pub written_tables : (ts : Set) (X : Tables) → WritableTables ts X → read_tables (table_image ts X) ≡ gives (record { set = ts; tables = X })
written_tables ts X w =
    let bytes = table_image ts X in
    let vs = map of_task ts.tasks in
    let us = map of_idle X.idles in
    let ps = map of_inversion X.inversions in
    let g : Laid 2 ID bytes vs us ps =
    subst (λ (rs : List Record). Laid 2 ID (image rs) vs us ps) (table_laid_out ts X) (laid of_tables vs us ps (holdable_tables ts X w)) in
    ap (λ (z : Judged Layout). then z (λ (l : Layout). gives (record { set = set_in l bytes; tables = tables_in l bytes }))) g.framed_so
    ∙ ap gives (tables_read bytes g.layout ts X g.reads)

-- what is read from a table image can be written, and writing it gives back the bytes
pub framed_tables : (bytes : List ℕ) → Bytes bytes → (i : Tabled) → read_tables bytes ≡ gives i →
    WritableTables i.set i.tables × (bytes ≡ table_image i.set i.tables)
framed_tables bytes b i e =
    then_gives (frame 2 bytes) (λ (l : Layout). gives (record { set = set_in l bytes; tables = tables_in l bytes })) i e
    (λ l u g.
    let h = held of_tables bytes l b u in
    let f = h.holds.holdable in
    let ts : Set = set_with (map to_task h.task_values) in
    let X : Tables = record { idles = map to_idle h.listed_values; inversions = map to_inversion h.inversion_values } in
    let k : Holds 2 ID bytes l (map of_task ts.tasks) (map of_idle X.idles) (map of_inversion X.inversions) =
    rw (
      tasks_again h.task_values f.tasks_fit,
      idles_again h.listed_values f.listed_fit,
      inversions_again h.inversion_values f.inversions_fit,
    ) at h.holds in
    subst (λ (x : Tabled). WritableTables x.set x.tables × (bytes ≡ table_image x.set x.tables))
    (sym (tables_read bytes l ts X k.reads) ∙ gives_in _ _ g)
    (writable_tables ts X k.holdable, k.is ∙ ap image (table_laid_out ts X)))

-- equal images of tables that can be written are those of equal tables
pub one_table_image : (ts us : Set) (X Y : Tables) → WritableTables ts X → WritableTables us Y → table_image ts X ≡ table_image us Y →
    (ts ≡ us) × (X ≡ Y)
one_table_image ts us X Y v w e =
    let same = gives_in _ _ (sym (written_tables ts X v) ∙ ap read_tables e ∙ written_tables us Y w) in
    (ap (λ (i : Tabled). i.set) same, ap (λ (i : Tabled). i.tables) same)

-- what is written is bytes
pub timetable_image_bytes : (ts : Set) (τ : List Entry) → Bytes (timetable_image ts τ)
timetable_image_bytes ts τ = image_bytes (timetable_records ts τ)

pub table_image_bytes : (ts : Set) (X : Tables) → Bytes (table_image ts X)
table_image_bytes ts X = image_bytes (table_records ts X)

-- records stand one behind the other
pub image_append : (rs qs : List Record) → image (rs ++ qs) ≡ image rs ++ image qs
image_append [] qs = refl
image_append (r ∷ rs) qs = ap (λ (x : List ℕ). written r ++ x) (image_append rs qs) ∙ sym (append_assoc (written r) (image rs) (image qs))

-- records of one mark have as many bytes each
pub records_length : (m : Mark) (vs : List (List ℕ)) → length (image (records m vs)) ≡ length vs * size m
records_length m [] = omega arith
records_length m (v ∷ vs) =
    omega (arith, length-append (written (record_of m v)) (image (records m vs)), written_length m v, records_length m vs)

-- the tables begin behind TS and the TK records
pub set_length : (kind : ℕ) (ts : Set) → length (image (head_records kind ts)) ≡ head_length ts
set_length kind ts = omega (arith, records_length TK (map of_task ts.tasks), length-map ts.tasks of_task)

-- behind the bytes of records stand the others
drop_records : (rs qs : List Record) (o : ℕ) → length (image rs) ≡ o → drop o (image (rs ++ qs)) ≡ image qs
drop_records rs qs o e = ap (drop o) (image_append rs qs) ∙ drop_at (image rs) (image qs) o e

-- the number of records before EN in a table image
abbrev pub records_before : Set → Tables → ℕ
records_before ts X = head_count ts + (length X.idles + length X.inversions)

-- ID records stand behind the tasks
pub tables_stand : (ts : Set) (X : Tables) → drop (head_length ts) (table_image ts X)
    ≡ image (records ID (map of_idle X.idles) ++ (records PV (map of_inversion X.inversions) ++ end_record (records_before ts X)))
tables_stand ts X = drop_records (head_records 2 ts) _ (head_length ts) (set_length 2 ts)

-- PV records stand behind the ID records
pub inversions_stand : (ts : Set) (X : Tables) → drop (head_length ts + length X.idles * size ID) (table_image ts X)
    ≡ image (records PV (map of_inversion X.inversions) ++ end_record (records_before ts X))
inversions_stand ts X =
    let o = length X.idles * size ID in
    let us = map of_idle X.idles in
    sym (drop-drop o (head_length ts) (table_image ts X))
    ∙ ap (drop o) (tables_stand ts X)
    ∙ drop_records (records ID us) _ o (omega (arith, records_length ID us, length-map X.idles of_idle))

-- records have the bytes of the first of them and of the others
pub both_lengths : (rs qs : List Record) → length (image (rs ++ qs)) ≡ length (image rs) + length (image qs)
both_lengths rs qs = ap length (image_append rs qs) ∙ length-append (image rs) (image qs)

-- how long a timetable image is
pub timetable_image_length : (ts : Set) (τ : List Entry) → length (timetable_image ts τ) ≡ 5 + 18 * length ts.tasks + 7 * length τ + 6
timetable_image_length ts τ =
    let us = map of_entry τ in
    let end = end_record (head_count ts + length τ) in
    both_lengths (head_records 1 ts) (records SL us ++ end)
    ∙ omega (arith, set_length 1 ts, both_lengths (records SL us) end, records_length SL us, length-map τ of_entry)

-- how long a table image is
pub table_image_length : (ts : Set) (X : Tables) →
    length (table_image ts X) ≡ 5 + 18 * length ts.tasks + 8 * length X.idles + 9 * length X.inversions + 6
table_image_length ts X =
    let us = map of_idle X.idles in
    let ps = map of_inversion X.inversions in
    let end = end_record (records_before ts X) in
    let all = both_lengths (records ID us) (records PV ps ++ end) in
    let its_inversions = both_lengths (records PV ps) end in
    both_lengths (head_records 2 ts) (records ID us ++ (records PV ps ++ end))
    ∙ omega (arith, set_length 2 ts, records_length ID us, records_length PV ps, length-map X.idles of_idle, length-map X.inversions of_inversion)
