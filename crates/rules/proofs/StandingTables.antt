-- Tables that are read from an image and whose records keep their rules stand in it, accepted or not: such records are few enough for every byte
-- offset. Assumes nothing.
use mathlib.Core.Path.{◌≡◌}
use mathlib.Core.List.{List, [], ◌∷◌}
use mathlib.Core.Option.{none}
use Prim.Native.Nat.{ℕ, suc, ◌+◌, ◌*◌, ◌≤◌, ◌<◌}
use native.Mathlib.Omega.{arith}
use native.Mathlib.Nat.{div-le_self}
use lib.Dec.{ltb}
use lib.ListN.{length}
use borrow.Author.Tests.{ltb-true}
use Rattle.fields.specs.Number.{Bytes}
use Rattle.rules.specs.declared.Inversion.{Inversion}
use Rattle.rules.specs.Refusals.{gives}
use Rattle.rules.specs.Tasks.{Set, limits, task, jobs, hyperperiod, GoodSet, set_fault}
use Rattle.rules.specs.Setting.{Tables}
use Rattle.rules.specs.Judging.{inversion_in_range, records_fault}
use Rattle.rules.specs.Marks.{ID, PV, EN, size}
use Rattle.rules.specs.Offsets.{last_offset}
use Rattle.rules.specs.Operations.{read_tables}
use Rattle.rules.specs.Image.{head_length}
use Rattle.rules.proofs.Cases.{both_true}
use Rattle.rules.proofs.Theory.{Pairs}
use Rattle.rules.proofs.Pairs.{at_most_true}
use Rattle.rules.proofs.Derived.{Every}
use Rattle.rules.proofs.Records.{RecordsKeepRules, records_keep}
use Rattle.rules.proofs.GoodSets.{good_set}
use Rattle.rules.proofs.Writable.{idles_few}
use Rattle.rules.proofs.Images.{records_before, framed_tables, tables_stand, inversions_stand}
use Rattle.rules.proofs.ShownAt.{Stand}

-- rising pairs in their range are no more than sixteen tasks have job numbers of two bytes
pairs_few : (ts : Set) (h : ℕ) → length ts.tasks ≤ limits.tasks → h ≤ limits.ticks → (i k : ℕ) (p : List Inversion) → Pairs i k p →
    Every (inversion_in_range ts h) p → k ≤ 65536 → i * 65536 + k ≤ 1048576 → length p + (i * 65536 + k) ≤ 1048576
pairs_few ts h few short i k [] z y low below = omega arith
pairs_few ts h few short i k (r ∷ p) z y low below =
    let a = both_true (ltb r.task (length ts.tasks)) _ y.0 in
    let b = both_true (ltb r.job (jobs h (task ts r.task))) _ a.1 in
    let t : r.task < length ts.tasks = ltb-true r.task (length ts.tasks) a.0 in
    let j : r.job < h = omega (arith, ltb-true r.job (jobs h (task ts r.task)) b.0, div-le_self h (task ts r.task).period) in
    let rest : length p + (r.task * 65536 + suc r.job) ≤ 1048576 =
    pairs_few ts h few short r.task (suc r.job) p z.1 y.1 (omega arith) (omega arith) in
    at_most_true i k r.task r.job z.0 (λ u. omega arith) (λ u v. omega arith)

-- tables whose records keep their rules end by the last offset
pub records_short : (ts : Set) (X : Tables) → set_fault ts ≡ none → RecordsKeepRules ts (hyperperiod ts) X →
    head_length ts + (length X.idles * size ID + (length X.inversions * size PV + size EN)) ≤ last_offset
records_short ts X good keep =
    let g : GoodSet ts (hyperperiod ts) = good_set ts good in
    omega (
      arith,
      g.few_tasks,
      g.short,
      idles_few (hyperperiod ts) 0 X.idles keep.rising,
      pairs_few ts (hyperperiod ts) g.few_tasks g.short 0 0 X.inversions keep.pairs keep.in_range (omega arith) (omega arith),
    )

-- tables read from an image, of a set and with records that have no fault, stand behind the tasks
pub read_stand : (bytes : List ℕ) (ts : Set) (X : Tables) → Bytes bytes → read_tables bytes ≡ gives (record { set = ts; tables = X }) →
    set_fault ts ≡ none → records_fault ts (hyperperiod ts) X ≡ none → Stand bytes ts X (records_before ts X)
read_stand bytes ts X are-bytes read good faultless =
    let framed = framed_tables bytes are-bytes (record { set = ts; tables = X }) read in
    let keep : RecordsKeepRules ts (hyperperiod ts) X = records_keep ts (hyperperiod ts) X faultless in
    record {
      idles_there = rw framed.1 (tables_stand ts X);
      inversions_there = rw framed.1 (inversions_stand ts X);
      idles_fit = framed.0.idles_fit;
      inversions_fit = framed.0.inversions_fit;
      keep_rules = keep;
      short = records_short ts X good keep;
    }
