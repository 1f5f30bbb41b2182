-- The order of refusals of deriving and rebuilding: what refuses the image, then 20. And what they leave, from the two images of one timetable.
-- Assumes nothing.
use mathlib.Core.Path.{◌≡◌, refl, sym, ◌∙◌, ap}
use mathlib.Core.Logic.{◌↔◌, inl, inr}
use mathlib.Core.List.{List, ◌++◌}
use Prim.Native.Nat.{ℕ, ◌≤◌}
use native.Mathlib.Omega.{arith}
use lib.ListN.{length, drop}
use Rattle.fields.specs.Number.{Bytes}
use Rattle.rules.specs.declared.Entry.{Entry}
use Rattle.rules.specs.declared.Refusal.{Refusal}
use Rattle.std.specs.Prelude.{Ok, Err}
use Rattle.rules.specs.Refusals.{refusal}
use Rattle.rules.specs.Tasks.{Set}
use Rattle.rules.specs.Judging.{tables}
use Rattle.rules.specs.Image.{timetable_image, table_image}
use Rattle.rules.specs.Located.{located}
use Rattle.rules.specs.Operations.{into, derived_image, rebuilt_image, derive, derive_output, rebuild, rebuild_output}
use Rattle.rules.specs.Promised.{TimetableImage, TableImage, BothImages, RefusesDeriving, RefusesRebuilding}
use Rattle.rules.proofs.HasTables.{derived_tables}
use Rattle.rules.proofs.Locations.{one_located}
use Rattle.rules.proofs.Demand2 as demand2
use Rattle.rules.proofs.ImageOrder as order

-- a timetable image, and the image of its tables
pub with_its_tables : {bytes : List ℕ} {ts : Set} {τ : List Entry} → TimetableImage bytes ts τ → BothImages bytes (table_image ts (tables ts τ))
with_its_tables {bytes} {ts} {τ} t = record {
  set = ts;
  entries = τ;
  timetable = t;
  tables = record {
    h = t.h;
    tables = tables ts τ;
    good = t.good;
    valid = t.valid;
    has = derived_tables t.good t.valid;
    is = refl;
  };
}

-- a table image, and the image of the timetable behind it
pub with_its_timetable : {bytes : List ℕ} {ts : Set} {τ : List Entry} → TableImage bytes ts τ → BothImages (timetable_image ts τ) bytes
with_its_timetable {bytes} {ts} {τ} t = record {
  set = ts;
  entries = τ;
  timetable = record { h = t.h; good = t.good; valid = t.valid; is = refl };
  tables = t;
}

-- the image of a timetable's tables is that of the derived ones
pub its_table_image : {bytes result : List ℕ} (b : BothImages bytes result) → result ≡ table_image b.set (tables b.set b.entries)
its_table_image b = demand2.tables_are b.tables

module _ (bytes old : List ℕ) {result : List ℕ} where
  -- deriving from the one image, with room for the other, writes it
  pub derive_writes : BothImages bytes result → length result ≤ length old →
      (derive bytes old ≡ Ok (length result)) × (derive_output bytes old ≡ result ++ drop (length result) old)
  unfolding derive derive_output
  derive_writes b room =
      demand2.gives_made bytes (derived_image (length old) bytes) result old
      (demand2.derives_image b.timetable (length old) ∙ ap (into (length old)) (sym (its_table_image b)) ∙ demand2.into_fits (length old) result room)

  -- rebuilding from the other, with room for the one, writes it
  pub rebuild_writes : BothImages result bytes → length result ≤ length old →
      (rebuild bytes old ≡ Ok (length result)) × (rebuild_output bytes old ≡ result ++ drop (length result) old)
  unfolding rebuild rebuild_output
  rebuild_writes b room =
      demand2.gives_made bytes (rebuilt_image (length old) bytes) result old
      (demand2.rebuilds_image b.tables (length old) ∙ ap (into (length old)) (sym b.timetable.is) ∙ demand2.into_fits (length old) result room)

module _ (bytes old : List ℕ) (are-bytes : Bytes bytes) where
  -- deriving refuses exactly as the document does
  pub derive_order : (r : Refusal) → (derive bytes old ≡ Err (located bytes r)) ↔ RefusesDeriving bytes (length old) r
  derive_order r = (forth, back)
    where
      forth : derive bytes old ≡ Err (located bytes r) → RefusesDeriving bytes (length old) r
      forth e =
          elim (order.derive_refuses bytes old (located bytes r) e) [
            | inl q ↦ RefusesDeriving.by_the_image (order.timetable_refusals bytes (located bytes r) q)
            | inr w ↦
                let a = (demand2.accepts_timetable bytes are-bytes).0 w.1 in
                rw (one_located bytes r (refusal 20 0) w.0) (RefusesDeriving.too_long (with_its_tables a.2) ((order.derive_too_long old a.2).0 (e ∙ ap Err w.0)))
          ]

      back : {q : Refusal} → RefusesDeriving bytes (length old) q → derive bytes old ≡ Err (located bytes q)
      back {q} (RefusesDeriving.by_the_image f) = order.refused_derive bytes old (located bytes q) (order.refuses_timetable bytes f)
      back (RefusesDeriving.too_long b long) = (order.derive_too_long old b.timetable).1 (omega (arith, ap length (its_table_image b), long))

  -- and so does rebuilding
  pub rebuild_order : (r : Refusal) → (rebuild bytes old ≡ Err (located bytes r)) ↔ RefusesRebuilding bytes (length old) r
  rebuild_order r = (forth, back)
    where
      forth : rebuild bytes old ≡ Err (located bytes r) → RefusesRebuilding bytes (length old) r
      forth e =
          elim (order.rebuild_refuses bytes old (located bytes r) e) [
            | inl q ↦ RefusesRebuilding.by_the_image (order.table_refusals bytes (located bytes r) q)
            | inr w ↦
                let a = (demand2.accepts_tables bytes are-bytes).0 w.1 in
                rw (one_located bytes r (refusal 20 0) w.0) (RefusesRebuilding.too_long (with_its_timetable a.2) ((order.rebuild_too_long old a.2).0 (e ∙ ap Err w.0)))
          ]

      back : {q : Refusal} → RefusesRebuilding bytes (length old) q → rebuild bytes old ≡ Err (located bytes q)
      back {q} (RefusesRebuilding.by_the_image f) = order.refused_rebuild bytes old (located bytes q) (order.refuses_tables bytes f)
      back (RefusesRebuilding.too_long b long) = (order.rebuild_too_long old b.tables).1 (omega (arith, ap length b.timetable.is, long))
