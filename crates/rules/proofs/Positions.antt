-- Before each entry of a timetable: what has started, the instant from which the processor is free, and the entries that are left. Assumes nothing.
use mathlib.Core.Path.{◌≡◌, refl, sym, ◌∙◌, ap}
use mathlib.Core.List.{List, [], ◌∷◌, ◌++◌}
use Prim.Native.Nat.{ℕ, suc, ◌+◌, ◌≤◌, ◌<◌}
use native.Mathlib.Omega.{arith}
use lib.Dec.{eqb}
use lib.ListN.{length, take, drop, length-drop}
use lib.Seq.{take-suc, drop-cons}
use borrow.Author.Tests.{eq-eqb, ne_eqb}
use Rattle.rules.specs.declared.Entry.{Entry}
use Rattle.rules.specs.Tasks.{Set, task}
use Rattle.rules.specs.Timetable.{entry_at, count}
use Rattle.rules.specs.Priority.{slot, start_job}
use Rattle.rules.specs.Irregularities.{end_before}
use Rattle.rules.proofs.Cases.{by_bool, by_eq}
use Rattle.rules.proofs.PriorityLaws.{slot_empty, slot_start_same, slot_start_other}

-- one more entry: its task appears once more
pub count_more : (e : Entry) (τ : List Entry) → count e.task (τ ++ (e ∷ [])) ≡ suc (count e.task τ)
count_more e [] = rw (eq-eqb _ _ refl, count)
count_more e (d ∷ τ) =
    by_bool (eqb d.task e.task) (λ b. rw (b, count_more e τ)) (λ b. rw (b, count_more e τ))

-- and no other task
pub count_same : (i : ℕ) (e : Entry) (τ : List Entry) → (i ≡ e.task → ⊥) → count i (τ ++ (e ∷ [])) ≡ count i τ
count_same i e [] n = rw (ne_eqb e.task i (λ q. n (sym q)))
count_same i e (d ∷ τ) n =
    by_bool (eqb d.task i) (λ b. rw (b, count_same i e τ n)) (λ b. rw (b, count_same i e τ n))

module _ (ts : Set) (h : ℕ) (τ : List Entry) where
  -- the walk before entry j: slots count the entries, the processor is free from the previous entry's end, the entries from j on are left
  pub record Before (j : ℕ) (x : List ℕ) (f : ℕ) (σ : List Entry) : Type 0 where
    pub started : (i : ℕ) → slot x i ≡ count i (take j τ)
    pub free : f ≡ end_before ts τ j
    pub left : drop j τ ≡ σ

  -- before the first entry nothing has started
  pub at_first : Before 0 [] 0 τ
  at_first = record { started = slot_empty; free = refl; left = refl }

  module _ {j : ℕ} {x : List ℕ} {f : ℕ} where
    -- with no entry left, j is past the end
    pub past_end : Before j x f [] → length τ ≤ j
    past_end b = omega (arith, length-drop j τ, ap length b.left)

    module _ {e : Entry} {σ : List Entry} (b : Before j x f (e ∷ σ)) where
      -- with an entry left, j is a position
      pub an_entry : j < length τ
      an_entry = omega (arith, length-drop j τ, ap length b.left)

      -- what is left is entry j and the entries after it
      first_left : entry_at τ j ∷ drop (suc j) τ ≡ e ∷ σ
      first_left = sym (drop-cons τ j _ an_entry) ∙ b.left

      -- the first entry left is entry j
      pub is_entry : entry_at τ j ≡ e
      is_entry = let c = first_left in cc

      -- the entries before the next are one more
      counted : take (suc j) τ ≡ take j τ ++ (e ∷ [])
      counted = take-suc τ j (record { task = 0; start = 0 }) an_entry ∙ rw is_entry

      -- after it has started
      pub at_next : Before (suc j) (start_job x e.task) (e.start + (task ts e.task).time) σ
      at_next = record {
        started = λ i. rw counted
            (by_eq i e.task (λ q. rw q (slot_start_same x e.task ∙ ap suc (b.started e.task) ∙ sym (count_more e (take j τ))))
            (λ n. slot_start_other x e.task i n ∙ b.started i ∙ sym (count_same i e (take j τ) n)));
        free = rw is_entry;
        left = let c = first_left in cc;
      }
