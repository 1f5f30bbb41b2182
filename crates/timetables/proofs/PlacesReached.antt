-- Framing's place behind the entries that a walk has passed. Assumes nothing.
use Rattle.std.proofs.Common.{◌≡◌, ℕ, suc, ◌+◌, ◌*◌, ◌<◌, ◌≤◌, true, false, List, refl, ap, ◌∙◌, ap₂, arith}
use Rattle.rules.specs.declared.Place.{Place}
use Rattle.rules.specs.declared.Layout.{Layout}
use Rattle.rules.specs.Refusals.{gives}
use Rattle.rules.specs.Marks.{SL, row, size}
use Rattle.rules.specs.Framing.{after_later, goes_on, frame}
use Rattle.rules.proofs.Cases.{by_nat}
use Rattle.images.specs.Table.{stands_at}
use Rattle.framing.specs.Frames.{behind_run, Reached, RunOf, BehindTasks}
use Rattle.framing.proofs.Runs.{run_passed}
use Rattle.framing.proofs.Entries.{entry_counted, no_entry_more, same_tasks}

-- the place behind so many entries, by its numbers
record Behind (p : Place) (many : ℕ) (q : Place) : Type 0 where
  high : 2 ≤ q.rank
  low : q.rank ≤ (row SL).rank
  offset : q.offset ≡ p.offset + many * size SL
  tasks : q.tasks ≡ p.tasks
  listed : q.listed ≡ many

module _ {bytes : List ℕ} {p : Place} (re : Reached 1 bytes p) (b : BehindTasks bytes p) {most many : ℕ} (run : RunOf bytes p.offset SL most many) where
  -- the place behind them
  abbrev behind : Place
  behind = behind_run SL p many many 0

  -- framing comes to it
  pub reached : Reached 1 bytes behind
  reached =
      run_passed 1 SL p (λ (j : ℕ). j) (λ (j : ℕ). 0)
      (record {
        of_kind = refl;
        again = refl;
        none_yet = (b.listed, b.inversions);
        goes = λ t j v e f. ap₂ (λ (x y : ℕ). goes_on (after_later SL t x y)) (ap suc e) f;
      })
      (omega (arith, b.rank)) (omega (arith, b.rank)) most many re run

  -- with these numbers
  is_behind : Behind p many behind
  unfolding behind_run
  is_behind =
      by_nat many
      (λ z. rw z (record {
        high = omega (arith, b.rank);
        low = omega (arith, b.rank);
        offset = omega arith;
        tasks = refl;
        listed = b.listed;
      }))
      (λ j z. rw z (record { high = omega arith; low = omega arith; offset = refl; tasks = refl; listed = refl }))

  module _ (l : Layout) (framed : frame 1 bytes ≡ gives l) where
    -- the image has these tasks
    pub framed_tasks : l.tasks ≡ p.tasks
    framed_tasks = same_tasks reached is_behind.high is_behind.low l framed ∙ is_behind.tasks

    -- where no SL stands behind them, these are all its entries
    pub all_listed : stands_at bytes (p.offset + many * size SL) SL ≡ false → l.listed ≡ many
    all_listed e = no_entry_more reached is_behind.high is_behind.low (rw is_behind.offset e) l framed ∙ is_behind.listed

    -- where one stands, there are more
    pub more_listed : stands_at bytes (p.offset + many * size SL) SL ≡ true → many < l.listed
    more_listed e = omega (arith, entry_counted reached is_behind.high is_behind.low (rw is_behind.offset e) l framed, is_behind.listed)
