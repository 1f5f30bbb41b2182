-- What the functions that put text on a page leave there. Assumes nothing.
use Rattle.std.specs.Prelude.{◌≡◌, List, ℕ, ◌+◌, ◌≤◌, length}
use Rattle.std.specs.Borrow.{MutBor}
use Rattle.text.specs.declared.Page.{Page}
use Rattle.text.specs.Puts.{PutAt}

-- a page over a lent output, from its front on
pub record Opened (out : MutBor (List ℕ)) (p : Page) : Type 0 where
  pub same : p.out.ghost_name ≡ out.ghost_name
  pub front : p.at ≡ 0
  pub kept : p.out.now ≡ out.now

-- a text has room on a page
abbrev pub Fits : List ℕ → Page → Type 0
Fits text p = p.at + length text ≤ length p.out.now

-- a text was put on a page, over the same output, which stays as long as it is
pub record Puts (text : List ℕ) (old new : Page) : Type 0 where
  pub same : new.out.ghost_name ≡ old.out.ghost_name
  pub same_length : length new.out.now ≡ length old.out.now
  pub put : PutAt old.out.now old.at text new.at new.out.now
