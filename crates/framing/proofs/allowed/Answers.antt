-- `framing::allowed` meets its contract: the mark is of the kind, and its rank may follow. Assumes nothing.
use mathlib.Core.Path.{sym, ◌∙◌}
use borrow.Author.Tests.{le-ltb}
use Rattle.rules.specs.Framing.{may_follow}
use Rattle.framing.proofs.allowed.Goals as goal

pub returns : goal.returns
returns c = rw (c.row-rank.ensures, sym c.in_kind.ensures ∙ c.if-not-in_kind.false, le-ltb c.args.least 2 c.if-least-lt2.false, may_follow)
