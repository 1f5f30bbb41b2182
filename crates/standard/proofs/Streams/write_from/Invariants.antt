-- Nothing was written, and the other streams stay.
use Rattle.std.proofs.Common.{◌≡◌}
use Rattle.std.specs.Io.KnownBytes.{Keeps}
use Rattle.standard.proofs.Streams.write_from.Given as goal

abbrev pub invariant-loop : goal.invariant-loop
invariant-loop g l = record {
  known : Keeps (g.W.Write.contents l.initial.self.output) (g.W.Write.contents l.self.output);
  input : l.self.input ≡ l.initial.self.input;
  errors : l.self.errors ≡ l.initial.self.errors;
}
