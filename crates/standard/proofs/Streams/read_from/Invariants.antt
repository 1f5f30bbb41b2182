-- What stood before the place is kept, and the buffer stays as long as it is; nothing was read, and the other streams stay.
use Rattle.std.proofs.Common.{◌≡◌, length, take}
use Rattle.std.specs.Io.KnownBytes.{Keeps}
use Rattle.standard.proofs.Streams.read_from.Given as goal

abbrev pub invariant-loop : goal.invariant-loop
invariant-loop g l = record {
  kept : take l.at l.input ≡ take l.at l.initial.input;
  same_length : length l.input ≡ length l.initial.input;
  known : Keeps (g.R.Read.remaining l.initial.self.input) (g.R.Read.remaining l.self.input);
  output : l.self.output ≡ l.initial.self.output;
  errors : l.self.errors ≡ l.initial.self.errors;
}
