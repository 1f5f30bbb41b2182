-- The place is within the text, what stands before it was written, and the other streams stay. The measure: the bytes left.
use Rattle.std.proofs.Common.{◌≡◌, length, take, ◌-◌, ◌≤◌}
use Rattle.std.specs.Io.KnownBytes.{Appends}
use Rattle.standard.proofs.Streams.write_text.Given as goal

abbrev pub invariant-loop-at : goal.invariant-loop-at
invariant-loop-at g l = record {
  inside : l.at ≤ length l.text;
  known : Appends (g.W.Write.contents l.initial.self.output) (g.W.Write.contents l.self.output) (take l.at l.text);
  input : l.self.input ≡ l.initial.self.input;
  errors : l.self.errors ≡ l.initial.self.errors;
}

abbrev pub decreases-loop-at : goal.decreases-loop-at
decreases-loop-at g l = length l.text - l.at
