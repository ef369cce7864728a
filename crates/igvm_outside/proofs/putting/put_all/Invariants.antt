use Rattle.std.proofs.Common.{length, ◌-◌, ◌≡◌, ◌≤◌, take}
use Rattle.igvm_outside.specs.Outputs.{gained}
use Rattle.igvm_outside.proofs.putting.put_all.Given as goal

-- what is put so far is the front of the text
abbrev pub invariant-pieces : goal.invariant-pieces
invariant-pieces g l = record {
  within : l.at ≤ length l.text;
  put : g.O.Sink.bytes l.sink ≡ gained (g.O.Sink.bytes l.fn.sink) (take l.at l.text);
  no_fault : g.O.Sink.faults l.sink ≡ g.O.Sink.faults l.fn.sink;
  counted : g.O.Sink.faults l.fn.sink ≤ g.O.Sink.faults l.sink;
}

abbrev pub decreases-pieces : goal.decreases-pieces
decreases-pieces g l = length l.text - l.at
