use Rattle.std.proofs.Common.{◌≤◌}
use Rattle.dump_text.proofs.Progress.{Printing}
use Rattle.dump_text.proofs.printing.print_image.Given as goal

-- the listing has come so far, and no fault is forgotten
abbrev pub invariant-headers : goal.invariant-headers
invariant-headers g l = record {
  printing : Printing l.view l.placed-iterator l.number (g.O.Sink.bytes l.fn.out) (g.O.Sink.bytes l.out) l.text;
  counted : g.O.Sink.faults l.fn.out ≤ g.O.Sink.faults l.out;
}
