use Rattle.component_list.proofs.Stepping.{Expanding}
use Rattle.component_list.proofs.expanding.expand.Given as goal

abbrev pub invariant-directives : goal.invariant-directives
invariant-directives g l =
    Expanding g.S.Shelf.told g.S.Shelf.state g.S.Shelf.given g.S.Shelf.read_faults g.S.Shelf.write_faults l.fn.shelf l.shelf l.source l.item l.progress
