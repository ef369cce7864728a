use Rattle.std.proofs.Common.{◌≡◌, length}
use Rattle.igvm_measure.specs.Walks.{IsWalk, walk_left}
use Rattle.igvm_measure.proofs.walk.Walk.next.Given as goal

abbrev pub invariant-headers : goal.invariant-headers
invariant-headers l = record {
  walk : IsWalk l.self;
  left : walk_left l.self ≡ walk_left l.initial.self;
}

abbrev pub decreases-headers : goal.decreases-headers
decreases-headers l = length l.self.headers
