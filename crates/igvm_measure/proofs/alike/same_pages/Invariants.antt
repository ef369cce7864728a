use Rattle.std.proofs.Common.{◌≡◌, length}
use Rattle.igvm_measure.specs.Walks.{IsWalk, walk_left}
use Rattle.igvm_measure.proofs.alike.same_pages.Given as goal

-- what is left is the same exactly where all is
abbrev pub invariant-pages : goal.invariant-pages
invariant-pages l = record {
  one : IsWalk l.one;
  other : IsWalk l.other;
  all : walk_left l.one ≡ walk_left l.other → walk_left l.initial.one ≡ walk_left l.initial.other;
  left : walk_left l.initial.one ≡ walk_left l.initial.other → walk_left l.one ≡ walk_left l.other;
}

abbrev pub decreases-pages : goal.decreases-pages
decreases-pages l = length (walk_left l.one)
