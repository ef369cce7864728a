use Rattle.std.proofs.Common.{◌≡◌}
use Rattle.std.specs.List.{range_with_len}
use Rattle.joined_list.specs.NewNumbers.{free, moves}
use Rattle.joined_list.proofs.moves.free_areas.Given as goal

abbrev pub invariant-indices : goal.invariant-indices
invariant-indices l = l.list.items ≡ moves l.areas (free l.taken (range_with_len 0 l.index))
