use Rattle.std.proofs.Common.{◌≡◌, ◌^◌, map}
use Rattle.std.specs.List.{range_with_len}
use Rattle.joined_list.specs.NewNumbers.{free, moves}
use Rattle.joined_list.proofs.moves.free_masks.Given as goal

abbrev pub invariant-bits : goal.invariant-bits
invariant-bits l = l.list.items ≡ moves l.masks (free l.taken (map (λ bit. 2 ^ bit) (range_with_len 0 l.bit)))
