use Rattle.std.proofs.Common.{◌≡◌, drop}
use Rattle.std.specs.Prelude.{bit_or}
use Rattle.joined_list.specs.NewNumbers.{mask_by}
use Rattle.joined_list.proofs.moves.mask_by.Given as goal

abbrev pub invariant-moves : goal.invariant-moves
invariant-moves l = bit_or l.bits (mask_by (drop l.old-index l.moves) l.mask) ≡ mask_by l.moves l.mask
