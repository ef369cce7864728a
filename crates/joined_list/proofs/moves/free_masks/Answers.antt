use Rattle.std.proofs.Common.{◌∙◌, ◌^◌, map, sym, ap, [], ◌∷◌, ◌++◌, arith}
use Rattle.std.specs.List.{range_with_len}
use Rattle.std.proofs.lemmas.List.FromFn.{map-range_with_len_more}
use Rattle.joined_list.specs.NewNumbers.{free, moves}
use Rattle.joined_list.proofs.MoveLists.{moves-none, bit_mask}
use Rattle.joined_list.proofs.moves.free_masks.Goals as goal

pub bits-init : goal.bits-init
bits-init c = c.new-list.ensures.items ∙ sym (moves-none c.args.masks.now)

pub bits-preserved : goal.bits-preserved
bits-preserved c =
    let before = map (λ bit. 2 ^ bit) (range_with_len 0 c.bits.bit) in
    c.in_ok-give.ensures before c.bits.invariant
    ∙ ap (λ n. moves c.args.masks.now (free c.args.taken.now (before ++ n ∷ []))) (bit_mask c.bits.bit c.bits-test.true)
    ∙ ap (λ ns. moves c.args.masks.now (free c.args.taken.now ns)) (sym (map-range_with_len_more (λ bit. 2 ^ bit) 0 c.bits.bit c.bits.bit (omega arith)))
