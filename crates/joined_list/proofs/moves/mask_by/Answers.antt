use Rattle.std.proofs.Common.{◌∙◌, get_or, sym, ap, bit_or}
use Rattle.std.specs.Int.Bits.{or_zero_r}
use Rattle.joined_list.proofs.MoveLists.{bits_given, bits_none, mask_all, mask_more}
use Rattle.joined_list.proofs.moves.mask_by.Goals as goal
use Rattle.joined_list.proofs.moves.mask_by.Goals.{then-mask-old-ne0, else-mask-old-ne0}

pub moves-preserved : goal.moves-preserved
moves-preserved c =
    let bits = c.moves.bits in
    let move = get_or c.args.moves.now c.moves.old-index (record { old = 0; new = 0 }) in
    mask_more c.args.moves.now c.moves.old-index (record { old = 0; new = 0 }) c.args.mask bits c.if-mask-old-ne0.bits _ c.moves-test.true
    (elim c.if-mask-old-ne0.branch [
      | then-mask-old-ne0 w ↦ w.bits-is ∙ ap (bit_or bits) (sym (bits_given move c.args.mask w.if-mask-old-ne0.true))
      | else-mask-old-ne0 w ↦ w.bits-is ∙ sym (or_zero_r bits) ∙ ap (bit_or bits) (sym (bits_none move c.args.mask w.if-mask-old-ne0.false))
    ])
    c.moves.invariant

pub returns : goal.returns
returns c = mask_all c.args.moves.now c.moves.old-index c.args.mask c.moves.bits _ c.moves-test.false c.moves.invariant
