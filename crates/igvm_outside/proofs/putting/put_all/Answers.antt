use Rattle.std.proofs.Common.{ℕ, ◌∙◌, arith, length-take, length-drop}
use Rattle.igvm_outside.proofs.Fronts.{put_more}
use Rattle.igvm_outside.proofs.putting.put_all.Goals as goal

pub pieces-preserved : goal.pieces-preserved
pieces-preserved g c = record {
  within = omega (arith, c.in_ok-at.ensures.within, length-take {A = ℕ}, length-drop {A = ℕ});
  put = put_more _ _ _ _ _ _ c.pieces.invariant.put c.in_ok-at.ensures.put;
  no_fault = c.in_ok-at.ensures.no_fault ∙ c.pieces.invariant.no_fault;
  counted = omega arith;
}
