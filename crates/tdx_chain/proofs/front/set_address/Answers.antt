use Rattle.std.proofs.Common.{◌∙◌}
use Rattle.tdx_chain.proofs.Fronts.{put_address}
use Rattle.tdx_chain.proofs.front.set_address.Goals as goal

pub returns : goal.returns
returns c = λ name before size is. put_address c.args.front.now name _ before c.args.gpa size is (c.copy_from_slice.ensures.after ∙ c.to_le_bytes.ensures)
