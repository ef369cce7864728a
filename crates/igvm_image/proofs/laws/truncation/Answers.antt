use Rattle.igvm_image.proofs.CutLaws.{truncated}
use Rattle.igvm_image.proofs.laws.truncation.Goals as goal

pub returns : goal.returns
returns c = truncated
