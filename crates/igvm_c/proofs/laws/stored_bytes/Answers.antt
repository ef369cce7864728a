use Rattle.igvm_c.proofs.PageLaws.{stored_bytes}
use Rattle.igvm_c.proofs.laws.stored_bytes.Goals as goal

pub returns : goal.returns
returns c = stored_bytes
