use Rattle.host_set.proofs.Covered.{covered_is}
use Rattle.host_set.proofs.laws.covered_bytes.Goals as goal

pub returns : goal.returns
returns c = covered_is
