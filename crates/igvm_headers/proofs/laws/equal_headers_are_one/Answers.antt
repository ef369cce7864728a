use Rattle.igvm_headers.proofs.Equality.{headers_exact}
use Rattle.igvm_headers.proofs.laws.equal_headers_are_one.Goals as goal

pub returns : goal.returns
returns c = headers_exact
