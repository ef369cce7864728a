use Rattle.igvm_image.proofs.TrailingLaws.{trailing_accepted, trailing_headers}
use Rattle.igvm_image.proofs.laws.trailing_bytes.Goals as goal

pub returns-clause-accepted : goal.returns-clause-accepted
returns-clause-accepted c = trailing_accepted

pub returns-clause-headers : goal.returns-clause-headers
returns-clause-headers c = trailing_headers
