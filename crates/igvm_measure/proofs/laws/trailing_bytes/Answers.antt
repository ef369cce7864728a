use Rattle.igvm_measure.proofs.TrailingDigests.{same_digests}
use Rattle.igvm_measure.proofs.laws.trailing_bytes.Goals as goal

pub returns : goal.returns
returns c = λ file more platform options accepted. same_digests platform.kind options file _ platform.mask (c.trailing_bytes.ensures.headers file more accepted)
