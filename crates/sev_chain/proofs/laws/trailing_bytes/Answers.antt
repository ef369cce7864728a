use Rattle.sev_chain.proofs.SevDigests.{same_digests}
use Rattle.sev_chain.proofs.laws.trailing_bytes.Goals as goal

pub returns : goal.returns
returns c = λ file more platform accepted. same_digests platform.kind file _ platform (c.trailing_bytes.ensures.headers file more accepted)
