use Rattle.sev_chain.proofs.SevDigests.{bytes_alike}
use Rattle.sev_chain.proofs.laws.without_contexts.Goals as goal

pub returns : goal.returns
returns c = bytes_alike
