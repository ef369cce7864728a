use Rattle.igvm_measure.proofs.FileBinding.{alike_digests, digests_clash}
use Rattle.igvm_measure.proofs.laws.binding.Goals as goal

pub returns-clause-alike : goal.returns-clause-alike
returns-clause-alike c = alike_digests

pub returns-clause-clash : goal.returns-clause-clash
returns-clause-clash c = digests_clash c.pages_fit.ensures.fit c.pages_fit.ensures.numbers
