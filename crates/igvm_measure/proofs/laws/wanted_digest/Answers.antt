use Rattle.igvm_measure.proofs.BadDigests.{bad_from, bad_back, good_from, good_back}
use Rattle.igvm_measure.proofs.laws.wanted_digest.Goals as goal

pub returns-clause-some : goal.returns-clause-some
returns-clause-some c = λ file platform options misfit.
    (bad_from file platform options misfit, bad_back file platform options misfit)

pub returns-clause-none : goal.returns-clause-none
returns-clause-none c = λ file platform options. (good_from file platform options, good_back file platform options)
