use Rattle.std.proofs.Common.{[]}
use Rattle.directive_rules.proofs.FirstMisfitLemmas.{first_from, first_back, none_from, none_back}
use Rattle.directive_rules.proofs.laws.first_of_misfits.Goals as goal

pub returns-clause-first : goal.returns-clause-first
returns-clause-first c = λ s placed m. (first_from s [] placed m, first_back s [] placed m)

pub returns-clause-none : goal.returns-clause-none
returns-clause-none c = λ s placed. (none_from s [] placed, none_back s [] placed)
