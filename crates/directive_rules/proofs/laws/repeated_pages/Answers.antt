use Rattle.directive_rules.proofs.FirstMisfitLemmas.{repeated_from, repeated_back}
use Rattle.directive_rules.proofs.laws.repeated_pages.Goals as goal

pub returns : goal.returns
returns c = λ areas before header. (repeated_from areas before header, repeated_back areas before header)
