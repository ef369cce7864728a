use Rattle.igvm_c.proofs.RuleLaws.{words}
use Rattle.igvm_c.proofs.laws.words_of_rules.Goals as goal

pub returns : goal.returns
returns c = words
