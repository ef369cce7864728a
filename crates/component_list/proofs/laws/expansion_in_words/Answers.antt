use Rattle.component_list.proofs.RefusalLaws.{passed_is, refused_is, passed_or_refused}
use Rattle.component_list.proofs.laws.expansion_in_words.Goals as goal

pub returns-clause-passed : goal.returns-clause-passed
returns-clause-passed c = passed_is

pub returns-clause-refused : goal.returns-clause-refused
returns-clause-refused c = refused_is

pub returns-clause-either : goal.returns-clause-either
returns-clause-either c = passed_or_refused
