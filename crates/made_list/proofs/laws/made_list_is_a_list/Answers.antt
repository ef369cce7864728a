use Rattle.made_list.proofs.Valid.{made_list_is}
use Rattle.made_list.proofs.laws.made_list_is_a_list.Goals as goal

pub returns : goal.returns
returns c = λ n some few. made_list_is n few
