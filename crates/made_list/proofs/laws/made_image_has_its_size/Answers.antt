use Rattle.std.proofs.Common.{◌∙◌}
use Rattle.made_list.specs.MadeList.{made_list}
use Rattle.made_list.proofs.Sizes.{made_size}
use Rattle.made_list.proofs.laws.made_image_has_its_size.Goals as goal

pub returns-clause-planned : goal.returns-clause-planned
returns-clause-planned c = λ n some few. made_size n few

pub returns-clause-built : goal.returns-clause-built
returns-clause-built c = λ n some few. c.layout_has_its_size.ensures.layout (made_list n) ∙ made_size n few
