use Rattle.component_list.proofs.ImageLists.{data_within}
use Rattle.component_list.proofs.laws.data_are_a_slice.Goals as goal

pub returns : goal.returns
returns c = data_within
