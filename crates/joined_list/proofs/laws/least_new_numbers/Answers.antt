use Rattle.joined_list.proofs.LeastNumbers.{least_bits, least_indices}
use Rattle.joined_list.proofs.laws.least_new_numbers.Goals as goal

pub returns-clause-masks : goal.returns-clause-masks
returns-clause-masks c = least_bits

pub returns-clause-areas : goal.returns-clause-areas
returns-clause-areas c = least_indices
