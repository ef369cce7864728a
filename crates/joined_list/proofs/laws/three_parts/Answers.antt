use Rattle.joined_list.proofs.PartsInWords.{are_parts}
use Rattle.joined_list.proofs.laws.three_parts.Goals as goal

pub returns : goal.returns
returns c = are_parts
