use Rattle.igvm_image.proofs.SplitLaws.{split_found, split_one}
use Rattle.igvm_image.proofs.laws.one_split.Goals as goal

pub returns-clause-found : goal.returns-clause-found
returns-clause-found c = split_found

pub returns-clause-one : goal.returns-clause-one
returns-clause-one c = split_one
