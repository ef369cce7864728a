use Rattle.pages_file.proofs.Records.{file_size}
use Rattle.pages_file.proofs.laws.pages_file_size.Goals as goal

pub returns : goal.returns
returns c = file_size
