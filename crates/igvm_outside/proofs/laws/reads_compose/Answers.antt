use Rattle.igvm_outside.proofs.Composed.{only_reads_more}
use Rattle.igvm_outside.proofs.laws.reads_compose.Goals as goal

pub returns : goal.returns
returns g c = only_reads_more g.S.Shelf
