use Rattle.igvm_outside.proofs.Composed.{only_writes_more}
use Rattle.igvm_outside.proofs.laws.writes_compose.Goals as goal

pub returns : goal.returns
returns g c = only_writes_more g.S.Shelf
