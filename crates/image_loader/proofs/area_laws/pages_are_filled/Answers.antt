use Rattle.image_loader.proofs.FilledPages.{header_filled}
use Rattle.image_loader.proofs.area_laws.pages_are_filled.Goals as goal

pub returns : goal.returns
returns c = header_filled c.told_is_shown.ensures.page c.last_value_stands.ensures.byte
