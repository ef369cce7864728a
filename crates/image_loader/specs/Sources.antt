-- What a load takes from, as contracts see it.
use Rattle.image_loader.specs.Loads.{Load, load_of}
use Rattle.image_loader.specs.declared.source.LoadSource.{LoadSource}

-- the load from a source
abbrev pub load_in : LoadSource → Load
load_in source = load_of source.view.now source.platform source.options source.host.now
