use Rattle.std.proofs.Common.{◌≡◌, take}
use Rattle.std.specs.Prelude.{sum_by}
use Rattle.image_builder.specs.ContentIndex.{saturated}
use Rattle.image_builder.specs.Layout.{spelled_size}
use Rattle.image_builder.proofs.sizes.section_size.Given as goal

abbrev pub invariant-parts : goal.invariant-parts
invariant-parts l = l.size ≡ saturated (sum_by spelled_size (take l.component-index l.parts))
