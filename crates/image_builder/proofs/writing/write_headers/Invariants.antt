use Rattle.std.proofs.Common.{◌≡◌, ◌++◌, take}
use Rattle.std.specs.List.{flat_map}
use Rattle.image_builder.specs.Layout.{data_start, kept_contents, written}
use Rattle.image_builder.specs.Plans.{in_version}
use Rattle.image_builder.proofs.writing.write_headers.Given as goal

abbrev pub invariant-parts : goal.invariant-parts
invariant-parts l = l.image.items ≡ l.fn.image.items ++ flat_map (written (data_start (in_version l.plan.version l.parts)) (kept_contents l.parts)) (take l.place l.parts)
