use Rattle.std.proofs.Common.{◌≡◌}
use Rattle.std.specs.List.{flat_map, range_with_len}
use Rattle.igvm_image.specs.Data.{data_page}
use Rattle.component_list.proofs.image_list.data_bytes.Given as goal

abbrev pub invariant-pages : goal.invariant-pages
invariant-pages l = l.bytes.items ≡ flat_map (data_page l.view) (range_with_len 0 l.k)
