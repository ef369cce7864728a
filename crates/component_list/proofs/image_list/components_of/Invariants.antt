use Rattle.igvm_image.specs.Headers.{placed_headers}
use Rattle.component_list.proofs.ImageLists.{Listing}
use Rattle.component_list.proofs.image_list.components_of.Given as goal

abbrev pub invariant-headers : goal.invariant-headers
invariant-headers l = Listing (placed_headers l.view) l.placed-iterator l.parts.items
