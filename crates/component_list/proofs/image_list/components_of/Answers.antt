use Rattle.std.proofs.Common.{◌<◌, ◌^◌, length, List, subst}
use Rattle.igvm_image.specs.Headers.{PlacedHeader, placed_headers}
use Rattle.component_list.proofs.ImageLists.{listing_end}
use Rattle.component_list.proofs.ReadHeaders.{WhatIsRead}
use Rattle.component_list.proofs.image_list.components_of.Goals as goal

pub of_valid-requires : goal.of_valid-requires
of_valid-requires c =
    let few : length (placed_headers c.args.view.now) < 2 ^ 32 =
    subst (λ (ps : List PlacedHeader). length ps < 2 ^ 32) c.headers-placed-items.ensures.placed c.headers-placed-items.ensures.few in
    let law : WhatIsRead = record { tail = c.what_is_read.ensures.tail; large = c.what_is_read.ensures.large; carried = c.what_is_read.ensures.carried } in
    (listing_end law c.args.view.now _ _ c.fixed-fixed.ensures.accepted few c.headers.invariant c.in-None.ensures.steps.0).1
