-- Areas that take what a header tells them are behind it.
use Rattle.std.proofs.Common.{◌≡◌, ◌↔◌, ℕ, ◌+◌, ◌≤◌, List, [], ◌∷◌, ◌++◌, length, false, Option, Some, None, IsSome, refl, sym, ap, ◌∙◌, subst, append-nil, option_map}
use Rattle.std.specs.List.{cons_option}
use Rattle.igvm_headers.specs.declared.header.Header.{Header}
use Rattle.igvm_headers.specs.declared.header.Header.TheVariants.{Area, Insert, Param}
use Rattle.host_set.specs.Hosts.{HostValues, value_of}
use Rattle.igvm_image.specs.Data.{Data}
use Rattle.igvm_image.specs.Headers.{PlacedHeader}
use Rattle.param_areas.specs.AreaBytes.{Space, IsOpen, bytes_of, with_area, with_change, with_taken, with_value}
use Rattle.param_areas.specs.AreaHistory.{Told, Shows, content_bytes, declared, told_at, told_change, told_taken, told_value}
use Rattle.param_areas.specs.Calls.{AreInOrder, Call, Declare, Set, Take, content_of, told_by, told_call, told_of}
use Rattle.image_loader.specs.FilledAreas.{calls_of, header_call}
use Rattle.image_loader.specs.Fitting.{AreasAreBehind, AreasFit, space_after, space_by}
use Rattle.image_loader.specs.Loads.{Load}
use Rattle.image_loader.proofs.AreaCalls.{calls_more, order_declare, order_set, order_take}
use Rattle.image_loader.proofs.AreasBehind.{CallsTell}

-- what areas show that take one more call
pub record MoreIsShown : Type 0 where
  pub step : (calls : List Call) (c : Call) → told_by (calls ++ c ∷ []) ≡ told_call (told_by calls) c
  pub opened : (space : Space) (told : List Told) (area : ℕ) → Shows space told
      → IsOpen space.areas area ↔ (option_map (λ t. t.taken) (told_at told area) ≡ Some false)
  pub added : (space : Space) (told : List Told) (area : ℕ) (content : Data) → Shows space told
      → Shows (with_area space area (content_bytes content)) (told ++ declared area content ∷ [])
  pub set : (space : Space) (told : List Told) (area place : ℕ) (value : List ℕ) → Shows space told
      → place + length value ≤ length (bytes_of space.areas area)
      → Shows (with_change (with_value place value) area space) (told_change (told_value place value) area told)
  pub taken : (space : Space) (told : List Told) (area : ℕ) → Shows space told
      → Shows (with_change with_taken area space) (told_change told_taken area told)

-- these calls are behind an area space
record CallsAreBehind (calls : List Call) (space : Space) : Type 0 where
  pub told : Shows space (told_by calls)
  pub order : AreInOrder [] calls

some_declared : (area : ℕ) (calls : List Call) (found : Option Data)
    → option_map (λ t. t.taken) (option_map (told_of area calls) found) ≡ Some false → IsSome found
some_declared area calls None is = cc
some_declared area calls (Some content) is = refl

-- an area that is open was declared
open_declared : CallsTell → MoreIsShown → (calls : List Call) (space : Space) (area : ℕ) → CallsAreBehind calls space
    → IsOpen space.areas area → IsSome (content_of area calls)
open_declared tell shown calls space area behind is =
    some_declared area calls (content_of area calls)
    (sym (ap (option_map (λ (t : Told). t.taken)) (tell calls area behind.order))
    ∙ (shown.opened space (told_by calls) area behind.told).0 is)

-- what a header tells them, by its type
moved_by : CallsTell → MoreIsShown → (host : HostValues) (calls : List Call) (space : Space) (h : Header)
    → (content : Data) → CallsAreBehind calls space → AreasFit host space h content
    → CallsAreBehind (calls ++ cons_option (header_call host h content) []) (space_by host h content space)
moved_by tell shown host calls space (Area bytes area offset) content behind fits = record {
  told = subst (Shows (with_area space area (content_bytes content))) (sym (shown.step calls (Declare area content)))
      (shown.added space (told_by calls) area content behind.told);
  order = order_declare [] calls area content behind.order;
}
moved_by tell shown host calls space (Param kind area byte_offset) content behind fits = record {
  told = subst (Shows (with_change (with_value byte_offset (value_of host kind)) area space))
      (sym (shown.step calls (Set area byte_offset (value_of host kind))))
      (shown.set space (told_by calls) area byte_offset (value_of host kind) behind.told fits.within);
  order = order_set calls area byte_offset (value_of host kind) behind.order
      (open_declared tell shown calls space area behind fits.opened);
}
moved_by tell shown host calls space (Insert gpa mask area) content behind fits = record {
  told = subst (Shows (with_change with_taken area space)) (sym (shown.step calls (Take area)))
      (shown.taken space (told_by calls) area behind.told);
  order = order_take calls area behind.order (open_declared tell shown calls space area behind fits);
}
moved_by tell shown host calls space _ content behind fits =
    subst (λ cs. CallsAreBehind cs space) (sym (append-nil calls)) behind

-- the areas are behind one header more
pub areas_moved : CallsTell → MoreIsShown → (load : Load) (before : List PlacedHeader) (p : PlacedHeader)
    → (space : Space) → AreasAreBehind load before space → AreasFit load.host space p.header p.content
    → AreasAreBehind load (before ++ p ∷ []) (space_after load.host p space)
unfolding space_after
areas_moved tell shown load before p space behind fits =
    let old : CallsAreBehind (calls_of load.host before) space = record { told = behind.told; order = behind.order } in
    let new = subst (λ cs. CallsAreBehind cs (space_by load.host p.header p.content space))
    (sym (calls_more load.host before p))
    (moved_by tell shown load.host (calls_of load.host before) space p.header p.content old fits) in
    record { told = new.told; order = new.order }
