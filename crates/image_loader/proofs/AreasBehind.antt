-- What the areas behind some headers are, by what these declare and insert.
use Rattle.std.proofs.Common.{◌≡◌, ◌↔◌, ℕ, ◌*◌, ◌/◌, List, [], length, false, Option, Some, None, refl, ap, ◌∙◌, arith, sum_by, option_map}
use Rattle.std.specs.List.{list_any}
use Rattle.igvm_headers.specs.declared.header.Header.{Header}
use Rattle.igvm_image.specs.Areas.{area_size, areas_of}
use Rattle.igvm_image.specs.Data.{Data}
use Rattle.igvm_image.specs.Headers.{PlacedHeader}
use Rattle.igvm_image.specs.RulesInWords.{declared_bytes}
use Rattle.igvm_image.specs.declared.area_table.AreaEntry.{AreaEntry}
use Rattle.directive_rules.specs.DirectiveFacts.{inserts}
use Rattle.directive_rules.specs.FirstMisfit.{headers_in}
use Rattle.param_areas.specs.AreaBytes.{Space, IsNew, IsOpen, bytes_of, size_of_all}
use Rattle.param_areas.specs.AreaHistory.{Told, Shows, told_at, told_size}
use Rattle.param_areas.specs.Calls.{AreInOrder, Call, content_of, is_taken, told_by, told_of}
use Rattle.image_loader.specs.FilledAreas.{calls_of}
use Rattle.image_loader.specs.Fitting.{AreasAreBehind}
use Rattle.image_loader.specs.Loads.{Load}
use Rattle.image_loader.proofs.AreaCalls.{AreWhole, content_size, data_bytes, taken_is_inserted, told_count, told_total}

-- what calls tell of an area
abbrev pub CallsTell : Type 0
CallsTell = (calls : List Call) (area : ℕ) → AreInOrder [] calls
    → told_at (told_by calls) area ≡ option_map (told_of area calls) (content_of area calls)

-- what areas that were told something are
pub record ToldIsShown : Type 0 where
  pub opened : (space : Space) (told : List Told) (area : ℕ) → Shows space told
      → IsOpen space.areas area ↔ (option_map (λ t. t.taken) (told_at told area) ≡ Some false)
  pub size : (space : Space) (told : List Told) (area : ℕ) → Shows space told
      → length (bytes_of space.areas area) ≡ told_size (told_at told area)
  pub new : (space : Space) (told : List Told) (area : ℕ) → Shows space told
      → told_at told area ≡ None → IsNew space.areas area
  pub count : (space : Space) (told : List Told) → Shows space told → length space.areas ≡ length told
  pub all : (space : Space) (told : List Told) → Shows space told
      → size_of_all space.areas ≡ sum_by (λ t. told_size (Some t)) told

-- The areas that these entries declare, behind these headers: each is open until one of them inserts it, and has its
-- size, which is that of whole pages.
pub record AreasHave (space : Space) (entries : List AreaEntry) (before : List Header) : Type 0 where
  pub opened : (area bytes : ℕ) → area_size entries area ≡ Some bytes → list_any (inserts area) before ≡ false
      → IsOpen space.areas area
  pub size : (area bytes : ℕ) → area_size entries area ≡ Some bytes → length (bytes_of space.areas area) ≡ bytes
  pub whole : (area bytes : ℕ) → area_size entries area ≡ Some bytes → bytes ≡ 4096 * (bytes / 4096)
  pub new : (area : ℕ) → area_size entries area ≡ None → IsNew space.areas area
  pub count : length space.areas ≡ length entries
  pub total : size_of_all space.areas ≡ sum_by declared_bytes before

-- a content that is declared and not taken is open
found_open : (area bytes : ℕ) (calls : List Call) (found : Option Data) → option_map data_bytes found ≡ Some bytes
    → is_taken area calls ≡ false → option_map (λ t. t.taken) (option_map (told_of area calls) found) ≡ Some false
found_open area bytes calls None is kept = cc
found_open area bytes calls (Some content) is kept = ap Some kept

found_size : (area bytes : ℕ) (calls : List Call) (found : Option Data) → option_map data_bytes found ≡ Some bytes
    → told_size (option_map (told_of area calls) found) ≡ bytes
found_size area bytes calls None is = cc
found_size area bytes calls (Some content) is = cc

found_whole : (bytes : ℕ) (found : Option Data) → option_map data_bytes found ≡ Some bytes
    → bytes ≡ 4096 * (bytes / 4096)
found_whole bytes None is = cc
found_whole bytes (Some content) is =
    let same : 4096 * content.pages ≡ bytes = cc in
    omega arith

found_none : (area : ℕ) (calls : List Call) (found : Option Data) → option_map data_bytes found ≡ None
    → option_map (told_of area calls) found ≡ None
found_none area calls None is = refl
found_none area calls (Some content) is = cc

-- such are the areas behind some headers
pub areas_have : CallsTell → ToldIsShown → (load : Load) (before : List PlacedHeader) (space : Space) → AreWhole before
    → AreasAreBehind load before space → AreasHave space (areas_of (headers_in before)) (headers_in before)
areas_have tell shown load before space whole behind =
    let calls : List Call = calls_of load.host before in
    let told : List Told = told_by calls in
    let tells : (area : ℕ) → told_at told area ≡ option_map (told_of area calls) (content_of area calls) =
    λ area. tell calls area behind.order in
    let entries : List AreaEntry = areas_of (headers_in before) in
    let sizes : (area : ℕ) → option_map data_bytes (content_of area calls) ≡ area_size entries area =
    λ area. content_size load.host area before whole in
    record {
      opened = λ area bytes is kept.
          (shown.opened space told area behind.told).1
          (ap (option_map (λ (t : Told). t.taken)) (tells area)
          ∙ found_open area bytes calls (content_of area calls) (sizes area ∙ is)
          (taken_is_inserted load.host area before ∙ kept));
      size = λ area bytes is.
          shown.size space told area behind.told
          ∙ ap told_size (tells area)
          ∙ found_size area bytes calls (content_of area calls) (sizes area ∙ is);
      whole = λ area bytes is. found_whole bytes (content_of area calls) (sizes area ∙ is);
      new = λ area is.
          shown.new space told area behind.told
          (tells area ∙ found_none area calls (content_of area calls) (sizes area ∙ is));
      count = shown.count space told behind.told ∙ told_count load.host before whole;
      total = shown.all space told behind.told ∙ told_total load.host before whole;
    }
