-- What the headers that count for a platform come to.
use Rattle.std.specs.Prelude.{◌≡◌, ◌≤◌, List, sum_by, count_by, Option}
use Rattle.std.specs.List.{filter_map}
use Rattle.std.specs.Option.{option_to_list}
use Rattle.igvm_image.specs.Areas.{placed_pages}
use Rattle.igvm_image.specs.Headers.{PlacedHeader}
use Rattle.igvm_image.specs.RulesInWords.{declared_bytes}
use Rattle.igvm_image.specs.declared.area_table.AreaEntry.{AreaEntry}
use Rattle.directive_rules.specs.DirectiveFacts.{is_context, wanted_by}
use Rattle.directive_rules.specs.FirstMisfit.{headers_in}
use Rattle.directive_rules.specs.Limits.{area_bytes_limit, placed_limit, context_limit}
use Rattle.directive_rules.specs.declared.misfit.IdWanted.{IdWanted}
use Rattle.directive_rules.specs.declared.misfit.Checked.{Checked}

-- the digest that a header of a file wants
abbrev pub wanted_of : PlacedHeader → Option IdWanted
wanted_of p = wanted_by p.index p.header

-- how many pages and contexts they place, how many bytes their areas have, and the ID blocks among them
pub record Counts (areas : List AreaEntry) (placed : List PlacedHeader) (c : Checked) : Type 0 where
  pub pages : c.pages ≡ sum_by (placed_pages areas) (headers_in placed)
  pub contexts : c.contexts ≡ count_by is_context (headers_in placed)
  pub area_bytes : c.area_bytes ≡ sum_by declared_bytes (headers_in placed)
  pub ids : option_to_list c.id ≡ filter_map wanted_of placed

-- none passes its limit
pub record IsWithinLimits (c : Checked) : Type 0 where
  pub pages : c.pages ≤ placed_limit
  pub contexts : c.contexts ≤ context_limit
  pub area_bytes : c.area_bytes ≤ area_bytes_limit
