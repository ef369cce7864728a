-- What becomes of a component list that gives no components, as the code keeps it.
use Rattle.std.specs.Prelude.{◌≡◌}
use Rattle.component_list.specs.declared.refusal.ListRefusal.{ListRefusal}
use Rattle.component_list.specs.declared.refusal.ListRefusal.TheVariants as reading
use Rattle.component_list.specs.declared.refusal.ExpandRefusal.{ExpandRefusal}
use Rattle.component_list.specs.declared.refusal.ExpandRefusal.TheVariants as expand
use Rattle.igvm_jobs.specs.declared.refusal.Refusal.{Refusal}
use Rattle.igvm_jobs.specs.declared.refusal.Refusal.TheVariants.{Shelf, Memory}
use Rattle.igvm_jobs.specs.ListFiles.{list_refused, expand_refused}
use Rattle.igvm_jobs.specs.Refusals.{Refuses}

-- of a list that is not read
abbrev pub IsOfList : ListRefusal → Refusal → Type 0
IsOfList reading.Memory refusal = refusal ≡ Memory
IsOfList e refusal = Refuses (list_refused e) refusal

-- of a list that is not expanded
abbrev pub IsOfExpansion : ExpandRefusal → Refusal → Type 0
IsOfExpansion (expand.Read item) refusal = refusal ≡ Shelf
IsOfExpansion expand.Memory refusal = refusal ≡ Memory
IsOfExpansion e refusal = Refuses (expand_refused e) refusal
