-- What a host description says, or the first refusal of it.
use Rattle.std.specs.Prelude.{ℕ, ◌&&◌, Bool, if◌then◌else◌, codes, List, [], ◌∷◌, map, is_some, ok_or, Option, Some, None, Result, Ok, Err}
use Rattle.igvm_headers.specs.declared.param_kind.ParamKind.{ParamKind}
use Rattle.igvm_headers.specs.ParamKinds.{param_text, param_kinds, param_number}
use Rattle.serde_json.specs.Data.{Data, Items, no_items, item}
use Rattle.serde_json.specs.Events.{items_len}
use Rattle.serde_json.specs.Find.{get, as_array, as_object}
use Rattle.json_forms.specs.Forms.{address, has_only, or_default, required}
use Rattle.json_forms.specs.Texts.{json_of}
use Rattle.host_set.specs.declared.range.PlanRange.{PlanRange}
use Rattle.host_set.specs.declared.refusal.HostPart.{HostPart}
use Rattle.host_set.specs.declared.refusal.HostPart.TheVariants as part
use Rattle.host_set.specs.declared.refusal.HostRefusal.{HostRefusal}
use Rattle.host_set.specs.declared.refusal.HostRefusal.TheVariants as refusal
use Rattle.host_set.specs.HexBytes.{bytes_of}
use Rattle.host_set.specs.Hosts.{HostValues, no_values}
use Rattle.host_set.specs.Plans.{placed_count, unless_all}

-- what is read, and then what that leads to; the first refusal stands
infixl 10 ◌>>=◌
abbrev pub ◌>>=◌ : {A B : Type 0} → Result A HostRefusal → (A → Result B HostRefusal) → Result B HostRefusal
Ok x >>= f = f x
Err e >>= f = Err e

-- the refusal of an item of a part
abbrev pub field : HostPart → ℕ → HostRefusal
field part number = refusal.Field part number

-- ---- memory

-- a range from the addresses at its two keys
abbrev pub range_from : Option ℕ → Option ℕ → Option PlanRange
range_from (Some start) (Some bytes) = Some (record { start = start; bytes = bytes })
range_from (Some start) None = None
range_from None bytes = None

-- an object with the addresses `start` and `bytes`, and no other key
unfoldable pub range_of : Data → Option PlanRange
range_of json =
    if has_only (codes "start" ∷ codes "bytes" ∷ []) json
    then range_from (required address (codes "start") json) (required address (codes "bytes") json) else None

-- a range before the others; none ends them
abbrev pub and_then : Option PlanRange → List PlanRange → List PlanRange
and_then None ranges = []
and_then (Some range) ranges = range ∷ ranges

-- the ranges from the front on, up to the first entry that is none
abbrev pub front_ranges : Items → List PlanRange
front_ranges no_items = []
front_ranges (item json entries) = and_then (range_of json) (front_ranges entries)

-- the ranges, unless one is bad
abbrev pub unless_bad : List PlanRange → Option ℕ → Result (List PlanRange) HostRefusal
unless_bad ranges None = Ok ranges
unless_bad ranges (Some bad) = Err (field part.Memory bad)

-- the plan of so many entries, of which the first are these ranges
unfoldable pub plan_of : ℕ → List PlanRange → Result (List PlanRange) HostRefusal
plan_of entries ranges = unless_bad ranges (unless_all entries (placed_count ranges))

-- the plan of an array
abbrev pub plan_in : Option Items → Result (List PlanRange) HostRefusal
plan_in None = Err (field part.Memory 0)
plan_in (Some entries) = plan_of (items_len entries) (front_ranges entries)

-- the plan that stands at `memory`
abbrev pub memory_of : Data → Result (List PlanRange) HostRefusal
memory_of json = plan_in (required as_array (codes "memory") json)

-- ---- values

-- the bytes of a value, which are none where it is missing
abbrev pub bytes_at : ℕ → HostRefusal → Option Data → Result (List ℕ) HostRefusal
bytes_at limit refused found = ok_or (or_default (bytes_of limit) [] found) refused

-- the value of a parameter
abbrev pub param_value : Data → ParamKind → Result (List ℕ) HostRefusal
param_value json kind =
    bytes_at 1048576 (field part.Values (param_number kind)) (get (param_text kind) json)

-- all that are read, or the first refusal
abbrev pub collected : List (Result (List ℕ) HostRefusal) → Result (List (List ℕ)) HostRefusal
collected [] = Ok []
collected (value ∷ values) = do
  first ← value
  rest ← collected values
  Ok (first ∷ rest)

-- the values of all parameters, in the order of their numbers
unfoldable pub param_values : Data → Result (List (List ℕ)) HostRefusal
param_values json = collected (map (param_value json) param_kinds)

-- the values of an object that has no other keys
abbrev pub known_values : Data → Result (List (List ℕ)) HostRefusal
known_values json = do
  values ← param_values json
  if has_only (map param_text param_kinds) json then Ok values else Err (field part.Values 10)

-- the values of what stands at `values`
abbrev pub values_in : Option Data → Result (List (List ℕ)) HostRefusal
values_in None = Ok no_values.values
values_in (Some json) =
    if is_some (as_object json) then known_values json else Err (field part.Values 0)

-- the values that stand at `values`
abbrev pub values_of : Data → Result (List (List ℕ)) HostRefusal
values_of json = values_in (get (codes "values") json)

-- ---- secrets and cpuid

-- what pages begin with, at a key of an object
abbrev pub page_bytes : List ℕ → HostPart → Data → Result (List ℕ) HostRefusal
page_bytes key part json = bytes_at 4096 (field part 0) (get key json)

-- ---- the whole

-- an object with `memory`, and no other keys than these four
abbrev pub is_description : Data → Bool
is_description json =
    has_only (codes "memory" ∷ codes "values" ∷ codes "secrets" ∷ codes "cpuid" ∷ []) json
    && is_some (get (codes "memory") json)

-- the parts in their order
abbrev pub parts_of : Data → Result (List PlanRange × HostValues) HostRefusal
parts_of json = do
  plan ← memory_of json
  values ← values_of json
  secrets ← page_bytes (codes "secrets") part.Secrets json
  cpuid ← page_bytes (codes "cpuid") part.Cpuid json
  Ok (plan, record { values = values; secrets = secrets; cpuid = cpuid })

-- the plan and the values that are described
unfoldable pub host_from : Data → Result (List PlanRange × HostValues) HostRefusal
host_from json = if is_description json then parts_of json else Err (field part.Top 0)

-- the plan and the values of a text
unfoldable pub host_of : List ℕ → Result (List PlanRange × HostValues) HostRefusal
host_of bytes = ok_or (json_of bytes) refusal.NotJson >>= host_from
