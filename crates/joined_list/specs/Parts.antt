-- The three parts of a list: up to its last platform; up to the last header of initialization behind it; the rest.
use Rattle.std.specs.Prelude.{List, [], ◌∷◌, ◌==◌, ◌||◌, Bool, true, false, if◌then◌else◌}
use Rattle.std.specs.List.{list_any}
use Rattle.igvm_headers.specs.declared.header.Header.{Header}
use Rattle.igvm_headers.specs.declared.header.Header.TheVariants.{Platform, Policy, Carried}
use Rattle.component_list.specs.declared.component.Component.{Component}

-- up to the last component whose header passes a test
unfoldable pub up_to_last : (Header → Bool) → List Component → List Component
up_to_last test [] = []
up_to_last test (c ∷ cs) =
    if test c.header || list_any (λ d. test d.header) cs then c ∷ up_to_last test cs else []

-- what is behind it
unfoldable pub past_last : (Header → Bool) → List Component → List Component
past_last test [] = []
past_last test (c ∷ cs) =
    if test c.header || list_any (λ d. test d.header) cs then past_last test cs else c ∷ cs

-- it declares a platform
abbrev pub is_platform : Header → Bool
is_platform (Platform mask highest_vtl kind version shared_gpa) = true
is_platform _ = false

-- it is of a type from 0x101 to 0x103 (`igvm_defs`, IgvmVariableHeaderType)
abbrev pub is_initial : Header → Bool
is_initial (Policy policy mask) = true
is_initial (Carried kind length) = (kind == 0x102) || (kind == 0x103)
is_initial _ = false

abbrev pub first_part : List Component → List Component
first_part parts = up_to_last is_platform parts

abbrev pub behind_first : List Component → List Component
behind_first parts = past_last is_platform parts

abbrev pub second_part : List Component → List Component
second_part parts = up_to_last is_initial (behind_first parts)

abbrev pub third_part : List Component → List Component
third_part parts = past_last is_initial (behind_first parts)
