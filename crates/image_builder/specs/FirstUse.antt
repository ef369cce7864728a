-- Which component is the first with a content, in words.
use Rattle.std.specs.Prelude.{◌≡◌, ◌≢◌, ◌<◌, ℕ, List, Option, Some, None, option_and_then}
use Rattle.std.specs.List.{slice_get}
use Rattle.component_list.specs.declared.component.Component.{Component}
use Rattle.component_list.specs.declared.component.Content.{Content}
use Rattle.component_list.specs.declared.component.Content.TheVariants.{Nothing, Zero, Bytes}

-- the bytes of a content, where it has any
abbrev pub bytes_in : Content → Option (List ℕ)
bytes_in Nothing = None
bytes_in Zero = None
bytes_in (Bytes bytes) = Some bytes

-- the bytes of the component at a place, where one stands there and has any
abbrev pub bytes_at : List Component → ℕ → Option (List ℕ)
bytes_at parts place = option_and_then (λ c. bytes_in c.content) (slice_get parts place)

-- no component has these bytes
abbrev pub IsNew : List Component → List ℕ → Type 0
IsNew parts bytes = (k : ℕ) → bytes_at parts k ≢ Some bytes

-- the component at a place is the first with these bytes
pub record IsFirst (parts : List Component) (bytes : List ℕ) (place : ℕ) : Type 0 where
  pub has : bytes_at parts place ≡ Some bytes
  pub before : (k : ℕ) → k < place → bytes_at parts k ≢ Some bytes
