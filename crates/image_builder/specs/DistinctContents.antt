-- The data of a list: the contents of its components, and each of them once.
use Rattle.std.specs.Prelude.{ℕ, ◌+◌, List, [], ◌∷◌, length, Bool, not, filter, bytes_eq, if◌then◌else◌}
use Rattle.std.specs.List.{flat_map}
use Rattle.component_list.specs.declared.component.Component.{Component}
use Rattle.component_list.specs.declared.component.Content.{Content}
use Rattle.component_list.specs.declared.component.Content.TheVariants.{Nothing, Zero, Bytes}

-- what a file holds of a content: its bytes, where it has any
abbrev pub stored : Content → List (List ℕ)
stored Nothing = []
stored Zero = []
stored (Bytes bytes) = bytes ∷ []

-- what a file holds of these components, in order
unfoldable pub contents : List Component → List (List ℕ)
contents parts = flat_map (λ c. stored c.content) parts

-- two contents have another length or another byte
abbrev pub differs : List ℕ → List ℕ → Bool
differs xs ys = not (bytes_eq xs ys)

-- each of these contents once, where it stands first
unfoldable pub distinct : List (List ℕ) → List (List ℕ)
distinct [] = []
distinct (xs ∷ others) = xs ∷ filter (differs xs) (distinct others)

-- how many bytes stand before a content, where these stand one behind the other
unfoldable pub place_of : List ℕ → List (List ℕ) → ℕ
place_of bytes [] = 0
place_of bytes (xs ∷ others) = if differs bytes xs then length xs + place_of bytes others else 0
