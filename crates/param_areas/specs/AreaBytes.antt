-- The areas of a load as they are: their bytes in a row, and which of them are taken.
use Rattle.std.specs.Prelude.{ℕ, ◌+◌, List, [], ◌∷◌, ◌++◌, Bool, true, false, Option, Some, None, length, take, drop, find, sum_by, ◌==◌, if◌then◌else◌, ◌≡◌}
use Rattle.std.specs.Option.{option_map}

-- an area: its index, its bytes as they stand, and whether it is taken
pub record Area : Type 0 where
  pub index : ℕ
  pub bytes : List ℕ
  pub taken : Bool

-- the bytes that are reserved for all areas together, and the areas in the order of their
-- declarations
pub record Space : Type 0 where
  pub total : ℕ
  pub areas : List Area

-- the area of an index
abbrev pub area_at : List Area → ℕ → Option Area
area_at areas area = find (λ a. a.index == area) areas

-- it is not declared
abbrev pub IsNew : List Area → ℕ → Type 0
IsNew areas area = area_at areas area ≡ None

-- it is declared and not taken
abbrev pub IsOpen : List Area → ℕ → Type 0
IsOpen areas area = option_map (λ a. a.taken) (area_at areas area) ≡ Some false

-- the bytes of an area, where there is one
abbrev pub bytes_in : Option Area → List ℕ
bytes_in None = []
bytes_in (Some area) = area.bytes

-- the bytes of the area of an index
abbrev pub bytes_of : List Area → ℕ → List ℕ
bytes_of areas area = bytes_in (area_at areas area)

-- the bytes of all areas together
abbrev pub size_of_all : List Area → ℕ
size_of_all areas = sum_by (λ a. length a.bytes) areas

-- the first element that passes is changed, and all others stay
abbrev pub change_first : {X : Type 0} → (X → Bool) → (X → X) → List X → List X
change_first test change [] = []
change_first test change (x ∷ xs) =
    if test x then change x ∷ xs else x ∷ change_first test change xs

-- bytes with a value in place of those from a place on
unfoldable pub written : ℕ → List ℕ → List ℕ → List ℕ
written place value bytes = take place bytes ++ value ++ drop (place + length value) bytes

-- an area with a value in it
abbrev pub with_value : ℕ → List ℕ → Area → Area
with_value place value area = record area { bytes = written place value area.bytes }

-- an area that is taken
abbrev pub with_taken : Area → Area
with_taken area = record area { taken = true }

-- the area of an index is changed, and all others stay
abbrev pub with_change : (Area → Area) → ℕ → Space → Space
with_change change area space =
    record space { areas = change_first (λ a. a.index == area) change space.areas }

-- one more area, behind the others
abbrev pub with_area : Space → ℕ → List ℕ → Space
with_area space area bytes =
    let added : Area = record { index = area; bytes = bytes; taken = false } in
    record space { areas = space.areas ++ added ∷ [] }
