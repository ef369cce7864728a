-- A list of calls, and what it tells of each area.
use Rattle.std.specs.Prelude.{ℕ, List, [], ◌∷◌, ◌++◌, Bool, false, Option, Some, None, find, fold, IsSome, ◌==◌, if◌then◌else◌}
use Rattle.std.specs.List.{filter_map, list_any}
use Rattle.igvm_image.specs.Data.{Data}
use Rattle.param_areas.specs.AreaHistory.{Setting, Told, area_byte, declared, told_change, told_taken, told_value}

-- a call that declares an area, sets a value in one, or takes one
pub data Call : Type 0 where
  Declare : (area : ℕ) (content : Data) → Call
  Set : (area place : ℕ) (value : List ℕ) → Call
  Take : (area : ℕ) → Call

-- what is told after one more call
abbrev pub told_call : List Told → Call → List Told
told_call told (Declare area content) = told ++ declared area content ∷ []
told_call told (Set area place value) = told_change (told_value place value) area told
told_call told (Take area) = told_change told_taken area told

-- what these calls tell, in order
abbrev pub told_by : List Call → List Told
told_by calls = fold told_call [] calls

-- an area is among these
abbrev pub IsKnown : List ℕ → ℕ → Type 0
IsKnown known area = IsSome (find (λ i. i == area) known)

-- values are set in areas that are declared before, and such areas are taken
abbrev pub AreInOrder : List ℕ → List Call → Type 0
AreInOrder known [] = Unit {0}
AreInOrder known (Declare area content ∷ calls) = AreInOrder (area ∷ known) calls
AreInOrder known (Set area place value ∷ calls) = IsKnown known area × AreInOrder known calls
AreInOrder known (Take area ∷ calls) = IsKnown known area × AreInOrder known calls

-- the content that a call declares for an area
abbrev pub content_in : ℕ → Call → Option Data
content_in area (Declare of content) = if of == area then Some content else None
content_in area (Set of place value) = None
content_in area (Take of) = None

-- the value that a call sets in an area
abbrev pub setting_in : ℕ → Call → Option Setting
setting_in area (Declare of content) = None
setting_in area (Set of place value) =
    if of == area then Some (record { place = place; value = value }) else None
setting_in area (Take of) = None

-- the first of a list
abbrev pub first_of_contents : List Data → Option Data
first_of_contents [] = None
first_of_contents (content ∷ contents) = Some content

-- the first content that is declared for an area
abbrev pub content_of : ℕ → List Call → Option Data
content_of area calls = first_of_contents (filter_map (content_in area) calls)

-- the values set in an area, in order
abbrev pub settings_of : ℕ → List Call → List Setting
settings_of area calls = filter_map (setting_in area) calls

-- a call takes an area
abbrev pub takes : ℕ → Call → Bool
takes area (Declare of content) = false
takes area (Set of place value) = false
takes area (Take of) = of == area

-- one of the calls takes it
abbrev pub is_taken : ℕ → List Call → Bool
is_taken area calls = list_any (takes area) calls

-- what an area with this content is told by these calls
abbrev pub told_of : ℕ → List Call → Data → Told
told_of area calls content =
    record {
      index = area;
      content = content;
      settings = settings_of area calls;
      taken = is_taken area calls;
    }

-- the byte of this content under these values, or 0 without content
abbrev pub byte_under : Option Data → List Setting → ℕ → ℕ
byte_under None settings place = 0
byte_under (Some content) settings place = area_byte content settings place
