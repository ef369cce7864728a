-- What a shelf of files holds and what is open in it. A name is a list of bytes.
use Rattle.std.specs.Prelude.{None, ℕ, ◌≤◌, List, [], ◌++◌, Option, IfSome, IsSome}
use Rattle.std.specs.Option.{option_map, unwrap_or}
use Rattle.std.specs.Ordering.{nat_cmp}
use Rattle.std.specs.Cmp.Lexicographic.{slice_cmp}
use Rattle.std.specs.FinMap as map

-- what each file holds
abbrev pub Files : Type 0
Files = map.FinMap (slice_cmp nat_cmp) (List ℕ)

-- What is open. A shelf that doesn't tell its files has neither name nor place here.
pub data State : Type 0 where
  Nothing : State
  Reading : (at : Option (List ℕ × ℕ)) → State
  Writing : (to : Option (List ℕ)) → State

-- a file of this name is read, and this many of its bytes have been given
abbrev pub reading : Option Files → List ℕ → ℕ → State
reading told name place = Reading (option_map (λ _. (name, place)) told)

-- a file of this name is written
abbrev pub writing : Option Files → List ℕ → State
writing told name = Writing (option_map (λ _. name) told)

-- the same without name and place
abbrev pub untold : State → State
untold Nothing = Nothing
untold (Reading at) = Reading None
untold (Writing to) = Writing None

-- nothing is being written
abbrev pub IsUnwritten : State → Type 0
IsUnwritten Nothing = Unit {0}
IsUnwritten (Reading at) = Unit {0}
IsUnwritten (Writing to) = ⊥

-- the bytes of a file, and none where there is no such file
abbrev pub content : Files → List ℕ → List ℕ
content files name = unwrap_or (map.get files name) []

-- where told, the file is there
abbrev pub IsThere : Option Files → List ℕ → Type 0
IsThere told name = IfSome told (λ files. IsSome (map.get files name))

-- the same files, but that this one holds these bytes
abbrev pub with_file : Option Files → List ℕ → List ℕ → Option Files
with_file told name bytes = option_map (λ files. map.insert files name bytes) told

-- the same files, but that this one has more bytes at its end
abbrev pub with_more : Option Files → List ℕ → List ℕ → Option Files
with_more told name bytes =
    option_map (λ files. map.insert files name (content files name ++ bytes)) told

-- no count falls, whatever the name
abbrev pub NeverFalls : (List ℕ → ℕ) → (List ℕ → ℕ) → Type 0
NeverFalls before now = (name : List ℕ) → before name ≤ now name
