-- Forms of values in JSON: addresses, numbers, objects whose keys are known, and the values at their keys.
use Rattle.std.specs.Prelude.{ℕ, ◌&&◌, nat_lt, nat_le, bytes_eq, Bool, true, false, if◌then◌else◌, codes, List, length, take, drop, Option, Some, None, option_and_then}
use Rattle.std.specs.Char.{is_digit}
use Rattle.std.specs.List.{list_all, list_any}
use Rattle.std.specs.Str.Parse.{digits_value}
use Rattle.serde_json.specs.Data.{Data, Members, no_members, member}
use Rattle.serde_json.specs.Find.{get, as_str, as_number, as_object, as_u64}

-- ---- addresses

-- the number that hexadecimal digits of either case write
unfoldable pub number_of : List ℕ → Option ℕ
number_of digits =
    if list_all (λ c. is_digit c 16) digits then Some (digits_value 16 digits) else None

-- the number that a text of `0x` and 1 to 16 hexadecimal digits writes
unfoldable pub address_of : List ℕ → Option ℕ
address_of text =
    if bytes_eq (codes "0x") (take 2 text) && nat_lt 2 (length text) && nat_le (length text) 18
    then number_of (drop 2 text) else None

-- an address
abbrev pub address : Data → Option ℕ
address json = option_and_then address_of (as_str json)

-- ---- numbers

-- a number below a bound
abbrev pub below : ℕ → ℕ → Option ℕ
below bound n = if nat_lt n bound then Some n else None

-- a number written without sign, fraction and exponent, below a bound
abbrev pub number_below : ℕ → Data → Option ℕ
number_below bound json = option_and_then (below bound) (option_and_then as_u64 (as_number json))

-- numbers of 8, 16 and 32 bits
abbrev pub byte : Data → Option ℕ
byte json = number_below 256 json

abbrev pub short : Data → Option ℕ
short json = number_below 65536 json

abbrev pub word : Data → Option ℕ
word json = number_below 4294967296 json

-- ---- keys

-- a key is one of these names
abbrev pub is_among : List (List ℕ) → List ℕ → Bool
is_among names key = list_any (λ name. bytes_eq name key) names

-- each key is one of these names
abbrev pub are_among : List (List ℕ) → Members → Bool
are_among names no_members = true
are_among names (member key json members) = is_among names key && are_among names members

-- these are members, and each of their keys is one of these names
abbrev pub only_among : List (List ℕ) → Option Members → Bool
only_among names None = false
only_among names (Some members) = are_among names members

-- it is an object, and each of its keys is one of these names
abbrev pub has_only : List (List ℕ) → Data → Bool
has_only names json = only_among names (as_object json)

-- ---- the value at a key of an object, by its form

-- a key that must be there
abbrev pub required : {A : Type 0} → (Data → Option A) → List ℕ → Data → Option A
required form key json = option_and_then form (get key json)

-- what may be missing, and then has a default
abbrev pub or_default : {A : Type 0} → (Data → Option A) → A → Option Data → Option A
or_default form default None = Some default
or_default form default (Some json) = form json

-- a key that may be missing, and then has a default
abbrev pub optional : {A : Type 0} → (Data → Option A) → A → List ℕ → Data → Option A
optional form default key json = or_default form default (get key json)
