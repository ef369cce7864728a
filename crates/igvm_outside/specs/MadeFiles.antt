-- Files that are made as they are read: `made-N` has N bytes.
use Rattle.std.specs.Prelude.{ℕ, ◌≡◌, ◌≢◌, ◌^◌, ◌<◌, List, ◌++◌, length, take, slice_index, codes, Option, None, Some, refl}
use Rattle.std.specs.List.{flat_map, range_with_len}
use Rattle.std.specs.Int.{to_le_bytes, w64}
use Rattle.std.specs.Str.Parse.{IsNumeral, digits_value}
use Rattle.std.specs.Coded.{Coded, code_by, coded×, coded_ℕ, coded_option}
use Rattle.igvm_outside.specs.Files.{State, Reading, untold}
use Rattle.igvm_outside.specs.MemShelfView.{MemShelfView, mem_shelf_code}

-- decimal digits without a leading zero, of a number below 2^32
pub record IsPlainNumber (digits : List ℕ) (number : ℕ) : Type 0 where
  pub numeral : IsNumeral 10 digits
  pub plain : 1 < length digits → slice_index digits 0 ≢ 48
  pub value : digits_value 10 digits ≡ number
  pub small : number < 2 ^ 32

-- the name of a file that is made, of this many bytes
pub record IsMade (name : List ℕ) (size : ℕ) : Type 0 where
  pub digits : List ℕ
  pub split : name ≡ codes "made-" ++ digits
  pub number : IsPlainNumber digits size

-- the numbers 0, 1, 2, .. of eight bytes each, the lowest first, joined and cut at the size
abbrev pub made_bytes : ℕ → List ℕ
made_bytes size = take size (flat_map (λ number. to_le_bytes w64 number) (range_with_len 0 size))

-- What contracts see: the shelf below, the size and place of a made file where one is open, and the bytes given since
-- the last opening.
pub record Making : Type 0 where
  pub inner : MemShelfView
  pub made : Option (ℕ × ℕ)
  pub given : ℕ

-- the code of each part, by which proofs tell two values apart
abbrev pub making_code : Coded Making
making_code =
    code_by (MemShelfView × (Option (ℕ × ℕ) × ℕ))
    (coded× mem_shelf_code (coded× (coded_option (coded× coded_ℕ coded_ℕ)) coded_ℕ))
    (λ m. (m.inner, (m.made, m.given))) (λ p. record { inner = p.0; made = p.1.0; given = p.1.1 })
    (λ _. refl)

-- what is open, by whether a made file is, which is not told
abbrev pub state_with : State → Option (ℕ × ℕ) → State
state_with inner None = untold inner
state_with inner (Some at) = Reading None

-- what is open
abbrev pub making_state : Making → State
making_state m = state_with m.inner.state m.made
