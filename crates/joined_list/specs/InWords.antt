-- What the parts of a list and the new numbers are, in words that their definitions don't share.
use Rattle.std.specs.Prelude.{◌≡◌, ℕ, ◌<◌, ◌^◌, ◌⊎◌, ◌++◌, List, [], ◌∷◌, All, Any, Bool, true, false, Some, slice_get}
use Rattle.igvm_headers.specs.declared.header.Header.{Header}
use Rattle.component_list.specs.declared.component.Component.{Component}
use Rattle.joined_list.specs.Parts.{is_initial, is_platform}
use Rattle.joined_list.specs.declared.moves.Move.{Move}

-- ---- parts

-- empty, or its last header passes a test
abbrev pub EndsWith : (Header → Bool) → List Component → Type 0
EndsWith test parts =
    (parts ≡ []) ⊎ ((before : List Component) × (last : Component) × (parts ≡ before ++ last ∷ []) × (test last.header ≡ true))

-- no header of these passes a test
abbrev pub HasNone : (Header → Bool) → List Component → Type 0
HasNone test parts = All (λ c. test c.header ≡ false) parts

-- The three parts are the list, in order. The first ends with a platform and all platforms are in it; of the rest the
-- second ends with a header of initialization, and the third has none.
pub record AreParts (parts first second third : List Component) : Type 0 where
  pub whole : first ++ second ++ third ≡ parts
  pub first_ends : EndsWith is_platform first
  pub second_ends : EndsWith is_initial second
  pub no_platform : HasNone is_platform (second ++ third)
  pub none_initial : HasNone is_initial third

-- ---- new numbers

-- a number is among these
abbrev pub IsAmong : ℕ → List ℕ → Type 0
IsAmong n numbers = Any (λ x. x ≡ n) numbers

-- a number is the new one of a move before place j
abbrev pub IsEarlier : List Move → ℕ → ℕ → Type 0
IsEarlier all j n = (i : ℕ) × (move : Move) × (i < j) × (slice_get all i ≡ Some move) × (move.new ≡ n)

-- The move at place j takes an old number to the least index that is not taken and not given to an earlier one.
pub record TakesLeastIndex (taken : List ℕ) (all : List Move) (j old : ℕ) : Type 0 where
  pub move : Move
  pub there : slice_get all j ≡ Some move
  pub from : move.old ≡ old
  pub free : IsAmong move.new taken → ⊥
  pub not_earlier : IsEarlier all j move.new → ⊥
  pub least : (n : ℕ) → n < move.new → IsAmong n taken ⊎ IsEarlier all j n

-- The same of the least bit.
pub record TakesLeastBit (taken : List ℕ) (all : List Move) (j old : ℕ) : Type 0 where
  pub move : Move
  pub bit : ℕ
  pub there : slice_get all j ≡ Some move
  pub from : move.old ≡ old
  pub is_bit : (move.new ≡ 2 ^ bit) × (bit < 32)
  pub free : IsAmong move.new taken → ⊥
  pub not_earlier : IsEarlier all j move.new → ⊥
  pub least : (k : ℕ) → k < bit → IsAmong (2 ^ k) taken ⊎ IsEarlier all j (2 ^ k)
