-- How contents are kept one after the other, and numbers that stop at the greatest of 64 bits.
use Rattle.std.specs.Prelude.{◌≡◌, ℕ, ◌+◌, ◌-◌, ◌^◌, List, [], ◌∷◌, ◌++◌, min, Bool, bytes_eq, if◌then◌else◌, Option, Some, None}
use Rattle.std.specs.List.{list_any}
use Rattle.std.specs.Ordering.{nat_cmp}
use Rattle.std.specs.Cmp.Lexicographic.{slice_cmp}
use Rattle.std.specs.BTreeMap.{BTreeMap, get_by}
use denote.Ref.{Bor}
use Rattle.image_builder.specs.DistinctContents.{place_of}

-- these bytes are among the contents
abbrev pub is_kept : List ℕ → List (List ℕ) → Bool
is_kept bytes kept = list_any (bytes_eq bytes) kept

-- the contents with one more, where it is not among them
abbrev pub kept_with : List (List ℕ) → List ℕ → List (List ℕ)
kept_with kept bytes = if is_kept bytes kept then kept else kept ++ bytes ∷ []

-- a number, or the greatest of 64 bits where it is more
abbrev pub saturated : ℕ → ℕ
saturated n = min n (2 ^ 64 - 1)

-- contents that stand one behind the other from a place on
pub record Row : Type 0 where
  pub start : ℕ
  pub kept : List (List ℕ)

-- where these bytes stand in such a row, if they do
abbrev pub place_in : ℕ → List (List ℕ) → List ℕ → Option ℕ
place_in start kept bytes = if is_kept bytes kept then Some (saturated (start + place_of bytes kept)) else None

-- a map has the place of each content of a row, and of no other
pub record IsIndex (places : BTreeMap (Bor (List ℕ)) ℕ) (start : ℕ) (kept : List (List ℕ)) : Type 0 where
  pub each : (bytes : List ℕ) → get_by (λ k. slice_cmp nat_cmp bytes k.now) places ≡ place_in start kept bytes
