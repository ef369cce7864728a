-- The rules of a plan by the numbers of its ranges: what the test for the first bad one comes to.
use Rattle.std.specs.Prelude.{ℕ, ◌<◌, ◌≤◌, ◌≡◌, ◌⊎◌, true, List, ◌∷◌, length, take, slice_index_or}
use Rattle.host_set.specs.declared.range.PlanRange.{PlanRange}
use Rattle.host_set.specs.Plans.{end_of, is_placed}

-- no bytes from address 0 on: what stands before the first range
abbrev pub no_range : PlanRange
no_range = record { start = 0; bytes = 0 }

-- the range of a number is placed behind the range before it
abbrev pub IsPlacedAt : List PlanRange → ℕ → Type 0
IsPlacedAt ranges number =
    is_placed (end_of (slice_index_or (no_range ∷ ranges) number no_range)) (slice_index_or ranges number no_range) ≡ true

-- 1 to 64 ranges, each of them placed
pub record IsPlan (ranges : List PlanRange) : Type 0 where
  pub some : 0 < length ranges
  pub few : length ranges ≤ 64
  pub all : (number : ℕ) → number < length ranges → IsPlacedAt ranges number

-- of the first 64, those before it are placed, and it is not; or it is behind them all, and then
-- there are no ranges, or more than 64
pub record IsFirstBad (ranges : List PlanRange) (number : ℕ) : Type 0 where
  pub before : (other : ℕ) → other < number → IsPlacedAt (take 64 ranges) other
  pub here : number < length (take 64 ranges) → ¬ IsPlacedAt (take 64 ranges) number
  pub within : number ≤ length (take 64 ranges)
  pub behind : number ≡ length (take 64 ranges) → (length ranges ≡ 0) ⊎ (64 < length ranges)
