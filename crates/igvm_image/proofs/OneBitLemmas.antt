-- A mask of one of 32 bits: as a power of two, by the count of its bits, and among the masks listed.
use Rattle.std.proofs.Common.{◌≡◌, ℕ, zero, suc, ◌/◌, ◌%◌, ◌^◌, ◌<◌, ◌⊎◌, sym, ◌∙◌, ap, arith, true, inl, inr, ⊎_elim, List, map, get_or, Decides, count_ones}
use Rattle.std.specs.Prelude.{◌==◌}
use Rattle.std.specs.List.{list_any, range_with_len, Any}
use Rattle.std.specs.Int.{is_power_of_two}
use Rattle.std.proofs.lemmas.Bool.{eqb-true, eq-eqb, cases_eq}
use Rattle.std.proofs.lemmas.Bool.Decides.{same_from_decides}
use Rattle.std.proofs.lemmas.List.Folds.{Any-from_list_any, list_any_at}
use Rattle.std.proofs.lemmas.List.FromFn.{length-map-range_with_len, get_or-map-range_with_len}
use Rattle.std.proofs.lemmas.Nat.{zero_from_ones, ones_le_self}
use Rattle.std.proofs.Math.Nat.{pow-suc}
use lib.Count.{ones_step}
use Rattle.igvm_image.specs.HeaderRules.{is_one_bit}
use Rattle.igvm_image.specs.RulesInWords.{IsOneBit}

-- a power of two has one bit
ones-pow : (k : ℕ) → count_ones (2 ^ k) ≡ 1
ones-pow zero = let half = ones_step 1 in let none = ones_le_self 0 in omega arith
ones-pow (suc k) =
    let twice = pow-suc 2 k in
    let half : 2 ^ suc k / 2 ≡ 2 ^ k = omega arith in
    omega (arith, ap count_ones half, ones_step (2 ^ suc k), ones-pow k)

bit_cases : (n : ℕ) → (n % 2 ≡ 0) ⊎ (n % 2 ≡ 1)
bit_cases n = ⊎_elim (λ none. inl none) (λ some. inr (omega arith)) (cases_eq (n % 2) 0)

-- a number whose half is a power of two, or that is odd, has one bit in all
from_half : (w n : ℕ) → count_ones n ≡ 1 → (n % 2 ≡ 0) ⊎ (n % 2 ≡ 1)
    → (count_ones (n / 2) ≡ 1 → (k : ℕ) × (k < w) × (n / 2 ≡ 2 ^ k)) → (k : ℕ) × (k < suc w) × (n ≡ 2 ^ k)
from_half w n one (inl even) half =
    let behind = half (omega (arith, ones_step n)) in
    (suc behind.0, omega arith, omega (arith, pow-suc 2 behind.0))
from_half w n one (inr odd) half =
    let none = zero_from_ones (n / 2) (omega (arith, ones_step n)) in (0, omega arith, omega arith)

-- a number below 2^w with one bit is a power of two
power_from_ones : (w n : ℕ) → n < 2 ^ w → count_ones n ≡ 1 → (k : ℕ) × (k < w) × (n ≡ 2 ^ k)
power_from_ones zero n small one = absurd (omega (arith, ones_le_self n))
power_from_ones (suc w) n small one = from_half w n one (bit_cases n) (power_from_ones w (n / 2) (omega (arith, pow-suc 2 w)))

-- the masks that are listed, of any number
any_power : (n mask : ℕ)
    → Decides (list_any (λ bit. bit == mask) (map (λ bit. 2 ^ bit) (range_with_len 0 n))) ((k : ℕ) × (k < n) × (mask ≡ 2 ^ k))
any_power n mask = (
  (λ listed. found (Any-from_list_any (λ bit. bit == mask) (powers n) listed)),
  (λ power. placed power.0 power.1 (sym power.2)),
)
  where
    powers : ℕ → List ℕ
    powers n = map (λ bit. 2 ^ bit) (range_with_len 0 n)

    at : (k d : ℕ) → k < n → get_or (powers n) k d ≡ 2 ^ k
    at k d within = get_or-map-range_with_len (λ bit. 2 ^ bit) 0 n k k d within (omega arith)

    found : Any (λ bit. (bit == mask) ≡ true) (powers n) → (k : ℕ) × (k < n) × (mask ≡ 2 ^ k)
    found here =
        let within : here.0 < n = omega (arith, length-map-range_with_len (λ bit. 2 ^ bit) 0 n, here.2) in
        (here.0, within, sym (eqb-true here.1 mask here.4) ∙ sym here.3 ∙ at here.0 here.1 within)

    placed : (k : ℕ) → k < n → 2 ^ k ≡ mask → list_any (λ bit. bit == mask) (powers n) ≡ true
    placed k within same =
        list_any_at (λ bit. bit == mask) (powers n) k 0
        (omega (arith, length-map-range_with_len (λ bit. 2 ^ bit) 0 n))
        (eq-eqb (get_or (powers n) k 0) mask (at k 0 within ∙ same))

-- the test in the words of the format
pub Decides-is_one_bit : (mask : ℕ) → Decides (is_one_bit mask) (IsOneBit mask)
unfolding is_one_bit
Decides-is_one_bit mask = any_power 32 mask

-- the count of a mask's bits
pub power_of_two_is_one_bit : (mask : ℕ) → mask < 2 ^ 32 → is_power_of_two mask ≡ is_one_bit mask
power_of_two_is_one_bit mask small =
    same_from_decides (is_power_of_two mask) (is_one_bit mask) (
      (λ one. power_from_ones 32 mask small (eqb-true (count_ones mask) 1 one)),
      (λ bit. eq-eqb (count_ones mask) 1 (ap count_ones bit.2 ∙ ones-pow bit.0)),
    )
    (Decides-is_one_bit mask)
