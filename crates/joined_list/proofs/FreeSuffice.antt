-- The numbers that are free for a second list suffice for it, and are distinct.
use Rattle.std.proofs.Common.{◌≡◌, ℕ, zero, suc, ◌+◌, ◌<◌, ◌≤◌, List, length, refl, ap₂, arith, false}
use Rattle.std.specs.Prelude.{◌==◌, ◌||◌}
use Rattle.std.specs.List.{range_with_len}
use Rattle.std.proofs.lemmas.List.{length-map}
use Rattle.std.proofs.lemmas.List.FromFn.{length-range_with_len}
use Rattle.platform_masks.specs.declared.platform.Platform.{Platform}
use Rattle.igvm_image.specs.declared.area_table.AreaEntry.{AreaEntry}
use Rattle.igvm_image.specs.HeaderRules.{one_bit_masks}
use Rattle.component_list.specs.declared.component.Component.{Component}
use Rattle.list_changes.specs.ListPlatforms.{masks_in, platforms_in}
use Rattle.list_changes.proofs.Numbered.{IsSound}
use Rattle.list_changes.proofs.Bits.{IsBit, masks_are_bits}
use Rattle.list_changes.proofs.Kept.{has, AreDistinct}
use Rattle.joined_list.specs.Joined.{FitTogether}
use Rattle.joined_list.specs.NewNumbers.{areas_in, first_masks, free, list_areas, second_masks}
use Rattle.joined_list.proofs.FreeNumbers.{enough_free, free_all, free_distinct}
use Rattle.joined_list.proofs.NewMasks.{AreMoves, are_moves}

-- ---- distinct numbers

pub one_bit_distinct : AreDistinct one_bit_masks
one_bit_distinct = (refl, (refl, (refl, (refl, (refl, (refl, (refl, (refl, (refl, (refl, (refl, (refl, (refl, (refl, (refl, (refl, (refl, (refl, (refl, (refl, (refl, (refl, (refl, (refl, (refl, (refl, (refl, (refl, (refl, (refl, (refl, (refl, tt))))))))))))))))))))))))))))))))

below : (x a n : ℕ) → x < a → has x (range_with_len a n) ≡ false
below x a zero less = refl
below x a (suc n) less = ap₂ (λ b c. b || c) (let other : (a == x) ≡ false = grind arith in other) (below x (a + 1) n (omega arith))

pub row_distinct : (a n : ℕ) → AreDistinct (range_with_len a n)
row_distinct a zero = tt
row_distinct a (suc n) = (below a (a + 1) n (omega arith), row_distinct (a + 1) n)

-- ---- they suffice

-- the free indices suffice for the second list, and are distinct
pub record AreasFit (a b : List Component) : Type 0 where
  pub enough : length (areas_in b) ≤ length (free (areas_in a) (range_with_len 0 256))
  pub apart : AreDistinct (free (areas_in a) (range_with_len 0 256))

pub areas_fit : (a b : List Component) → FitTogether a b → AreasFit a b
areas_fit a b fit = record {
  enough =
      (let some = enough_free (areas_in a) (range_with_len 0 256) (row_distinct 0 256) in
      let all = length-range_with_len 0 256 in
      let one = length-map (list_areas a) (λ (e : AreaEntry). e.area) in
      let other = length-map (list_areas b) (λ (e : AreaEntry). e.area) in
      let few = fit.areas in
      omega arith);
  apart = free_distinct (areas_in a) (range_with_len 0 256) (row_distinct 0 256);
}

pub masks_enough : (a b : List Component) → FitTogether a b → length (masks_in b) ≤ length (free (masks_in a) one_bit_masks)
masks_enough a b fit =
    let some = enough_free (masks_in a) one_bit_masks one_bit_distinct in
    let one = length-map (platforms_in a) (λ (p : Platform). p.mask) in
    let other = length-map (platforms_in b) (λ (p : Platform). p.mask) in
    let few = fit.platforms in
    omega arith

-- the new bits of each list are bits, and distinct
pub record BitsFit (a b : List Component) : Type 0 where
  pub first : AreMoves (first_masks a)
  pub second : AreMoves (second_masks a b)

pub bits_fit : (a b : List Component) → IsSound a → BitsFit a b
unfolding second_masks
bits_fit a b one = record {
  first = are_moves (masks_in a) (masks_in a) one.bits one.distinct;
  second = are_moves (masks_in b) (free (masks_in a) one_bit_masks)
      (free_all IsBit (masks_in a) one_bit_masks masks_are_bits) (free_distinct (masks_in a) one_bit_masks one_bit_distinct);
}
