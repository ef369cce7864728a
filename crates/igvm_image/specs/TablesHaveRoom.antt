-- Why tables of fixed size have room for what headers declare that break no rule: platforms have distinct masks of
-- one bit, of which there are 32, and areas are limited by a rule.
use Rattle.std.specs.Prelude.{◌≡◌, ℕ, ◌≤◌, List, map, eqb, true}
use Rattle.std.specs.List.{AllByRecursion, IsDistinct}
use Rattle.platform_masks.specs.declared.platform.Platform.{Platform}
use Rattle.igvm_image.specs.HeaderRules.{is_one_bit}

abbrev pub masks_of : List Platform → List ℕ
masks_of platforms = map (λ p. p.mask) platforms

-- no two of these platforms share a mask, each mask is one bit, and no more pages are named than may be
pub record HasRoom (platforms : List Platform) (named : ℕ) : Type 0 where
  pub apart : IsDistinct eqb (masks_of platforms)
  pub bits : AllByRecursion (λ mask. is_one_bit mask ≡ true) (masks_of platforms)
  pub pages : named ≤ 4194304
