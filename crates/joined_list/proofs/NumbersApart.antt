-- The new numbers of two lists are apart.
use Rattle.std.proofs.Common.{◌≡◌, ℕ, List, [], ◌∷◌, refl, sym, ◌∙◌, ap, ap₂, arith, Bool, true, false}
use Rattle.std.specs.Prelude.{if◌then◌else◌, ◌==◌, ◌||◌}
use Rattle.std.specs.List.{range_with_len, AllByRecursion}
use Rattle.std.proofs.lemmas.Bool.{eqb-true}
use Rattle.igvm_image.specs.HeaderRules.{one_bit_masks, is_one_bit}
use Rattle.component_list.specs.declared.component.Component.{Component}
use Rattle.list_changes.specs.Changes.{same}
use Rattle.list_changes.specs.ListPlatforms.{masks_in}
use Rattle.list_changes.proofs.Kept.{has}
use Rattle.list_changes.proofs.Numbered.{IsSound}
use Rattle.joined_list.specs.Joined.{FitTogether}
use Rattle.joined_list.specs.NewNumbers.{moves, free, mask_by, area_by, areas_in, first_masks, second_masks, second_areas}
use Rattle.joined_list.proofs.FreeNumbers.{flipped, has_differs, area_is_new, area_injective, free_not_taken, free_distinct, free_is_in}
use Rattle.joined_list.proofs.JoinWalk.{Renames, Apart}
use Rattle.joined_list.proofs.NewMasks.{mask_is_area}
use Rattle.joined_list.proofs.FreeSuffice.{areas_fit, masks_enough, one_bit_distinct}

-- numbers that move to themselves
stays_put : (olds : List ℕ) (x : ℕ) → area_by (moves olds olds) x ≡ x
stays_put [] x = refl
stays_put (old ∷ olds) x = cases (old == x) refl (stays_put olds x)
  where
    cases : (b : Bool) → (old == x) ≡ b → area_by (moves olds olds) x ≡ x → (if b then old else area_by (moves olds olds) x) ≡ x
    cases true is behind = eqb-true old x is
    cases false other behind = behind

pub first_mask : (a : List Component) → IsSound a → (x : ℕ) → has x (masks_in a) ≡ true → mask_by (first_masks a) x ≡ x
first_mask a sound x is = mask_is_area (masks_in a) (masks_in a) x sound.bits sound.distinct (omega arith) is ∙ stays_put (masks_in a) x

second_mask : (a b : List Component) → IsSound b → FitTogether a b → (x : ℕ) → has x (masks_in b) ≡ true
    → mask_by (second_masks a b) x ≡ area_by (moves (masks_in b) (free (masks_in a) one_bit_masks)) x
unfolding second_masks
second_mask a b sound fit x is =
    mask_is_area (masks_in b) (free (masks_in a) one_bit_masks) x sound.bits sound.distinct (masks_enough a b fit) is

one_at : (olds : List ℕ) (x : ℕ) → AllByRecursion (λ m. is_one_bit m ≡ true) olds → has x olds ≡ true → is_one_bit x ≡ true
one_at [] x ones is = cc
one_at (old ∷ olds) x ones is = cases (old == x) refl is (one_at olds x ones.1)
  where
    cases : (b : Bool) → (old == x) ≡ b → (b || has x olds) ≡ true → (has x olds ≡ true → is_one_bit x ≡ true) → is_one_bit x ≡ true
    cases true same is behind = ap is_one_bit (sym (eqb-true old x same)) ∙ ones.0
    cases false other is behind = behind is

one_bit_in : (x : ℕ) → has x one_bit_masks ≡ true → is_one_bit x ≡ true
unfolding is_one_bit
one_bit_in x is = is

pub first_renames : (a : List Component) → IsSound a → Renames (masks_in a) (areas_in a) (mask_by (first_masks a)) same
first_renames a sound = record {
  one = λ x is. ap is_one_bit (first_mask a sound x is) ∙ one_at (masks_in a) x sound.ones is;
  masks = λ x y here there other. ap₂ (λ n m. n == m) (first_mask a sound y there) (first_mask a sound x here) ∙ other;
  areas = λ x y here there other. other;
}

pub new_mask : (a b : List Component) → IsSound b → FitTogether a b → (x : ℕ) → has x (masks_in b) ≡ true → has (mask_by (second_masks a b) x) (free (masks_in a) one_bit_masks) ≡ true
new_mask a b sound fit x is =
    ap (λ n. has n (free (masks_in a) one_bit_masks)) (second_mask a b sound fit x is)
    ∙ area_is_new (masks_in b) (free (masks_in a) one_bit_masks) x is (masks_enough a b fit)

new_area : (a b : List Component) → FitTogether a b → (x : ℕ) → has x (areas_in b) ≡ true → has (area_by (second_areas a b) x) (free (areas_in a) (range_with_len 0 256)) ≡ true
unfolding second_areas
new_area a b fit x is = area_is_new (areas_in b) (free (areas_in a) (range_with_len 0 256)) x is (areas_fit a b fit).enough

pub second_renames : (a b : List Component) → IsSound b → FitTogether a b → Renames (masks_in b) (areas_in b) (mask_by (second_masks a b)) (area_by (second_areas a b))
unfolding second_areas
second_renames a b sound fit = record {
  one = λ x is. one_bit_in (mask_by (second_masks a b) x) (free_is_in (masks_in a) one_bit_masks (mask_by (second_masks a b) x) (new_mask a b sound fit x is));
  masks = λ x y here there other.
      ap₂ (λ n m. n == m) (second_mask a b sound fit y there) (second_mask a b sound fit x here)
      ∙ area_injective (masks_in b) (free (masks_in a) one_bit_masks) x y (free_distinct (masks_in a) one_bit_masks one_bit_distinct) (masks_enough a b fit) here there other;
  areas = λ x y here there other.
      area_injective (areas_in b) (free (areas_in a) (range_with_len 0 256)) x y (areas_fit a b fit).apart (areas_fit a b fit).enough here there other;
}

pub first_apart : (a b : List Component) → IsSound a → IsSound b → FitTogether a b
    → Apart (masks_in a) (areas_in a) (mask_by (first_masks a)) same (masks_in b) (areas_in b) (mask_by (second_masks a b)) (area_by (second_areas a b))
first_apart a b one other fit = record {
  masks = λ x y here there.
      ap (λ n. mask_by (second_masks a b) y == n) (first_mask a one x here)
      ∙ has_differs (masks_in a) x (mask_by (second_masks a b) y) here
      (free_not_taken (masks_in a) one_bit_masks (mask_by (second_masks a b) y) (new_mask a b other fit y there));
  areas = λ x y here there.
      has_differs (areas_in a) x (area_by (second_areas a b) y) here
      (free_not_taken (areas_in a) (range_with_len 0 256) (area_by (second_areas a b) y) (new_area a b fit y there));
}

pub second_apart : (a b : List Component) → IsSound a → IsSound b → FitTogether a b
    → Apart (masks_in b) (areas_in b) (mask_by (second_masks a b)) (area_by (second_areas a b)) (masks_in a) (areas_in a) (mask_by (first_masks a)) same
second_apart a b one other fit =
    let back = first_apart a b one other fit in
    record {
      masks = λ x y here there. flipped (mask_by (second_masks a b) x) (mask_by (first_masks a) y) (back.masks y x there here);
      areas = λ x y here there. flipped (area_by (second_areas a b) x) y (back.areas y x there here);
    }
