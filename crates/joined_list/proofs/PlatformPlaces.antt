-- Where the platforms of two lists stand in the joined list.
use Rattle.std.proofs.Common.{◌≡◌, ℕ, zero, suc, ◌+◌, List, [], ◌∷◌, ◌++◌, length, map, ◌∙◌, ap, ap₂, arith, Some, None}
use Rattle.std.specs.Option.{option_map}
use Rattle.std.specs.List.{slice_get}
use Rattle.std.proofs.lemmas.List.{length-map}
use Rattle.std.proofs.lemmas.Option.{slice_get-map}
use Rattle.platform_masks.specs.declared.platform.Platform.{Platform}
use Rattle.component_list.specs.declared.component.Component.{Component}
use Rattle.component_list.specs.Lists.{list_fault}
use Rattle.list_changes.specs.ListPlatforms.{masks_in, platforms_in, renumbered}
use Rattle.list_changes.proofs.Numbered.{has_at, mask_at, number_is, sound}
use Rattle.joined_list.specs.Joined.{joined_parts}
use Rattle.joined_list.specs.NewNumbers.{first_masks, mask_by, second_masks}
use Rattle.joined_list.proofs.JoinedPlatforms.{joined_platforms, numbered, with_new}
use Rattle.joined_list.proofs.NumbersApart.{first_mask}

get_left : {X : Type 0} (xs ys : List X) (k : ℕ) (x : X) → slice_get xs k ≡ Some x → slice_get (xs ++ ys) k ≡ Some x
get_left [] ys k x here = cc
get_left (z ∷ xs) ys zero x here = here
get_left (z ∷ xs) ys (suc k) x here = get_left xs ys k x here

get_right : {X : Type 0} (xs ys : List X) (k n : ℕ) → length xs + k ≡ n → slice_get (xs ++ ys) n ≡ slice_get ys k
get_right [] ys k n is = ap (slice_get ys) (let same : n ≡ k = omega (arith, is) in same)
get_right (x ∷ xs) ys k zero is = absurd (omega arith)
get_right (x ∷ xs) ys k (suc n) is = get_right xs ys k n (omega arith)

-- a platform of the first list keeps its number and its mask
pub first_place : (a b : List Component) → list_fault a ≡ None → (n : ℕ) (p : Platform) → slice_get (platforms_in a) n ≡ Some p
    → slice_get (platforms_in (joined_parts a b)) n ≡ Some (renumbered n p.mask p)
first_place a b none n p here =
    let own = with_new (mask_by (first_masks a)) in
    let same = first_mask a (sound a none) p.mask (has_at (masks_in a) n p.mask (mask_at a n p here)) in
    ap (λ ps. slice_get ps n) (joined_platforms a b)
    ∙ get_left (map own (platforms_in a)) _ n (own p) (slice_get-map own (platforms_in a) n ∙ ap (option_map own) here)
    ∙ ap₂ (λ k m. Some (renumbered k m p)) (number_is a n p here) same

-- a platform of the second list has a new bit, and stands behind those of the first
pub second_place : (a b : List Component) (n : ℕ) (p : Platform) → slice_get (platforms_in b) n ≡ Some p
    → slice_get (platforms_in (joined_parts a b)) (length (platforms_in a) + n)
    ≡ Some (renumbered (length (platforms_in a) + n) (mask_by (second_masks a b) p.mask) p)
second_place a b n p here =
    let own = with_new (mask_by (first_masks a)) in
    let new = with_new (mask_by (second_masks a b)) in
    let count = length (platforms_in a) in
    ap (λ ps. slice_get ps (count + n)) (joined_platforms a b)
    ∙ get_right (map own (platforms_in a)) (map new (map (numbered count) (platforms_in b))) n (count + n) (ap (λ k. k + n) (length-map (platforms_in a) own))
    ∙ slice_get-map new (map (numbered count) (platforms_in b)) n
    ∙ ap (option_map new) (slice_get-map (numbered count) (platforms_in b) n ∙ ap (option_map (numbered count)) here)
    ∙ ap (λ k. Some (renumbered (count + k) (mask_by (second_masks a b) p.mask) p)) (number_is b n p here)
