-- The platforms of a list: their masks and numbers, and what a list keeps of them that breaks no rule.
use Rattle.std.proofs.Common.{◌≡◌, ℕ, zero, suc, ◌+◌, ◌<◌, ◌≤◌, List, [], ◌∷◌, ◌++◌, length, get_or, drop, refl, sym, ◌∙◌, ap, subst, add-zero, zero-add, arith, Some, None, Bool, true, false}
use Rattle.std.specs.Prelude.{◌==◌, ◌||◌}
use Rattle.std.specs.Option.{option_map}
use Rattle.std.specs.List.{AllByRecursion, slice_get}
use Rattle.std.proofs.lemmas.Bool.{eq-eqb}
use Rattle.std.proofs.Math.ListN.{drop_of_length-le}
use Rattle.std.proofs.lemmas.List.{drop_more}
use Rattle.std.proofs.lemmas.Option.{slice_get-map}
use Rattle.igvm_headers.specs.declared.header.Header.{Header}
use Rattle.igvm_headers.specs.declared.header.Header.TheVariants.{Platform}
use Rattle.platform_masks.specs.declared.platform.Platform as platform
use Rattle.platform_masks.specs.Platforms.{platform_of, platforms_from}
use Rattle.igvm_image.specs.Areas.{areas_of}
use Rattle.igvm_image.specs.HeaderRules.{is_one_bit}
use Rattle.igvm_image.specs.RulesInWords.{platform_mask}
use Rattle.component_list.specs.declared.component.Component.{Component}
use Rattle.component_list.specs.FirstFault.{headers_in}
use Rattle.component_list.specs.Lists.{list_fault}
use Rattle.list_changes.specs.ListPlatforms.{masks_in, platforms_in}
use Rattle.list_changes.proofs.Bits.{IsBit, one_of_bits}
use Rattle.list_changes.proofs.Kept.{NamesOf, AreDistinct, has, has-map, has_mask, kept_behind, masks_fit, masks_from, named, platform_masks}

-- ---- the platform of a number

-- its mask is the mask of that number
pub mask_at : (parts : List Component) (n : ℕ) (p : platform.Platform) → slice_get (platforms_in parts) n ≡ Some p → slice_get (masks_in parts) n ≡ Some p.mask
mask_at parts n p here =
    slice_get-map (λ (q : platform.Platform). q.mask) (platforms_in parts) n ∙ ap (option_map (λ (q : platform.Platform). q.mask)) here

-- platforms are numbered in their order
pub number_in : (hs : List Header) (first n : ℕ) (p : platform.Platform) → slice_get (platforms_from first hs) n ≡ Some p → p.number ≡ first + n
unfolding platforms_from
number_in [] first n p here = cc
number_in (h ∷ hs) first n p here = cases h n here (number_in hs)
  where
    cases : (h : Header) (n : ℕ) → slice_get (platform_of first h ++ platforms_from (first + length (platform_of first h)) hs) n ≡ Some p
        → ((k i : ℕ) (q : platform.Platform) → slice_get (platforms_from k hs) i ≡ Some q → q.number ≡ k + i) → p.number ≡ first + n
    cases (Platform mask highest_vtl kind version shared_gpa) zero here behind =
        let is : record { number = first; mask = mask; kind = kind; highest_vtl = highest_vtl; version = version; shared_gpa = shared_gpa } ≡ p = cc in
        ap (λ (q : platform.Platform). q.number) (sym is) ∙ sym (add-zero first)
    cases (Platform mask highest_vtl kind version shared_gpa) (suc n) here behind =
        behind (first + 1) n p here ∙ (let same : first + 1 + n ≡ first + suc n = omega arith in same)
    cases h n here behind = behind (first + 0) n p here ∙ (let same : first + 0 + n ≡ first + n = omega arith in same)

pub number_is : (parts : List Component) (n : ℕ) (p : platform.Platform) → slice_get (platforms_in parts) n ≡ Some p → p.number ≡ n
number_is parts n p here = number_in (headers_in parts) 0 n p here ∙ zero-add n

-- a number in a list is among its numbers
pub has_at : (xs : List ℕ) (k x : ℕ) → slice_get xs k ≡ Some x → has x xs ≡ true
has_at [] k x here = cc
has_at (y ∷ ys) zero x here = (let is : y ≡ x = cc in ap (λ b. b || has x ys) (eq-eqb y x is))
has_at (y ∷ ys) (suc k) x here = ap (λ b. (y == x) || b) (has_at ys k x here) ∙ either (y == x)
  where
    either : (b : Bool) → (b || true) ≡ true
    either true = refl
    either false = refl

-- ---- a list that breaks no rule

-- Its platforms' masks are bits, and distinct; each area that a header names is declared.
pub record IsSound (parts : List Component) : Type 0 where
  pub bits : AllByRecursion IsBit (masks_in parts)
  pub ones : AllByRecursion (λ m. is_one_bit m ≡ true) (masks_in parts)
  pub distinct : AreDistinct (masks_in parts)
  pub names : AllByRecursion (λ c. NamesOf (areas_of (headers_in parts)) c.header) parts

pub sound : (parts : List Component) → list_fault parts ≡ None → IsSound parts
sound parts none =
    let all = (kept_behind [] parts none).0 in
    let masks = masks_fit [] parts all in
    let same : platform_masks (headers_in parts) ≡ masks_in parts = sym (masks_from 0 (headers_in parts)) in
    record {
      bits = subst (AllByRecursion IsBit) same masks.bits;
      ones = subst (AllByRecursion (λ m. is_one_bit m ≡ true)) same masks.ones;
      distinct = subst AreDistinct same masks.distinct;
      names = named [] parts all;
    }

pub platform_bit : (parts : List Component) (n : ℕ) (p : platform.Platform) → list_fault parts ≡ None → slice_get (platforms_in parts) n ≡ Some p → IsBit p.mask
platform_bit parts n p none here =
    one_of_bits (masks_in parts) p.mask (sound parts none).bits (has_at (masks_in parts) n p.mask (mask_at parts n p here))

pub platform_found : (parts : List Component) (n : ℕ) (p : platform.Platform) → slice_get (platforms_in parts) n ≡ Some p → has_mask p.mask (platforms_in parts) ≡ true
platform_found parts n p here = has-map p.mask (platforms_in parts) ∙ has_at (masks_in parts) n p.mask (mask_at parts n p here)

-- ---- a walk to the platform of a number

-- where a walk stands at a component: the mask of the number that is left, among those to come, is the one sought
pub record IsLeft (parts : List Component) (number place left : ℕ) : Type 0 where
  pub same : slice_get (platform_masks (headers_in (drop place parts))) left ≡ slice_get (platform_masks (headers_in parts)) number

own_here : (h : Header) (hs : List Header) (mask : ℕ) → Some mask ≡ platform_mask h → slice_get (platform_masks (h ∷ hs)) 0 ≡ Some mask
own_here (Platform own highest_vtl kind version shared_gpa) hs mask is = sym is
own_here h hs mask is = cc

own_passed : (h : Header) (hs : List Header) (mask left : ℕ) → Some mask ≡ platform_mask h
    → slice_get (platform_masks (h ∷ hs)) (suc left) ≡ slice_get (platform_masks hs) left
own_passed (Platform own highest_vtl kind version shared_gpa) hs mask left is = refl
own_passed h hs mask left is = cc

none_passed : (h : Header) (hs : List Header) → None ≡ platform_mask h → platform_masks (h ∷ hs) ≡ platform_masks hs
none_passed (Platform own highest_vtl kind version shared_gpa) hs is = cc
none_passed h hs is = refl

-- the mask sought, at the platform of a number
found : (parts : List Component) (number : ℕ) (p : platform.Platform) → slice_get (platforms_in parts) number ≡ Some p
    → slice_get (platform_masks (headers_in parts)) number ≡ Some p.mask
found parts number p here = ap (λ ms. slice_get ms number) (sym (masks_from 0 (headers_in parts))) ∙ mask_at parts number p here

pub at_platform : (parts : List Component) (number place left mask : ℕ) (c : Component) → IsLeft parts number place left → place < length parts
    → c ≡ get_or parts place c → Some mask ≡ platform_mask c.header → left ≡ 0
    → (p : platform.Platform) → slice_get (platforms_in parts) number ≡ Some p → mask ≡ p.mask
at_platform parts number place left mask c walk within is own none p here =
    let behind = headers_in (drop (place + 1) parts) in
    let first : slice_get (platform_masks (headers_in (drop place parts))) 0 ≡ Some mask =
    ap (λ cs. slice_get (platform_masks (headers_in cs)) 0) (drop_more parts place c within ∙ ap (λ d. d ∷ drop (place + 1) parts) (sym is))
    ∙ own_here c.header behind mask own in
    let same : Some mask ≡ Some p.mask =
    sym first ∙ ap (slice_get (platform_masks (headers_in (drop place parts)))) (sym none) ∙ walk.same ∙ found parts number p here in
    cc

pub past_platform : (parts : List Component) (number place left rest mask : ℕ) (c : Component) → IsLeft parts number place left → place < length parts
    → c ≡ get_or parts place c → Some mask ≡ platform_mask c.header → left ≡ suc rest → IsLeft parts number (place + 1) rest
past_platform parts number place left rest mask c walk within is own more =
    record {
      same =
          sym (own_passed c.header (headers_in (drop (place + 1) parts)) mask rest own)
          ∙ sym (ap (λ cs. slice_get (platform_masks (headers_in cs)) (suc rest)) (drop_more parts place c within ∙ ap (λ d. d ∷ drop (place + 1) parts) (sym is)))
          ∙ ap (slice_get (platform_masks (headers_in (drop place parts)))) (sym more)
          ∙ walk.same;
    }

pub past_other : (parts : List Component) (number place left : ℕ) (c : Component) → IsLeft parts number place left → place < length parts
    → c ≡ get_or parts place c → None ≡ platform_mask c.header → IsLeft parts number (place + 1) left
past_other parts number place left c walk within is own =
    record {
      same =
          sym (ap (λ ms. slice_get ms left) (none_passed c.header (headers_in (drop (place + 1) parts)) own))
          ∙ sym (ap (λ cs. slice_get (platform_masks (headers_in cs)) left) (drop_more parts place c within ∙ ap (λ d. d ∷ drop (place + 1) parts) (sym is)))
          ∙ walk.same;
    }

pub past_all : (parts : List Component) (number place left : ℕ) → IsLeft parts number place left → length parts ≤ place
    → (p : platform.Platform) → slice_get (platforms_in parts) number ≡ Some p → 0 ≡ p.mask
past_all parts number place left walk over p here =
    let none : slice_get (platform_masks (headers_in (drop place parts))) left ≡ None =
    ap (λ cs. slice_get (platform_masks (headers_in cs)) left) (drop_of_length-le parts over) in
    let both : None ≡ Some p.mask = sym none ∙ walk.same ∙ found parts number p here in
    cc
