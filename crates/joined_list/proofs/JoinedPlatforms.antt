-- The platforms of a joined list: those of the first, and then those of the second under new numbers and bits.
use Rattle.std.proofs.Common.{◌≡◌, ℕ, ◌+◌, List, [], ◌∷◌, ◌++◌, length, map, refl, sym, ◌∙◌, ap, ap₂, subst, append_assoc, append-nil, length-append, add_assoc, add-zero, zero-add, false}
use Rattle.std.specs.List.{AllByRecursion}
use Rattle.std.proofs.lemmas.List.{map-append, length-map}
use Rattle.igvm_headers.specs.declared.header.Header.{Header}
use Rattle.igvm_headers.specs.declared.header.Header.TheVariants.{Platform}
use Rattle.platform_masks.specs.declared.platform.Platform as platform
use Rattle.platform_masks.specs.Platforms.{platform_of, platforms_from}
use Rattle.component_list.specs.declared.component.Component.{Component}
use Rattle.component_list.specs.FirstFault.{headers_in}
use Rattle.list_changes.specs.Changes.{changed, changed_part, same}
use Rattle.list_changes.specs.ListPlatforms.{renumbered}
use Rattle.joined_list.specs.NewNumbers.{mask_by, first_masks, second_masks, second_areas, area_by}
use Rattle.joined_list.specs.Parts.{is_platform, is_initial, first_part, behind_first, second_part, third_part}
use Rattle.joined_list.specs.Joined.{of_first, of_second, joined_parts}
use Rattle.joined_list.proofs.ThreeParts.{none_past, parts_are_whole, cut_is_whole}
use Rattle.joined_list.proofs.EachElement.{all_left, all_right}

-- ---- platforms of lists one behind the other

abbrev pub platforms_at : ℕ → List Component → List platform.Platform
platforms_at n cs = platforms_from n (headers_in cs)

platforms_append : (n : ℕ) (xs ys : List Component) → platforms_at n (xs ++ ys) ≡ platforms_at n xs ++ platforms_at (n + length (platforms_at n xs)) ys
unfolding platforms_from
platforms_append n [] ys = ap (λ k. platforms_at k ys) (sym (add-zero n))
platforms_append n (x ∷ xs) ys =
    let first = platform_of n x.header in
    let next = n + length first in
    ap (λ ps. first ++ ps) (platforms_append next xs ys)
    ∙ sym (append_assoc first (platforms_at next xs) (platforms_at (next + length (platforms_at next xs)) ys))
    ∙ ap (λ k. (first ++ platforms_at next xs) ++ platforms_at k ys)
    (add_assoc n (length first) (length (platforms_at next xs)) ∙ ap (λ k. n + k) (sym (length-append first (platforms_at next xs))))

abbrev HasNone : List Component → Type 0
HasNone cs = AllByRecursion (λ c. is_platform c.header ≡ false) cs

none_declared : (n : ℕ) (h : Header) → is_platform h ≡ false → platform_of n h ≡ []
none_declared n (Platform mask highest_vtl kind version shared_gpa) none = cc
none_declared n h none = refl

none_from : (n : ℕ) (cs : List Component) → HasNone cs → platforms_at n cs ≡ []
unfolding platforms_from
none_from n [] none = refl
none_from n (c ∷ cs) none =
    ap₂ (λ ps qs. ps ++ qs) (none_declared n c.header none.0) (none_from (n + length (platform_of n c.header)) cs none.1)

-- headers behind that declare none
none_more : (n : ℕ) (xs ys : List Component) → HasNone ys → platforms_at n (xs ++ ys) ≡ platforms_at n xs
none_more n xs ys none =
    platforms_append n xs ys ∙ ap (λ ps. platforms_at n xs ++ ps) (none_from (n + length (platforms_at n xs)) ys none) ∙ append-nil (platforms_at n xs)

-- the same platforms under new masks
abbrev pub with_new : (ℕ → ℕ) → platform.Platform → platform.Platform
with_new mask_to p = renumbered p.number (mask_to p.mask) p

changed_declared : (n : ℕ) (mask_to area_to : ℕ → ℕ) (h : Header) → platform_of n (changed mask_to area_to h) ≡ map (with_new mask_to) (platform_of n h)
changed_declared n mask_to area_to (Platform mask highest_vtl kind version shared_gpa) = refl
changed_declared n mask_to area_to h = refl

changed_from : (n : ℕ) (mask_to area_to : ℕ → ℕ) (cs : List Component)
    → platforms_at n (map (changed_part mask_to area_to) cs) ≡ map (with_new mask_to) (platforms_at n cs)
unfolding platforms_from
changed_from n mask_to area_to [] = refl
changed_from n mask_to area_to (c ∷ cs) =
    let first = platform_of n c.header in
    ap₂ (λ ps k. ps ++ platforms_at (n + k) (map (changed_part mask_to area_to) cs)) (changed_declared n mask_to area_to c.header)
    (ap length (changed_declared n mask_to area_to c.header) ∙ length-map first (with_new mask_to))
    ∙ ap (λ ps. map (with_new mask_to) first ++ ps) (changed_from (n + length first) mask_to area_to cs)
    ∙ sym (map-append (with_new mask_to) first (platforms_at (n + length first) cs))

-- and behind as many others
abbrev pub numbered : ℕ → platform.Platform → platform.Platform
numbered n p = renumbered (n + p.number) p.mask p

numbered_declared : (n k : ℕ) (h : Header) → platform_of (n + k) h ≡ map (numbered n) (platform_of k h)
numbered_declared n k (Platform mask highest_vtl kind version shared_gpa) = refl
numbered_declared n k h = refl

numbered_from : (n k : ℕ) (cs : List Component) → platforms_at (n + k) cs ≡ map (numbered n) (platforms_at k cs)
unfolding platforms_from
numbered_from n k [] = refl
numbered_from n k (c ∷ cs) =
    let first = platform_of k c.header in
    ap₂ (λ ps m. ps ++ platforms_at (n + k + m) cs) (numbered_declared n k c.header)
    (ap length (numbered_declared n k c.header) ∙ length-map first (numbered n))
    ∙ ap (λ m. map (numbered n) first ++ platforms_at m cs) (add_assoc n k (length first))
    ∙ ap (λ ps. map (numbered n) first ++ ps) (numbered_from n (k + length first) cs)
    ∙ sym (map-append (numbered n) first (platforms_at (k + length first) cs))

-- ---- the parts behind the first have none

record NoneBehind (parts : List Component) : Type 0 where
  pub second : HasNone (second_part parts)
  pub third : HasNone (third_part parts)

none_behind : (parts : List Component) → NoneBehind parts
none_behind parts =
    let whole = subst HasNone (sym (cut_is_whole is_initial (behind_first parts))) (none_past is_platform parts) in
    record {
      second = all_left (λ c. is_platform c.header ≡ false) (second_part parts) (third_part parts) whole;
      third = all_right (λ c. is_platform c.header ≡ false) (second_part parts) (third_part parts) whole;
    }

none_changed : (mask_to area_to : ℕ → ℕ) (cs : List Component) → HasNone cs → HasNone (map (changed_part mask_to area_to) cs)
none_changed mask_to area_to [] none = tt
none_changed mask_to area_to (c ∷ cs) none = (kept c.header ∙ none.0, none_changed mask_to area_to cs none.1)
  where
    kept : (h : Header) → is_platform (changed mask_to area_to h) ≡ is_platform h
    kept (Platform mask highest_vtl kind version shared_gpa) = refl
    kept h = refl

first_has_all : (n : ℕ) (parts : List Component) → platforms_at n (first_part parts) ≡ platforms_at n parts
first_has_all n parts =
    let none = none_behind parts in
    sym (ap (platforms_at n) (sym (parts_are_whole parts))
    ∙ none_more n (first_part parts ++ second_part parts) (third_part parts) none.third
    ∙ none_more n (first_part parts) (second_part parts) none.second)

-- ---- the platforms of a joined list

pub joined_platforms : (a b : List Component) → platforms_at 0 (joined_parts a b)
    ≡ map (with_new (mask_by (first_masks a))) (platforms_at 0 a)
    ++ map (with_new (mask_by (second_masks a b))) (map (numbered (length (platforms_at 0 a))) (platforms_at 0 b))
unfolding joined_parts
joined_platforms a b =
    let one = none_behind a in
    let other = none_behind b in
    let own = mask_by (first_masks a) in
    let new = mask_by (second_masks a b) in
    let a1 = map (of_first a) (first_part a) in
    let b1 = map (of_second a b) (first_part b) in
    let a2 = map (of_first a) (second_part a) in
    let b2 = map (of_second a b) (second_part b) in
    let a3 = map (of_first a) (third_part a) in
    let b3 = map (of_second a b) (third_part b) in
    let first : platforms_at 0 a1 ≡ map (with_new own) (platforms_at 0 a) =
    changed_from 0 own same (first_part a) ∙ ap (map (with_new own)) (first_has_all 0 a) in
    let count : length (platforms_at 0 a1) ≡ length (platforms_at 0 a) = ap length first ∙ length-map (platforms_at 0 a) (with_new own) in
    none_more 0 (a1 ++ b1 ++ a2 ++ b2 ++ a3) b3 (none_changed new (area_by (second_areas a b)) (third_part b) other.third)
    ∙ none_more 0 (a1 ++ b1 ++ a2 ++ b2) a3 (none_changed own same (third_part a) one.third)
    ∙ none_more 0 (a1 ++ b1 ++ a2) b2 (none_changed new (area_by (second_areas a b)) (second_part b) other.second)
    ∙ none_more 0 (a1 ++ b1) a2 (none_changed own same (second_part a) one.second)
    ∙ platforms_append 0 a1 b1
    ∙ ap₂ (λ ps k. ps ++ platforms_at k b1) first (zero-add (length (platforms_at 0 a1)) ∙ count)
    ∙ ap (λ ps. map (with_new own) (platforms_at 0 a) ++ ps)
    (changed_from (length (platforms_at 0 a)) new (area_by (second_areas a b)) (first_part b)
    ∙ ap (map (with_new new)) (first_has_all (length (platforms_at 0 a)) b
    ∙ ap (λ k. platforms_at k b) (sym (add-zero (length (platforms_at 0 a))))
    ∙ numbered_from (length (platforms_at 0 a)) 0 b))
