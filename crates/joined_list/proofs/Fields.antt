-- The numbers of a joined list's components fit their types, and it has as many components as the two lists have together.
use Rattle.std.proofs.Common.{◌≡◌, ℕ, zero, suc, ◌+◌, ◌^◌, ◌<◌, ◌≤◌, List, [], ◌∷◌, ◌++◌, length, map, refl, sym, ◌∙◌, ap, subst, length-append, arith, Bool, true, false}
use Rattle.std.specs.Prelude.{if◌then◌else◌, ◌==◌, bit_and}
use Rattle.std.specs.List.{range_with_len, AllByRecursion}
use Rattle.std.proofs.lemmas.List.{length-map}
use Rattle.std.proofs.lemmas.Nat.{or_lt}
use Rattle.igvm_headers.specs.HeaderFacts.{data_offset}
use Rattle.igvm_headers.specs.SpellingConditions.{NumbersFit, ListsAreBytes}
use Rattle.igvm_headers.specs.declared.header.Header.{Header}
use Rattle.igvm_headers.specs.declared.header.Header.TheVariants.{Platform, Policy, Area, Page, Insert, Param, Context, Required, ErrorRange, IdBlock, Carried}
use Rattle.igvm_image.specs.HeaderRules.{one_bit_masks}
use Rattle.component_list.specs.declared.component.Component.{Component}
use Rattle.component_list.specs.FirstFault.{headers_in}
use Rattle.component_list.specs.Lists.{ImageParts, IsList, IsValid}
use Rattle.component_list.specs.Ranges.{IsComponent}
use Rattle.list_changes.specs.Changes.{changed, changed_part, same}
use Rattle.list_changes.specs.ListPlatforms.{masks_in}
use Rattle.list_changes.proofs.Kept.{masks_from, own_mask, platform_masks}
use Rattle.joined_list.specs.Joined.{FitTogether, joined, joined_parts, of_first, of_second}
use Rattle.joined_list.specs.NewNumbers.{area_by, areas_in, first_masks, free, mask_by, moves, second_areas, second_masks}
use Rattle.joined_list.specs.Parts.{first_part, second_part, third_part}
use Rattle.joined_list.specs.declared.moves.Move.{Move}
use Rattle.joined_list.proofs.EachElement.{all_append, all_so}
use Rattle.joined_list.proofs.FreeNumbers.{free_all}
use Rattle.joined_list.proofs.JoinedValid.{joined_valid}
use Rattle.joined_list.proofs.ThreeParts.{parts_are_whole}
use Rattle.joined_list.proofs.Turns.{all_turned}

-- ---- a component whose numbers change

-- a change that keeps numbers of 32 bits
abbrev Fits32 : (ℕ → ℕ) → Type 0
Fits32 to = (x : ℕ) → x < 2 ^ 32 → to x < 2 ^ 32

numbers_changed : (mask_to area_to : ℕ → ℕ) → Fits32 mask_to → Fits32 area_to → (h : Header) → NumbersFit h → NumbersFit (changed mask_to area_to h)
numbers_changed mask_to area_to masks areas (Platform mask highest_vtl kind version shared_gpa) fit = (masks mask fit.0, fit.1, fit.2, fit.3)
numbers_changed mask_to area_to masks areas (Policy policy mask) fit = (fit.0, masks mask fit.1)
numbers_changed mask_to area_to masks areas (Area bytes area offset) fit = (fit.0, areas area fit.1, fit.2)
numbers_changed mask_to area_to masks areas (Page gpa mask offset large unmeasured kind) fit = (fit.0, masks mask fit.1, fit.2)
numbers_changed mask_to area_to masks areas (Insert gpa mask area) fit = (fit.0, masks mask fit.1, areas area fit.2)
numbers_changed mask_to area_to masks areas (Param kind area byte_offset) fit = (areas area fit.0, fit.1)
numbers_changed mask_to area_to masks areas (Context gpa mask offset vp) fit = (fit.0, masks mask fit.1, fit.2, fit.3)
numbers_changed mask_to area_to masks areas (Required gpa mask bytes flags) fit = (fit.0, masks mask fit.1, fit.2, fit.3)
numbers_changed mask_to area_to masks areas (ErrorRange gpa mask bytes) fit = (fit.0, masks mask fit.1, fit.2)
numbers_changed mask_to area_to masks areas (IdBlock mask author_enabled ld family_id image_id version guest_svn id_algorithm author_algorithm) fit =
    (masks mask fit.0, fit.1, fit.2, fit.3, fit.4, fit.5, fit.6, fit.7, fit.8)
numbers_changed mask_to area_to masks areas (Carried kind length) fit = fit

lists_changed : (mask_to area_to : ℕ → ℕ) (h : Header) → ListsAreBytes h → ListsAreBytes (changed mask_to area_to h)
lists_changed mask_to area_to (IdBlock mask author_enabled ld family_id image_id version guest_svn id_algorithm author_algorithm) bytes = bytes
lists_changed mask_to area_to h bytes = tt

offset_changed : (mask_to area_to : ℕ → ℕ) (h : Header) → data_offset (changed mask_to area_to h) ≡ data_offset h
offset_changed mask_to area_to (Area bytes area offset) = refl
offset_changed mask_to area_to (Page gpa mask offset large unmeasured kind) = refl
offset_changed mask_to area_to (Context gpa mask offset vp) = refl
offset_changed mask_to area_to h = refl

component_changed : (mask_to area_to : ℕ → ℕ) → Fits32 mask_to → Fits32 area_to → (c : Component) → IsComponent c → IsComponent (changed_part mask_to area_to c)
component_changed mask_to area_to masks areas c is = record {
  numbers = numbers_changed mask_to area_to masks areas c.header is.numbers;
  lists = lists_changed mask_to area_to c.header is.lists;
  tail = is.tail;
  content = is.content;
  offset = offset_changed mask_to area_to c.header ∙ is.offset;
}

-- ---- the new numbers have 32 bits

abbrev Are32 : List ℕ → Type 0
Are32 numbers = AllByRecursion (λ n. n < 2 ^ 32) numbers

own_fits : (h : Header) → NumbersFit h → Are32 (own_mask h)
own_fits (Platform mask highest_vtl kind version shared_gpa) fit = (fit.0, tt)
own_fits h fit = tt

masks_fit : (cs : List Component) → AllByRecursion IsComponent cs → Are32 (platform_masks (headers_in cs))
masks_fit [] all = tt
masks_fit (c ∷ cs) all = all_append (λ m. m < 2 ^ 32) (own_mask c.header) (platform_masks (headers_in cs)) (own_fits c.header all.0.numbers) (masks_fit cs all.1)

moves_fit : (olds news : List ℕ) → Are32 news → AllByRecursion (λ (m : Move). m.new < 2 ^ 32) (moves olds news)
moves_fit [] news all = tt
moves_fit (old ∷ olds) [] all = tt
moves_fit (old ∷ olds) (new ∷ news) all = (all.0, moves_fit olds news all.1)

mask_fits : (ms : List Move) (x : ℕ) → AllByRecursion (λ (m : Move). m.new < 2 ^ 32) ms → mask_by ms x < 2 ^ 32
mask_fits [] x all = omega arith
mask_fits (m ∷ ms) x all = or_lt 32 (if bit_and x m.old == 0 then 0 else m.new) (mask_by ms x) (cases (bit_and x m.old == 0)) (mask_fits ms x all.1)
  where
    cases : (b : Bool) → (if b then 0 else m.new) < 2 ^ 32
    cases true = omega arith
    cases false = all.0

area_fits : (ms : List Move) (x : ℕ) → AllByRecursion (λ (m : Move). m.new < 2 ^ 32) ms → x < 2 ^ 32 → area_by ms x < 2 ^ 32
area_fits [] x all fit = fit
area_fits (m ∷ ms) x all fit = cases (m.old == x) (area_fits ms x all.1 fit)
  where
    cases : (b : Bool) → area_by ms x < 2 ^ 32 → (if b then m.new else area_by ms x) < 2 ^ 32
    cases true others = all.0
    cases false others = others

row_fits : (a n : ℕ) → a + n ≤ 256 → Are32 (range_with_len a n)
row_fits a zero few = tt
row_fits a (suc n) few = (omega arith, row_fits (a + 1) n (omega arith))

bits_fit : Are32 one_bit_masks
bits_fit = (omega arith, (omega arith, (omega arith, (omega arith, (omega arith, (omega arith, (omega arith, (omega arith, (omega arith, (omega arith, (omega arith, (omega arith, (omega arith, (omega arith, (omega arith, (omega arith, (omega arith, (omega arith, (omega arith, (omega arith, (omega arith, (omega arith, (omega arith, (omega arith, (omega arith, (omega arith, (omega arith, (omega arith, (omega arith, (omega arith, (omega arith, (omega arith, tt))))))))))))))))))))))))))))))))

first_fits : (a : List Component) → AllByRecursion IsComponent a → Fits32 (mask_by (first_masks a))
first_fits a all x fit =
    mask_fits (first_masks a) x (moves_fit (masks_in a) (masks_in a) (subst Are32 (sym (masks_from 0 (headers_in a))) (masks_fit a all)))

second_fits : (a b : List Component) → Fits32 (mask_by (second_masks a b))
unfolding second_masks
second_fits a b x fit =
    mask_fits (moves (masks_in b) (free (masks_in a) one_bit_masks)) x
    (moves_fit (masks_in b) (free (masks_in a) one_bit_masks) (free_all (λ m. m < 2 ^ 32) (masks_in a) one_bit_masks bits_fit))

areas_fit32 : (a b : List Component) → Fits32 (area_by (second_areas a b))
unfolding second_areas
areas_fit32 a b x fit =
    area_fits (moves (areas_in b) (free (areas_in a) (range_with_len 0 256))) x
    (moves_fit (areas_in b) (free (areas_in a) (range_with_len 0 256)) (free_all (λ m. m < 2 ^ 32) (areas_in a) (range_with_len 0 256) (row_fits 0 256 (omega arith)))) fit

-- ---- the joined list

three_lengths : (parts : List Component) → length (first_part parts) + length (second_part parts) + length (third_part parts) ≡ length parts
three_lengths parts =
    ap (λ n. n + length (third_part parts)) (sym (length-append (first_part parts) (second_part parts)))
    ∙ sym (length-append (first_part parts ++ second_part parts) (third_part parts))
    ∙ ap length (parts_are_whole parts)

six_lengths : (p q r s t u : List Component) → length (p ++ q ++ r ++ s ++ t ++ u) ≡ length p + length q + length r + length s + length t + length u
six_lengths p q r s t u =
    length-append (p ++ q ++ r ++ s ++ t) u
    ∙ ap (λ n. n + length u) (length-append (p ++ q ++ r ++ s) t
    ∙ ap (λ n. n + length t) (length-append (p ++ q ++ r) s
    ∙ ap (λ n. n + length s) (length-append (p ++ q) r
    ∙ ap (λ n. n + length r) (length-append p q))))

pub joined_length : (a b : List Component) → length (joined_parts a b) ≡ length a + length b
unfolding joined_parts
joined_length a b =
    let all = six_lengths (map (of_first a) (first_part a)) (map (of_second a b) (first_part b)) (map (of_first a) (second_part a)) (map (of_second a b) (second_part b)) (map (of_first a) (third_part a)) (map (of_second a b) (third_part b)) in
    let one = three_lengths a in let two = three_lengths b in
    let l1 = length-map (first_part a) (of_first a) in let l2 = length-map (first_part b) (of_second a b) in
    let l3 = length-map (second_part a) (of_first a) in let l4 = length-map (second_part b) (of_second a b) in
    let l5 = length-map (third_part a) (of_first a) in let l6 = length-map (third_part b) (of_second a b) in
    omega (arith, all, one, two, l1, l2, l3, l4, l5, l6)

pub joined_each : (a b : List Component) → AllByRecursion IsComponent a → AllByRecursion IsComponent b → AllByRecursion IsComponent (joined_parts a b)
unfolding joined_parts
joined_each a b one two =
    all_turned IsComponent (of_first a) (of_second a b) a b
    (all_so IsComponent (λ c. IsComponent (of_first a c))
    (λ c is. component_changed (mask_by (first_masks a)) same (first_fits a one) (λ n fit. fit) c is) a one)
    (all_so IsComponent (λ c. IsComponent (of_second a b c))
    (λ c is. component_changed (mask_by (second_masks a b)) (area_by (second_areas a b)) (second_fits a b) (areas_fit32 a b) c is) b two)

pub joined_is_valid : (a b : List Component) → IsValid a → IsValid b → FitTogether a b → length a + length b < 2 ^ 32 → IsValid (joined_parts a b)
joined_is_valid a b one two fit few = record {
  kept = joined_valid a b one.kept two.kept fit;
  fits = record {
    few = (let size = joined_length a b in omega (arith, size, few));
    each = joined_each a b one.fits.each two.fits.each;
  };
}

-- in the first's version
pub joined_is_list : (first second : ImageParts) → IsList first → IsList second → FitTogether first.parts second.parts
    → length first.parts + length second.parts < 2 ^ 32 → IsList (joined first second)
joined_is_list first second one two fit few = record {
  known = one.known;
  valid = joined_is_valid first.parts second.parts one.valid two.valid fit few;
}
