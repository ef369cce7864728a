-- Each of two lists set side by side with the list that joins them, step by step.
use Rattle.std.proofs.Common.{◌≡◌, ℕ, List, [], ◌∷◌, ◌++◌, map, refl, sym, ◌∙◌, ap, ap₂, Option, Some, None, Bool, true, false}
use Rattle.std.specs.Prelude.{◌||◌, not}
use Rattle.std.specs.Option.{option_map}
use Rattle.std.specs.List.{AllByRecursion, slice_get}
use Rattle.std.proofs.lemmas.List.{map-append}
use Rattle.igvm_headers.specs.HeaderFacts.{is_for_all, mask_of, with_offset}
use Rattle.igvm_headers.specs.declared.header.Header.{Header}
use Rattle.igvm_headers.specs.declared.header.Header.TheVariants.{Area, Insert, Param}
use Rattle.platform_masks.specs.Masks.{applies, shares_bit}
use Rattle.component_list.specs.declared.component.Component.{Component}
use Rattle.list_changes.specs.Changes.{changed, changed_part, same}
use Rattle.list_changes.proofs.Bits.{IsBit}
use Rattle.list_changes.proofs.Kept.{NamesOf, has}
use Rattle.list_changes.proofs.Numbered.{IsSound}
use Rattle.launch_likeness.proofs.Steps.{AreSteps, Both, Change, Come, Gone, IsForeign, IsOther, IsStep, NamesOwn, Step, firsts, seconds}
use Rattle.launch_likeness.proofs.Listed.{as_placed, changed_part_same, listed, place_of_content}
use Rattle.joined_list.specs.Joined.{joined_parts, of_first, of_second}
use Rattle.joined_list.specs.NewNumbers.{area_by, areas_in, first_masks, list_areas, mask_by, second_areas, second_masks}
use Rattle.joined_list.specs.declared.moves.Move.{Move}
use Rattle.joined_list.proofs.Declared.{DeclaredIn, each_declared, sized_is_in}
use Rattle.joined_list.proofs.EachElement.{all_so, both_so}
use Rattle.joined_list.proofs.NewMasks.{AreMoves, bit_given, gives, none_given}
use Rattle.joined_list.proofs.Turns.{all_turned, by_turns, first_left, second_left, turned}

-- ---- steps of a list

-- a component beside itself changed
abbrev pub both_of : (Component → Component) → Component → Step
both_of change c = Both (as_placed c) (as_placed (change c))

-- a changed component alone
abbrev pub come_of : (Component → Component) → Component → Step
come_of change c = Come (as_placed (change c))

firsts_both : (change : Component → Component) (cs : List Component) → firsts (map (both_of change) cs) ≡ map as_placed cs
firsts_both change [] = refl
firsts_both change (c ∷ cs) = ap (λ ps. as_placed c ∷ ps) (firsts_both change cs)

firsts_come : (change : Component → Component) (cs : List Component) → firsts (map (come_of change) cs) ≡ []
firsts_come change [] = refl
firsts_come change (c ∷ cs) = firsts_come change cs

seconds_both : (change : Component → Component) (cs : List Component) → seconds (map (both_of change) cs) ≡ map (λ c. as_placed (change c)) cs
seconds_both change [] = refl
seconds_both change (c ∷ cs) = ap (λ ps. as_placed (change c) ∷ ps) (seconds_both change cs)

seconds_come : (change : Component → Component) (cs : List Component) → seconds (map (come_of change) cs) ≡ map (λ c. as_placed (change c)) cs
seconds_come change [] = refl
seconds_come change (c ∷ cs) = ap (λ ps. as_placed (change c) ∷ ps) (seconds_come change cs)

listed_map : (change : Component → Component) (cs : List Component) → listed (map change cs) ≡ map (λ c. as_placed (change c)) cs
listed_map change [] = refl
listed_map change (c ∷ cs) = ap (λ ps. as_placed (change c) ∷ ps) (listed_map change cs)

firsts_through : (xs ys : List Step) → firsts (xs ++ ys) ≡ firsts xs ++ firsts ys
firsts_through [] ys = refl
firsts_through (Both p q ∷ xs) ys = ap (λ ps. p ∷ ps) (firsts_through xs ys)
firsts_through (Gone p ∷ xs) ys = ap (λ ps. p ∷ ps) (firsts_through xs ys)
firsts_through (Come q ∷ xs) ys = firsts_through xs ys

seconds_through : (xs ys : List Step) → seconds (xs ++ ys) ≡ seconds xs ++ seconds ys
seconds_through [] ys = refl
seconds_through (Both p q ∷ xs) ys = ap (λ ps. q ∷ ps) (seconds_through xs ys)
seconds_through (Gone p ∷ xs) ys = seconds_through xs ys
seconds_through (Come q ∷ xs) ys = ap (λ ps. q ∷ ps) (seconds_through xs ys)

-- ---- steps of two lists

-- the first list beside the joined one
abbrev pub first_steps : List Component → List Component → List Step
first_steps a b = by_turns (both_of (of_first a)) (come_of (of_second a b)) a b

-- the second
abbrev pub second_steps : List Component → List Component → List Step
second_steps a b = by_turns (come_of (of_first a)) (both_of (of_second a b)) a b

joined_listed : (a b : List Component) → listed (joined_parts a b) ≡ by_turns (λ c. as_placed (of_first a c)) (λ c. as_placed (of_second a b c)) a b
unfolding joined_parts
joined_listed a b =
    turned listed (map-append as_placed) (of_first a) (of_second a b) (λ c. as_placed (of_first a c)) (λ c. as_placed (of_second a b c))
    (listed_map (of_first a)) (listed_map (of_second a b)) a b

pub first_firsts : (a b : List Component) → firsts (first_steps a b) ≡ listed a
first_firsts a b =
    first_left firsts firsts_through (both_of (of_first a)) (come_of (of_second a b)) as_placed (map-append as_placed)
    (firsts_both (of_first a)) (firsts_come (of_second a b)) a b

pub first_seconds : (a b : List Component) → seconds (first_steps a b) ≡ listed (joined_parts a b)
first_seconds a b =
    turned seconds seconds_through (both_of (of_first a)) (come_of (of_second a b)) (λ c. as_placed (of_first a c)) (λ c. as_placed (of_second a b c))
    (seconds_both (of_first a)) (seconds_come (of_second a b)) a b
    ∙ sym (joined_listed a b)

pub second_firsts : (a b : List Component) → firsts (second_steps a b) ≡ listed b
second_firsts a b =
    second_left firsts firsts_through (come_of (of_first a)) (both_of (of_second a b)) as_placed (map-append as_placed)
    (firsts_come (of_first a)) (firsts_both (of_second a b)) a b

pub second_seconds : (a b : List Component) → seconds (second_steps a b) ≡ listed (joined_parts a b)
second_seconds a b =
    turned seconds seconds_through (come_of (of_first a)) (both_of (of_second a b)) (λ c. as_placed (of_first a c)) (λ c. as_placed (of_second a b c))
    (seconds_come (of_first a)) (seconds_both (of_second a b)) a b
    ∙ sym (joined_listed a b)

-- ---- which headers count

mask_changed : (mask_to area_to : ℕ → ℕ) (h : Header) → mask_of (changed mask_to area_to h) ≡ option_map mask_to (mask_of h)
mask_changed mask_to area_to (Area bytes area offset) = refl
mask_changed mask_to area_to h = refl

for_all_changed : (mask_to area_to : ℕ → ℕ) (h : Header) → is_for_all (changed mask_to area_to h) ≡ is_for_all h
for_all_changed mask_to area_to (Area bytes area offset) = refl
for_all_changed mask_to area_to h = refl

-- a header counts by its changed mask where this mask counts
changed_applies : (mask_to area_to : ℕ → ℕ) (m : ℕ) (h : Header)
    → applies (changed mask_to area_to h) m ≡ (is_for_all h || shares_bit (option_map mask_to (mask_of h)) m)
changed_applies mask_to area_to m h = ap₂ (λ b mask. b || shares_bit mask m) (for_all_changed mask_to area_to h) (mask_changed mask_to area_to h)

-- a header of a list counts for its own platform where it did
own_applies : (ms : List Move) (k : ℕ) (move : Move) → AreMoves ms → slice_get ms k ≡ Some move → (area_to : ℕ → ℕ) (h : Header)
    → applies (changed (mask_by ms) area_to h) move.new ≡ applies h move.old
own_applies ms k move are here area_to h =
    changed_applies (mask_by ms) area_to move.new h ∙ ap (λ b. is_for_all h || b) (cases (mask_of h))
  where
    cases : (own : Option ℕ) → shares_bit (option_map (mask_by ms) own) move.new ≡ shares_bit own move.old
    cases None = refl
    cases (Some mask) = ap not (bit_given ms k move mask are here).0

-- and for no platform of the other list, unless it counts for all
other_applies : (ms : List Move) (m : ℕ) → AreMoves ms → IsBit m → gives ms m ≡ false → (area_to : ℕ → ℕ) (h : Header) → is_for_all h ≡ false
    → applies (changed (mask_by ms) area_to h) m ≡ false
other_applies ms m are is none area_to h masked =
    changed_applies (mask_by ms) area_to m h ∙ ap₂ (λ b c. b || c) masked (cases (mask_of h))
  where
    cases : (own : Option ℕ) → shares_bit (option_map (mask_by ms) own) m ≡ false
    cases None = refl
    cases (Some mask) = ap not (none_given ms m mask are is none)

-- ---- the areas that headers name

abbrev pub owns : List Component → ℕ → Bool
owns parts area = has area (areas_in parts)

named_own : (parts : List Component) (h : Header) → DeclaredIn (areas_in parts) h → NamesOf (list_areas parts) h → NamesOwn (owns parts) h
named_own parts (Area bytes area offset) declared named = declared
named_own parts (Insert gpa mask area) declared named = sized_is_in area (list_areas parts) named
named_own parts (Param kind area byte_offset) declared named = sized_is_in area (list_areas parts) named
named_own parts h declared named = tt

-- each area that a list's headers name is its own
all_own : (parts : List Component) → IsSound parts → AllByRecursion (λ c. NamesOwn (owns parts) c.header) parts
all_own parts is =
    both_so (λ c. DeclaredIn (areas_in parts) c.header) (λ c. NamesOf (list_areas parts) c.header) (λ c. NamesOwn (owns parts) c.header)
    (λ c declared named. named_own parts c.header declared named) parts (each_declared parts) is.names

-- ---- what each step is

foreign : (ch : Change) (ms : List Move) → AreMoves ms → IsBit ch.new → gives ms ch.new ≡ false
    → (area_to : ℕ → ℕ) (own : ℕ → Bool) → ((area : ℕ) → own area ≡ true → IsOther ch (area_to area))
    → (at : ℕ) (h : Header) → NamesOwn own h → IsForeign ch (with_offset at (changed (mask_by ms) area_to h))
foreign ch ms are is none area_to own others at (Area bytes area offset) named = others area named
foreign ch ms are is none area_to own others at (Param kind area byte_offset) named = others area named
foreign ch ms are is none area_to own others at h named = other_applies ms ch.new are is none area_to h refl

-- the masks and areas of a list beside those of another: the bit of one platform of the first, where the second has none
pub record StandsApart (ch : Change) (own_masks other_masks : List Move) (other_area : ℕ → ℕ) (others : ℕ → Bool) : Type 0 where
  pub place : ℕ
  pub here : slice_get own_masks place ≡ Some (record { old = ch.old; new = ch.new })
  pub own : AreMoves own_masks
  pub other : AreMoves other_masks
  pub none : gives other_masks ch.new ≡ false
  pub areas : (area : ℕ) → others area ≡ true → IsOther ch (other_area area)

own_step : (ch : Change) (own_masks other_masks : List Move) (other_area : ℕ → ℕ) (others : ℕ → Bool)
    → StandsApart ch own_masks other_masks other_area others → (c : Component) → NamesOwn ch.own c.header
    → IsStep ch (both_of (changed_part (mask_by own_masks) ch.area_to) c)
own_step ch own_masks other_masks other_area others apart c named =
    changed_part_same ch (mask_by own_masks) c
    (own_applies own_masks apart.place (record { old = ch.old; new = ch.new }) apart.own apart.here ch.area_to c.header) named

other_step : (ch : Change) (own_masks other_masks : List Move) (other_area : ℕ → ℕ) (others : ℕ → Bool)
    → StandsApart ch own_masks other_masks other_area others → (c : Component) → NamesOwn others c.header
    → IsStep ch (come_of (changed_part (mask_by other_masks) other_area) c)
other_step ch own_masks other_masks other_area others apart c named =
    foreign ch other_masks apart.other (bit_given own_masks apart.place (record { old = ch.old; new = ch.new }) 0 apart.own apart.here).1
    apart.none other_area others apart.areas (place_of_content c.content) c.header named

-- ---- a platform of each list

-- a platform of the first keeps its mask, and the areas their indices
abbrev pub first_change : List Component → ℕ → Change
first_change a mask = record { old = mask; new = mask; own = owns a; area_to = same }

-- a platform of the second has a new mask, and the areas have new indices
abbrev pub second_change : List Component → List Component → ℕ → Change
second_change a b mask = record { old = mask; new = mask_by (second_masks a b) mask; own = owns b; area_to = area_by (second_areas a b) }

pub first_are : (a b : List Component) (mask : ℕ) → IsSound a → IsSound b
    → StandsApart (first_change a mask) (first_masks a) (second_masks a b) (area_by (second_areas a b)) (owns b)
    → AreSteps (first_change a mask) (first_steps a b)
first_are a b mask one other apart =
    let ch = first_change a mask in
    all_turned (IsStep ch) (both_of (of_first a)) (come_of (of_second a b)) a b
    (all_so (λ c. NamesOwn (owns a) c.header) (λ c. IsStep ch (both_of (of_first a) c))
    (λ c named. own_step ch (first_masks a) (second_masks a b) (area_by (second_areas a b)) (owns b) apart c named) a (all_own a one))
    (all_so (λ c. NamesOwn (owns b) c.header) (λ c. IsStep ch (come_of (of_second a b) c))
    (λ c named. other_step ch (first_masks a) (second_masks a b) (area_by (second_areas a b)) (owns b) apart c named) b (all_own b other))

pub second_are : (a b : List Component) (mask : ℕ) → IsSound a → IsSound b
    → StandsApart (second_change a b mask) (second_masks a b) (first_masks a) same (owns a)
    → AreSteps (second_change a b mask) (second_steps a b)
second_are a b mask one other apart =
    let ch = second_change a b mask in
    all_turned (IsStep ch) (come_of (of_first a)) (both_of (of_second a b)) a b
    (all_so (λ c. NamesOwn (owns a) c.header) (λ c. IsStep ch (come_of (of_first a) c))
    (λ c named. other_step ch (second_masks a b) (first_masks a) same (owns a) apart c named) a (all_own a one))
    (all_so (λ c. NamesOwn (owns b) c.header) (λ c. IsStep ch (both_of (of_second a b) c))
    (λ c named. own_step ch (second_masks a b) (first_masks a) same (owns a) apart c named) b (all_own b other))
