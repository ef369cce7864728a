-- The rules on a header behind others, in words: a walk over the headers before it, and the same said of each of them.
use Rattle.std.proofs.Common.{◌≡◌, ℕ, zero, suc, ◌+◌, ◌/◌, ◌^◌, ◌<◌, ◌≤◌, max, List, [], ◌∷◌, ◌++◌, length, take, refl, sym, ◌∙◌, ap, ap₂, append_assoc, append-nil, arith, Bool, true, false, ◌||◌, not, cond, ltb, Option, Some, None, is_some, is_none, option_map, Decides, Any, fold, find, sum_by, count_by, slice_get, ◌↔◌}
use Rattle.std.specs.Prelude.{◌==◌, nat_lt, nat_le, unwrap_or}
use Rattle.std.specs.List.{list_any, range_with_len, cons_option}
use Rattle.std.specs.Option.{option_map_or, option_to_list}
use Rattle.std.proofs.lemmas.Bool.{eqb-true, eq-eqb, le-ltb, leb-true, le-leb}
use Rattle.std.proofs.lemmas.List.Sums.{sum_by-cons}
use Rattle.std.proofs.lemmas.Bool.Decides.{Decides-at, Decides-ltb, Decides-and, Decides-or, Decides-not, nat_tests}
use Rattle.std.proofs.lemmas.List.Folds.{Any-from_list_any, list_any-from_Any, list_any-append}
use Rattle.igvm_headers.specs.HeaderFacts.{class_of}
use Rattle.igvm_headers.specs.declared.header.Header.{Header}
use Rattle.igvm_headers.specs.declared.header.Header.TheVariants.{Platform, Area, Insert, Param}
use Rattle.platform_masks.specs.declared.platform.Platform as platform
use Rattle.platform_masks.specs.Platforms.{platform_of, platforms_from, platforms_of}
use Rattle.igvm_image.specs.declared.area_table.AreaEntry.{AreaEntry}
use Rattle.igvm_image.specs.Areas.{areas_of, area_entry, area_size, placed_pages}
use Rattle.igvm_image.specs.HeaderRules.{seen_of, latest_class, named_from, named_pages, is_one_bit, breaks_order, breaks_mask, breaks_area_limit, breaks_area_repeated, breaks_area_unknown, breaks_wrap, breaks_pages}
use Rattle.igvm_image.specs.RulesInWords.{platform_mask, declared_area, declared_bytes, declares, IsDeclared, bytes_of_area, pages_behind, pages_at, all_pages, FollowsLater, LacksOwnBit, DeclaresTooMany, DeclaresAgain, NamesUndeclared, InsertsPastEnd, PlacesTooMany}
use Rattle.igvm_image.proofs.RulesLemmas.{areas_of-cons}
use Rattle.igvm_image.proofs.OneBitLemmas.{Decides-is_one_bit}

-- a test of some element, where the test of each is known
Decides-any : (p : Header → Bool) (P : Header → Type 0) → ((h : Header) → Decides (p h) (P h))
    → (hs : List Header) → Decides (list_any p hs) (Any P hs)
Decides-any p P each hs = (
  (λ some. let a = Any-from_list_any p hs some in (a.0, a.1, a.2, a.3, (each a.1).0 a.4)),
  (λ a. list_any-from_Any p hs (a.0, a.1, a.2, a.3, (each a.1).1 a.4)),
)

-- a rule of headers of another kind
never : Decides false ⊥
never = ((λ h. cc), (λ none. absurd none))

never_such : (P : Type 0) → Decides false ((false ≡ true) × P)
never_such P = ((λ h. cc), (λ both. both.0))

-- a fact beside one that is plain
beside : (b : Bool) (P : Type 0) → Decides b P → Decides b ((true ≡ true) × P)
beside b P d = ((λ h. (refl, d.0 h)), (λ both. d.1 both.1))

Decides-some : (o : Option ℕ) (n : ℕ) → Decides (option_map_or (λ (m : ℕ). m == n) o false) (o ≡ Some n)
Decides-some None n = ((λ h. cc), (λ h. cc))
Decides-some (Some m) n = ((λ h. ap Some (eqb-true m n h)), (λ h. eq-eqb m n cc))

or-false : (b : Bool) → (b || false) ≡ b
or-false true = refl
or-false false = refl

-- ---- order

above_max : (class a b : ℕ) (more : Bool)
    → (ltb class (max a b) || more) ≡ (ltb class a || (ltb class b || more))
above_max class a b more = grind (arith, nat_tests)

-- the latest class is above a number where one of the classes is
latest-above : (class latest : ℕ) (hs : List Header)
    → nat_lt class (fold (λ (l : ℕ) (h : Header). max l (class_of h)) latest hs)
    ≡ (nat_lt class latest || list_any (λ h. nat_lt class (class_of h)) hs)
latest-above class latest [] = sym (or-false (ltb class latest))
latest-above class latest (h ∷ hs) =
    latest-above class (max latest (class_of h)) hs
    ∙ above_max class latest (class_of h) (list_any (λ g. nat_lt class (class_of g)) hs)

Decides-has_class : (class : ℕ) → Decides (not (class == 0)) (0 < class)
Decides-has_class class = ((λ h. grind (arith, nat_tests)), (λ h. grind (arith, nat_tests)))

pub order_said : (before : List Header) (h : Header) → (breaks_order (seen_of before) h ≡ true) ↔ FollowsLater before h
order_said before h =
    let class = class_of h in
    let later = list_any (λ g. nat_lt class (class_of g)) before in
    let same : nat_lt class (latest_class before) ≡ later =
    latest-above class 0 before ∙ ap (λ b. b || later) (le-ltb class 0 (omega arith)) in
    Decides-and _ _ (Decides-has_class class)
    (Decides-at _ _ same
    (Decides-any (λ g. nat_lt class (class_of g)) (λ g. class < class_of g) (λ g. Decides-ltb class (class_of g)) before))

-- ---- mask

-- it is a platform of this mask
abbrev has_mask : ℕ → Header → Bool
has_mask mask h = option_map_or (λ (m : ℕ). m == mask) (platform_mask h) false

platform_any : (n mask : ℕ) (h : Header) → list_any (λ p. p.mask == mask) (platform_of n h) ≡ has_mask mask h
platform_any n mask (Platform m highest_vtl kind version shared_gpa) = or-false (m == mask)
platform_any n mask _ = refl

platforms_any : (n mask : ℕ) (hs : List Header)
    → list_any (λ p. p.mask == mask) (platforms_from n hs) ≡ list_any (has_mask mask) hs
unfolding platforms_from
platforms_any n mask [] = refl
platforms_any n mask (h ∷ hs) =
    let behind = n + length (platform_of n h) in
    list_any-append (λ (p : platform.Platform). p.mask == mask) (platform_of n h) (platforms_from behind hs)
    ∙ ap₂ ◌||◌ (platform_any n mask h) (platforms_any behind mask hs)

Decides-taken : (mask : ℕ) (hs : List Header)
    → Decides (list_any (λ p. p.mask == mask) (platforms_of hs)) (Any (λ h. platform_mask h ≡ Some mask) hs)
Decides-taken mask hs =
    Decides-at _ _ (platforms_any 0 mask hs)
    (Decides-any (has_mask mask) (λ h. platform_mask h ≡ Some mask) (λ h. Decides-some (platform_mask h) mask) hs)

pub mask_said : (before : List Header) (h : Header) → (breaks_mask (seen_of before) h ≡ true) ↔ LacksOwnBit before h
mask_said before (Platform mask highest_vtl kind version shared_gpa) =
    Decides-or _ _ (Decides-not (is_one_bit mask) (Decides-is_one_bit mask)) (Decides-taken mask before)
mask_said before _ = never

-- ---- areas

length-entry : (h : Header) (more : List AreaEntry)
    → length (cons_option (area_entry h) more) ≡ cond (is_some (declared_area h)) 1 0 + length more
length-entry (Area bytes area offset) more = omega arith
length-entry _ more = omega arith

length-areas : (hs : List Header) → length (areas_of hs) ≡ count_by (λ h. is_some (declared_area h)) hs
length-areas [] = refl
length-areas (h ∷ hs) =
    length-entry h (areas_of hs)
    ∙ ap (λ n. cond (is_some (declared_area h)) 1 0 + n) (length-areas hs)
    ∙ sym (sum_by-cons (λ g. cond (is_some (declared_area g)) 1 0) h hs)

Decides-many : (hs : List Header)
    → Decides (nat_le 256 (length (areas_of hs))) (256 ≤ count_by (λ h. is_some (declared_area h)) hs)
Decides-many hs =
    let count = count_by (λ h. is_some (declared_area h)) hs in
    Decides-at _ _ (ap (λ n. nat_le 256 n) (length-areas hs)) (leb-true 256 count, le-leb 256 count)

pub area_limit_said : (before : List Header) (h : Header)
    → (breaks_area_limit (seen_of before) h ≡ true) ↔ DeclaresTooMany before h
area_limit_said before (Area bytes area offset) = beside _ _ (Decides-many before)
area_limit_said before _ = never_such _

-- the first that passes, in two lists
first_of_both : (b : Bool) (entry : AreaEntry) (h : Header) (x : Option AreaEntry) (y : Option Header)
    → entry.bytes ≡ declared_bytes h → option_map (λ e. e.bytes) x ≡ option_map declared_bytes y
    → option_map (λ e. e.bytes) (cond b (Some entry) x) ≡ option_map declared_bytes (cond b (Some h) y)
first_of_both true entry h x y here behind = ap Some here
first_of_both false entry h x y here behind = behind

-- an area's size is that of the first header that declares it
size-declared : (area : ℕ) (hs : List Header)
    → area_size (areas_of hs) area ≡ option_map declared_bytes (find (declares area) hs)
size-declared area [] = refl
size-declared area (h ∷ hs) = step h (size-declared area hs)
  where
    step : (h : Header) → area_size (areas_of hs) area ≡ option_map declared_bytes (find (declares area) hs)
        → area_size (areas_of (h ∷ hs)) area ≡ option_map declared_bytes (find (declares area) (h ∷ hs))
    step (Area bytes index offset) same =
        first_of_both (index == area) (record { area = index; bytes = bytes }) (Area bytes index offset)
        (find (λ e. e.area == area) (areas_of hs)) (find (declares area) hs) refl same
    step _ same = same

some_found : (p : Header → Bool) (hs : List Header) → is_some (option_map declared_bytes (find p hs)) ≡ list_any p hs
some_found p [] = refl
some_found p (h ∷ hs) = step (p h) (some_found p hs)
  where
    step : (b : Bool) → is_some (option_map declared_bytes (find p hs)) ≡ list_any p hs
        → is_some (option_map declared_bytes (cond b (Some h) (find p hs))) ≡ (b || list_any p hs)
    step true same = refl
    step false same = same

some-declared : (area : ℕ) (hs : List Header) → is_some (area_size (areas_of hs) area) ≡ list_any (declares area) hs
some-declared area hs = ap is_some (size-declared area hs) ∙ some_found (declares area) hs

none_is_not_some : (o : Option ℕ) → is_none o ≡ not (is_some o)
none_is_not_some None = refl
none_is_not_some (Some n) = refl

Decides-declared : (area : ℕ) (hs : List Header) → Decides (is_some (area_size (areas_of hs) area)) (IsDeclared hs area)
Decides-declared area hs =
    Decides-at _ _ (some-declared area hs)
    (Decides-any (declares area) (λ h. declared_area h ≡ Some area) (λ h. Decides-some (declared_area h) area) hs)

Decides-undeclared : (area : ℕ) (hs : List Header) → Decides (is_none (area_size (areas_of hs) area)) (¬ IsDeclared hs area)
Decides-undeclared area hs =
    Decides-at _ _ (none_is_not_some (area_size (areas_of hs) area)) (Decides-not _ (Decides-declared area hs))

pub area_repeated_said : (before : List Header) (h : Header)
    → (breaks_area_repeated (seen_of before) h ≡ true) ↔ DeclaresAgain before h
area_repeated_said before (Area bytes area offset) = Decides-declared area before
area_repeated_said before _ = never

pub area_unknown_said : (before : List Header) (h : Header)
    → (breaks_area_unknown (seen_of before) h ≡ true) ↔ NamesUndeclared before h
area_unknown_said before (Insert gpa mask area) = Decides-undeclared area before
area_unknown_said before (Param kind area byte_offset) = Decides-undeclared area before
area_unknown_said before _ = never

-- ---- bytes and pages

mapped_or : (o : Option Header) → unwrap_or (option_map declared_bytes o) 0 ≡ option_map_or declared_bytes o 0
mapped_or None = refl
mapped_or (Some h) = refl

bytes-declared : (area : ℕ) (hs : List Header) → unwrap_or (area_size (areas_of hs) area) 0 ≡ bytes_of_area hs area
bytes-declared area hs =
    ap (λ (size : Option ℕ). unwrap_or size 0) (size-declared area hs) ∙ mapped_or (find (declares area) hs)

pub wrap_said : (before : List Header) (h : Header) → (breaks_wrap (seen_of before) h ≡ true) ↔ InsertsPastEnd before h
wrap_said before (Insert gpa mask area) =
    beside _ _
    (Decides-at _ _ (ap (λ bytes. nat_lt (2 ^ 64) (gpa + bytes)) (bytes-declared area before))
    (Decides-ltb (2 ^ 64) (gpa + bytes_of_area before area)))
wrap_said before _ = never_such _

placed-behind : (hs : List Header) (h : Header) → placed_pages (areas_of hs) h ≡ pages_behind hs h
placed-behind hs (Insert gpa mask area) = ap (λ bytes. bytes / 4096) (bytes-declared area hs)
placed-behind hs _ = refl

-- the pages that header k places, where areas are known from before
abbrev placed_at : List AreaEntry → List Header → ℕ → ℕ
placed_at areas hs k = option_map_or (λ h. placed_pages (areas ++ areas_of (take k hs)) h) (slice_get hs k) 0

sum_same : (f g : ℕ → ℕ) (ks : List ℕ) → ((k : ℕ) → f k ≡ g k) → sum_by f ks ≡ sum_by g ks
sum_same f g ks same = λ i. sum_by (λ k. same k i) ks

sum_shifted : (f : ℕ → ℕ) (a n : ℕ) → sum_by f (range_with_len (suc a) n) ≡ sum_by (λ k. f (suc k)) (range_with_len a n)
sum_shifted f a zero = refl
sum_shifted f a (suc n) =
    let next : suc a + 1 ≡ suc (a + 1) = omega arith in
    sum_by-cons f (suc a) (range_with_len (suc a + 1) n)
    ∙ ap (λ b. f (suc a) + sum_by f (range_with_len b n)) next
    ∙ ap (λ rest. f (suc a) + rest) (sum_shifted f (a + 1) n)
    ∙ sym (sum_by-cons (λ k. f (suc k)) a (range_with_len (a + 1) n))

-- areas known from before, with those that a header and others declare
known_more : (areas : List AreaEntry) (h : Header) (hs : List Header)
    → areas ++ areas_of (h ∷ hs) ≡ (areas ++ option_to_list (area_entry h)) ++ areas_of hs
known_more areas h hs =
    ap (λ more. areas ++ more) (areas_of-cons h hs) ∙ sym (append_assoc areas (option_to_list (area_entry h)) (areas_of hs))

named-sum : (areas : List AreaEntry) (hs : List Header)
    → named_from areas hs ≡ sum_by (placed_at areas hs) (range_with_len 0 (length hs))
named-sum areas [] = refl
named-sum areas (h ∷ hs) =
    let known = areas ++ option_to_list (area_entry h) in
    let indices = range_with_len 0 (length hs) in
    let here = ap (λ all. placed_pages all h) (sym (append-nil areas)) in
    let behind = λ (k : ℕ). ap (λ all. option_map_or (placed_pages all) (slice_get hs k) 0) (sym (known_more areas h (take k hs))) in
    ap₂ ◌+◌ here (named-sum known hs ∙ sum_same (placed_at known hs) (λ k. placed_at areas (h ∷ hs) (suc k)) indices behind
    ∙ sym (sum_shifted (placed_at areas (h ∷ hs)) 0 (length hs)))
    ∙ sym (sum_by-cons (placed_at areas (h ∷ hs)) 0 (range_with_len 1 (length hs)))

pages_at_same : (hs : List Header) (k : ℕ) → placed_at [] hs k ≡ pages_at hs k
pages_at_same hs k = λ i. option_map_or (λ h. placed-behind (take k hs) h i) (slice_get hs k) 0

all-pages : (hs : List Header) → named_pages hs ≡ all_pages hs
all-pages hs =
    named-sum [] hs ∙ sum_same (placed_at [] hs) (pages_at hs) (range_with_len 0 (length hs)) (pages_at_same hs)

pub pages_said : (before : List Header) (h : Header) → (breaks_pages (seen_of before) h ≡ true) ↔ PlacesTooMany before h
pages_said before h =
    Decides-at _ _ (ap (λ n. nat_lt 4194304 n) (ap₂ ◌+◌ (all-pages before) (placed-behind before h)))
    (Decides-ltb 4194304 (all_pages before + pages_behind before h))
