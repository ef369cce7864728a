-- Two headers share a page exactly where the ranges of their pages' numbers meet.
use Rattle.std.proofs.Common.{◌≡◌, ℕ, ◌+◌, ◌-◌, ◌*◌, ◌/◌, ◌%◌, ◌<◌, List, [], ◌∷◌, length, get_or, refl, sym, ◌∙◌, ap, subst, arith, Bool, true, false, ◌&&◌, ◌||◌, nat_lt, ◌==◌, inl, inr}
use Rattle.std.specs.Prelude.{if◌then◌else◌}
use Rattle.std.specs.List.{list_any, AllByRecursion}
use Rattle.std.proofs.lemmas.Bool.Decides.{nat_tests}
use Rattle.std.proofs.lemmas.Bool.{cases_lt}
use Rattle.std.proofs.lemmas.List.Folds.{Any-from_list_any, list_any_at}
use Rattle.std.proofs.lemmas.List.FromFn.{length-map-range_with_len, get_or-map-range_with_len}
use Rattle.igvm_headers.specs.declared.header.Header.{Header}
use Rattle.igvm_headers.specs.declared.header.Header.TheVariants.{Page, Insert}
use Rattle.igvm_image.specs.declared.area_table.AreaEntry.{AreaEntry}
use Rattle.igvm_image.specs.PagesFit.{PagesFit}
use Rattle.igvm_headers.specs.HeaderFacts.{gpa_of}
use Rattle.igvm_image.specs.Areas.{placed_pages}
use Rattle.directive_rules.specs.PageRanges.{meets, pages_range, range_passes}
use Rattle.directive_rules.specs.PageAddresses.{page_row, have_common, share_page}

pub bool_same : (b c : Bool) → (b ≡ true → c ≡ true) → (c ≡ true → b ≡ true) → b ≡ c
bool_same true c there back = sym (there refl)
bool_same false true there back = back refl
bool_same false false there back = refl

-- page i of one row and page j of the other are one
pub record IsCommon (g n h m i j : ℕ) : Type 0 where
  pub first : i < n
  pub second : j < m
  pub same : g + 4096 * i ≡ h + 4096 * j

same_number : (x y : ℕ) → (x == y) ≡ true → x ≡ y
same_number x y h = grind (arith, nat_tests)

number_same : (x y : ℕ) → x ≡ y → (x == y) ≡ true
number_same x y h = grind (arith, nat_tests)

pub common_from : (g n h m : ℕ) → have_common (page_row g n) (page_row h m) ≡ true → (i : ℕ) × (j : ℕ) × IsCommon g n h m i j
unfolding have_common page_row
common_from g n h m there =
    let xs = page_row g n in
    let ys = page_row h m in
    let outer = Any-from_list_any (λ x. list_any (λ y. x == y) ys) xs there in
    let i = outer.0 in
    let few : i < n = subst (λ l. i < l) (length-map-range_with_len (λ k. g + 4096 * k) 0 n) outer.2 in
    let x : outer.1 ≡ g + 4096 * i = sym outer.3 ∙ get_or-map-range_with_len (λ k. g + 4096 * k) 0 n i i outer.1 few (omega arith) in
    let inner = Any-from_list_any (λ y. outer.1 == y) ys outer.4 in
    let j = inner.0 in
    let few' : j < m = subst (λ l. j < l) (length-map-range_with_len (λ k. h + 4096 * k) 0 m) inner.2 in
    let y : inner.1 ≡ h + 4096 * j = sym inner.3 ∙ get_or-map-range_with_len (λ k. h + 4096 * k) 0 m j j inner.1 few' (omega arith) in
    (i, j, record { first = few; second = few'; same = sym x ∙ same_number _ _ inner.4 ∙ y })

pub common_at : (g n h m i j : ℕ) → IsCommon g n h m i j → have_common (page_row g n) (page_row h m) ≡ true
unfolding have_common page_row
common_at g n h m i j c =
    let xs = page_row g n in
    let ys = page_row h m in
    let few : i < length xs = rw (length-map-range_with_len (λ k. g + 4096 * k) 0 n) c.first in
    let few' : j < length ys = rw (length-map-range_with_len (λ k. h + 4096 * k) 0 m) c.second in
    let x : get_or xs i 0 ≡ g + 4096 * i = get_or-map-range_with_len (λ k. g + 4096 * k) 0 n i i 0 c.first (omega arith) in
    let y : get_or ys j 0 ≡ h + 4096 * j = get_or-map-range_with_len (λ k. h + 4096 * k) 0 m j j 0 c.second (omega arith) in
    list_any_at (λ x. list_any (λ y. x == y) ys) xs i 0 few
    (list_any_at (λ y. get_or xs i 0 == y) ys j 0 few' (number_same _ _ (x ∙ c.same ∙ sym y)))

-- ---- by the pages' numbers
ranges_meet : (g n h m i j : ℕ) → g % 4096 ≡ 0 → h % 4096 ≡ 0 → IsCommon g n h m i j
    → (nat_lt 0 n && (nat_lt 0 m && meets (g / 4096) (g / 4096 + n) (h / 4096, h / 4096 + m))) ≡ true
ranges_meet g n h m i j whole whole' c =
    let first : h / 4096 < g / 4096 + n = omega arith in
    let second : g / 4096 < h / 4096 + m = omega arith in
    let some : 0 < n = omega arith in
    let some' : 0 < m = omega arith in
    grind (arith, nat_tests)

meet_facts : (n m a b : ℕ) → (nat_lt 0 n && (nat_lt 0 m && meets a (a + n) (b, b + m))) ≡ true → (0 < n) × (0 < m) × (b < a + n) × (a < b + m)
meet_facts n m a b h = grind (arith, nat_tests)

meet_at : (g n h m : ℕ) → g % 4096 ≡ 0 → h % 4096 ≡ 0 → (0 < n) × (0 < m) × (h / 4096 < g / 4096 + n) × (g / 4096 < h / 4096 + m)
    → (i : ℕ) × (j : ℕ) × IsCommon g n h m i j
meet_at g n h m whole whole' f =
    elim (cases_lt (g / 4096) (h / 4096)) [
      | inl less ↦ (h / 4096 - g / 4096, 0, record { first = omega (arith, f.2); second = f.1; same = omega arith })
      | inr more ↦ (0, g / 4096 - h / 4096, record { first = f.0; second = omega (arith, f.3); same = omega arith })
    ]

pub rows_meet : (g n h m : ℕ) → g % 4096 ≡ 0 → h % 4096 ≡ 0
    → have_common (page_row g n) (page_row h m) ≡ (nat_lt 0 n && (nat_lt 0 m && meets (g / 4096) (g / 4096 + n) (h / 4096, h / 4096 + m)))
rows_meet g n h m whole whole' =
    bool_same _ _
    (λ there. let c = common_from g n h m there in ranges_meet g n h m c.0 c.1 whole whole' c.2)
    (λ back. let c = meet_at g n h m whole whole' (meet_facts n m (g / 4096) (h / 4096) back) in common_at g n h m c.0 c.1 c.2)

-- ---- of headers
large_is : (gpa : ℕ) (large : Bool) → gpa % (if large then 2097152 else 4096) ≡ 0 → gpa % 4096 ≡ 0
large_is gpa true h = omega arith
large_is gpa false h = h

pub aligned : (areas : List AreaEntry) (h : Header) → PagesFit areas h → gpa_of h % 4096 ≡ 0
aligned areas (Page gpa mask offset large unmeasured kind) fit = large_is gpa large fit
aligned areas (Insert gpa mask area) fit = fit.0
aligned areas _ fit = refl

pub share_is : (areas : List AreaEntry) (a b : Header) → PagesFit areas a → PagesFit areas b
    → share_page areas a b ≡ (nat_lt 0 (placed_pages areas a) && range_passes areas (meets (pages_range areas a).0 (pages_range areas a).1) b)
share_is areas a b fit fit' = rows_meet (gpa_of a) (placed_pages areas a) (gpa_of b) (placed_pages areas b) (aligned areas a fit) (aligned areas b fit')

-- of one header and those before it
and_later : (n b c d e : Bool) → b ≡ (n && c) → d ≡ (n && e) → (b || d) ≡ (n && (c || e))
and_later true b c d e first later = ap (λ x. x || d) first ∙ ap (λ x. c || x) later
and_later false b c d e first later = ap (λ x. x || d) first ∙ later

pub any_share : (areas : List AreaEntry) (a : Header) (hs : List Header) → PagesFit areas a → AllByRecursion (PagesFit areas) hs
    → list_any (share_page areas a) hs ≡ (nat_lt 0 (placed_pages areas a) && list_any (range_passes areas (meets (pages_range areas a).0 (pages_range areas a).1)) hs)
any_share areas a [] fit fits = none (nat_lt 0 (placed_pages areas a))
  where
    none : (b : Bool) → false ≡ (b && false)
    none true = refl
    none false = refl
any_share areas a (h ∷ hs) fit fits =
    and_later (nat_lt 0 (placed_pages areas a)) _ _ _ _ (share_is areas a h fit fits.0) (any_share areas a hs fit fits.1)
