-- The pages of a header that fits are new, and headers have as many pages as addresses.
use Rattle.std.proofs.Common.{◌≡◌, ℕ, ◌+◌, ◌*◌, ◌<◌, List, [], ◌∷◌, length, refl, sym, ◌∙◌, ap, arith, Bool, true, false, ◌||◌, ◌==◌, None}
use Rattle.std.specs.Prelude.{sum_by}
use Rattle.std.specs.List.{list_any, flat_map}
use Rattle.std.proofs.lemmas.Bool.Decides.{nat_tests}
use Rattle.std.proofs.lemmas.List.{length-append}
use Rattle.std.proofs.lemmas.List.Sums.{sum_by-cons}
use Rattle.std.proofs.lemmas.List.Folds.{list_any-append, Any-from_list_any}
use Rattle.std.proofs.lemmas.List.FromFn.{length-map-range_with_len, get_or-map-range_with_len}
use Rattle.igvm_headers.specs.declared.header.Header.{Header}
use Rattle.igvm_headers.specs.declared.header.Header.TheVariants.{Page, Insert}
use Rattle.igvm_image.specs.declared.area_table.AreaEntry.{AreaEntry}
use Rattle.igvm_headers.specs.HeaderFacts.{gpa_of}
use Rattle.igvm_image.specs.Areas.{placed_pages}
use Rattle.directive_rules.specs.PageAddresses.{page_row, addresses, share_page}
use Rattle.directive_rules.specs.MisfitRows.{Setting, row, why_of}
use Rattle.directive_rules.proofs.SharedPages.{common_at}
use Rattle.directive_rules.proofs.SummaryLemmas.{pages_room, both_none}

any-flat_map : {X : Type 0} (p : ℕ → Bool) (f : X → List ℕ) (xs : List X) → list_any p (flat_map f xs) ≡ list_any (λ x. list_any p (f x)) xs
any-flat_map p f [] = refl
any-flat_map p f (x ∷ xs) = list_any-append p (f x) (flat_map f xs) ∙ ap (λ b. list_any p (f x) || b) (any-flat_map p f xs)

-- an address of one row that another row has
row_has : (h m a : ℕ) → list_any (λ x. x == a) (page_row h m) ≡ true → (j : ℕ) × (j < m) × (h + 4096 * j ≡ a)
unfolding page_row
row_has h m a there =
    let any = Any-from_list_any (λ x. x == a) (page_row h m) there in
    let few : any.0 < m = omega (arith, any.2, length-map-range_with_len (λ k. h + 4096 * k) 0 m) in
    let value : any.1 ≡ h + 4096 * any.0 = sym any.3 ∙ get_or-map-range_with_len (λ k. h + 4096 * k) 0 m any.0 any.0 any.1 few (omega arith) in
    (any.0, few, sym value ∙ same any.1 a any.4)
  where
    same : (x y : ℕ) → (x == y) ≡ true → x ≡ y
    same x y h = grind (arith, nat_tests)

shares_then : (areas : List AreaEntry) (h g : Header) (k : ℕ) → k < placed_pages areas h → list_any (λ x. x == gpa_of h + 4096 * k) (addresses areas g) ≡ true → share_page areas h g ≡ true
shares_then areas h g k few there =
    let at = row_has (gpa_of g) (placed_pages areas g) (gpa_of h + 4096 * k) there in
    common_at (gpa_of h) (placed_pages areas h) (gpa_of g) (placed_pages areas g) k at.0 (record { first = few; second = at.1; same = sym at.2 })

no_share : (c d : Bool) → (c ≡ true → d ≡ true) → d ≡ false → c ≡ false
no_share true d then none = sym (then refl) ∙ none
no_share false d then none = refl

or_none : (a b : Bool) → (a || b) ≡ false → (a ≡ false) × (b ≡ false)
or_none true b h = cc
or_none false b h = (refl, h)

none_there : (areas : List AreaEntry) (h : Header) (k : ℕ) (before : List Header) → k < placed_pages areas h → list_any (share_page areas h) before ≡ false
    → list_any (λ (g : Header). list_any (λ x. x == gpa_of h + 4096 * k) (addresses areas g)) before ≡ false
none_there areas h k [] few none = refl
none_there areas h k (g ∷ gs) few none =
    let parts = or_none (share_page areas h g) (list_any (share_page areas h) gs) none in
    ap (λ b. b || list_any (λ (g : Header). list_any (λ x. x == gpa_of h + 4096 * k) (addresses areas g)) gs)
    (no_share _ (share_page areas h g) (shares_then areas h g k few) parts.0)
    ∙ none_there areas h k gs few parts.1

-- a header that fits and places pages shares none
shares_none : (s : Setting) (before : List Header) (h : Header) (k : ℕ) → row s before h ≡ None → k < placed_pages s.areas h → list_any (share_page s.areas h) before ≡ false
unfolding why_of
shares_none s before (Page gpa mask offset large unmeasured kind) k none few = (pages_room _ _ _ _ _ (both_none _ _ none).1).0
shares_none s before (Insert gpa mask area) k none few = (pages_room _ _ _ _ _ (both_none _ _ none).1).0
shares_none s before _ k none few = absurd (omega arith)

pub new_pages : (s : Setting) (before : List Header) (h : Header) (k : ℕ) → row s before h ≡ None → k < placed_pages s.areas h
    → list_any (λ x. x == gpa_of h + 4096 * k) (flat_map (addresses s.areas) before) ≡ false
new_pages s before h k none few =
    any-flat_map (λ x. x == gpa_of h + 4096 * k) (addresses s.areas) before
    ∙ none_there s.areas h k before few (shares_none s before h k none few)

length-page_row : (gpa count : ℕ) → length (page_row gpa count) ≡ count
unfolding page_row
length-page_row gpa count = length-map-range_with_len (λ k. gpa + 4096 * k) 0 count

pub as_many : (areas : List AreaEntry) (hs : List Header) → length (flat_map (addresses areas) hs) ≡ sum_by (placed_pages areas) hs
as_many areas [] = refl
as_many areas (h ∷ hs) =
    length-append (addresses areas h) (flat_map (addresses areas) hs)
    ∙ ap (λ n. n + length (flat_map (addresses areas) hs)) (length-page_row (gpa_of h) (placed_pages areas h))
    ∙ ap (λ n. placed_pages areas h + n) (as_many areas hs)
    ∙ sym (sum_by-cons (placed_pages areas) h hs)
