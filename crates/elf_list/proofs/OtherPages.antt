-- Where an image fits, no other page has the address of a page of the file.
use Rattle.std.proofs.Common.{◌≡◌, ◌≢◌, ℕ, zero, suc, ◌+◌, ◌-◌, ◌*◌, ◌%◌, ◌<◌, ◌≤◌, ◌⊎◌, ◌==◌, List, [], ◌∷◌, ◌++◌, map, get_or, refl, sym, ◌∙◌, ap, subst, arith, Bool, true, false, not, ◌||◌, Option, Some, None, inl, inr, append-nil, append_assoc}
use Rattle.std.specs.Prelude.{slice_get}
use Rattle.std.specs.List.{AllByRecursion, flat_map, list_any, range_with_len}
use Rattle.std.proofs.lemmas.Bool.{eq-eqb}
use Rattle.std.proofs.lemmas.Bool.Decides.{nat_tests}
use Rattle.std.proofs.lemmas.Grind.{flat_map-append}
use Rattle.std.proofs.lemmas.List.{map-append}
use Rattle.std.proofs.lemmas.List.Folds.{list_any-append, list_any_at}
use Rattle.std.proofs.lemmas.List.FromFn.{get_or-map-range_with_len, length-map-range_with_len}
use Rattle.igvm_headers.specs.HeaderFacts.{gpa_of}
use Rattle.igvm_headers.specs.Pages.{page_bytes}
use Rattle.igvm_headers.specs.declared.header.Header.{Header}
use Rattle.igvm_headers.specs.declared.header.Header.TheVariants.{Context, Insert, Page}
use Rattle.igvm_headers.specs.declared.tag.Tag.{Tag}
use Rattle.igvm_image.specs.Areas.{placed_pages}
use Rattle.igvm_image.specs.HeaderRules.{breaks_align}
use Rattle.igvm_image.specs.Headers.{IsAccepted, PlacedHeader, placed_headers}
use Rattle.igvm_image.specs.HeadersOfFile.{IsHeaderOf}
use Rattle.igvm_image.specs.RulesLaws.{keeps_rules}
use Rattle.igvm_image.specs.declared.area_table.AreaEntry.{AreaEntry}
use Rattle.platform_masks.specs.Masks.{applies}
use Rattle.directive_rules.specs.FirstMisfit.{headers_in, misfit_after, misfit_or}
use Rattle.directive_rules.specs.MisfitRows.{Setting, row}
use Rattle.directive_rules.specs.PageAddresses.{addresses, page_row}
use Rattle.directive_rules.specs.declared.misfit.Misfit.{Misfit}
use Rattle.directive_rules.specs.declared.misfit.Why.{Why}
use Rattle.directive_rules.specs.Tags.{tag_of}
use Rattle.elf_pages.specs.GuestBytes.{elf_byte}
use Rattle.elf_pages.specs.Pages.{page_address}
use Rattle.image_loader.specs.FilledAreas.{filled_page}
use Rattle.image_loader.specs.Loads.{Load, areas_in, directives}
use Rattle.image_loader.specs.PlacedPages.{PlacedPage, header_pages, page_at, pages_behind, placed, tagged_pages}
use Rattle.elf_list.specs.GuestMemory.{IsGuestByte}
use Rattle.elf_list.proofs.PlacedBytes.{PlacesElfPage, byte_of_page, elf_page_of, pages_after, pages_before, placed_split}
use Rattle.elf_list.proofs.Splits.{all_at, all_from_each, all_join, all_left, all_right, all_filter, all_weaker}

-- what a page of a header that fits has: no address that an earlier header has
abbrev pub AreNew : Type 0
AreNew = (s : Setting) (before : List Header) (header : Header) (k : ℕ) → row s before header ≡ None → k < placed_pages s.areas header
    → list_any (λ x. x == gpa_of header + 4096 * k) (flat_map (addresses s.areas) before) ≡ false

-- each header of an accepted file keeps the rules
abbrev pub AreHeaders : Type 0
AreHeaders = (file : List ℕ) (k : ℕ) (placed : PlacedHeader) → IsAccepted file → slice_get (placed_headers file) k ≡ Some placed → IsHeaderOf file k placed

-- ---- addresses are whole pages

abbrev pub IsAligned : PlacedHeader → Type 0
IsAligned p = gpa_of p.header % 4096 ≡ 0

whole_of : (n m : ℕ) → not (n % m == 0) ≡ false → n % m ≡ 0
whole_of n m kept = grind (arith, nat_tests)

small_of_large : (gpa : ℕ) (large : Bool) → gpa % page_bytes large ≡ 0 → gpa % 4096 ≡ 0
small_of_large gpa true whole = omega arith
small_of_large gpa false whole = whole

aligned : (h : Header) → breaks_align h ≡ false → gpa_of h % 4096 ≡ 0
aligned (Page gpa mask offset large unmeasured kind) kept = small_of_large gpa large (whole_of gpa (page_bytes large) kept)
aligned (Insert gpa mask area) kept = whole_of gpa 4096 kept
aligned (Context gpa mask offset vp) kept = refl
aligned h kept = refl

all_aligned : AreHeaders → (file : List ℕ) → IsAccepted file → AllByRecursion IsAligned (placed_headers file)
all_aligned headers file accepted =
    all_from_each IsAligned (placed_headers file) (λ k p is.
    let own = headers file k p accepted is in
    aligned p.header (keeps_rules _ _ p.header own.rules).align)

-- ---- the pages of one header

-- a page at the address of another page
pub record IsOther (x : ℕ) (q : PlacedPage) : Type 0 where
  pub whole : q.gpa % 4096 ≡ 0
  pub apart : q.gpa ≢ x

row_other : (load : Load) (area_page : ℕ → ℕ → List ℕ) (p : PlacedHeader) (tag : Tag) (count first x : ℕ) → IsAligned p
    → ((k : ℕ) → k < first + count → gpa_of p.header + 4096 * k ≢ x) → AllByRecursion (IsOther x) (map (page_at load area_page p tag) (range_with_len first count))
row_other load area_page p tag zero first x whole apart = tt
row_other load area_page p tag (suc count) first x whole apart = (
  record { whole = omega (arith, whole); apart = apart first (omega arith) },
  row_other load area_page p tag count (first + 1) x whole (λ k less. apart k (omega arith)),
)

header_other : (load : Load) (area_page : ℕ → ℕ → List ℕ) (p : PlacedHeader) (x : ℕ) → IsAligned p
    → ((k : ℕ) → k < placed_pages (areas_in load) p.header → gpa_of p.header + 4096 * k ≢ x) → AllByRecursion (IsOther x) (header_pages load area_page p)
unfolding header_pages
header_other load area_page p x whole apart = cases (tag_of p.header load.platform.kind load.options)
  where
    cases : (tag : Option Tag) → AllByRecursion (IsOther x) (tagged_pages load area_page p tag (placed_pages (areas_in load) p.header))
    cases None = tt
    cases (Some tag) = row_other load area_page p tag (placed_pages (areas_in load) p.header) 0 x whole (λ k less. apart k (omega arith))

-- ---- those of the headers before it

neither : (a b : Bool) → (a || b) ≡ false → (a ≡ false) × (b ≡ false)
neither true b none = cc
neither false b none = (refl, none)

row_none : (gpa count x k : ℕ) → list_any (λ y. y == x) (page_row gpa count) ≡ false → k < count → gpa + 4096 * k ≢ x
unfolding page_row
row_none gpa count x k none within same =
    let here = get_or-map-range_with_len (λ (n : ℕ). gpa + 4096 * n) 0 count k k 0 within (omega arith) in
    let size = length-map-range_with_len (λ (n : ℕ). gpa + 4096 * n) 0 count in
    let found = list_any_at (λ (y : ℕ). y == x) (page_row gpa count) k 0 (omega arith) (eq-eqb _ x (here ∙ same)) in
    cc

before_other : (load : Load) (before ps : List PlacedHeader) (x : ℕ) → AllByRecursion IsAligned ps
    → list_any (λ y. y == x) (flat_map (addresses (areas_in load)) (headers_in ps)) ≡ false → AllByRecursion (IsOther x) (pages_behind load before ps)
before_other load before [] x whole none = tt
before_other load before (p ∷ ps) x whole none =
    let here = addresses (areas_in load) p.header in
    let later = flat_map (addresses (areas_in load)) (headers_in ps) in
    let each = neither _ _ (sym (list_any-append (λ (y : ℕ). y == x) here later) ∙ none) in
    all_join (IsOther x) (header_pages load (filled_page load.host before) p) (pages_behind load (before ++ p ∷ []) ps)
    (header_other load (filled_page load.host before) p x whole.0 (λ k within. row_none (gpa_of p.header) (placed_pages (areas_in load) p.header) x k each.0 within))
    (before_other load (before ++ p ∷ []) ps x whole.1 each.1)

-- ---- those of the headers behind it

none_of : (index : ℕ) (why : Option Why) (later : Option Misfit) → misfit_or index why later ≡ None → (why ≡ None) × (later ≡ None)
none_of index None later fits = (refl, fits)
none_of index (Some why) later fits = cc

-- some header has a page at an address
abbrev pub IsThere : List AreaEntry → List PlacedHeader → ℕ → Type 0
IsThere areas placed x = list_any (λ y. y == x) (flat_map (addresses areas) (headers_in placed)) ≡ true

there_joined : (areas : List AreaEntry) (before : List PlacedHeader) (p : PlacedHeader) (x : ℕ)
    → list_any (λ y. y == x) (flat_map (addresses areas) (headers_in (before ++ p ∷ [])))
    ≡ list_any (λ y. y == x) (flat_map (addresses areas) (headers_in before)) || list_any (λ y. y == x) (addresses areas p.header)
there_joined areas before p x =
    let test = λ (y : ℕ). y == x in
    let old = flat_map (addresses areas) (headers_in before) in
    ap (λ (hs : List Header). list_any test (flat_map (addresses areas) hs)) (map-append (λ (q : PlacedHeader). q.header) before (p ∷ []))
    ∙ ap (list_any test) (flat_map-append (addresses areas) (headers_in before) (p.header ∷ []))
    ∙ list_any-append test old (addresses areas p.header ++ [])
    ∙ ap (λ (xs : List ℕ). list_any test old || list_any test xs) (append-nil (addresses areas p.header))

either_true : (a b : Bool) → a ≡ true → (a || b) ≡ true
either_true true b is = refl
either_true false b is = cc

or_last : (a b : Bool) → b ≡ true → (a || b) ≡ true
or_last true b is = refl
or_last false b is = is

behind_other : AreNew → (load : Load) (s : Setting) (before ps : List PlacedHeader) (x : ℕ) → s.areas ≡ areas_in load → AllByRecursion IsAligned ps
    → misfit_after s before ps ≡ None → IsThere s.areas before x → AllByRecursion (IsOther x) (pages_behind load before ps)
unfolding misfit_after
behind_other new load s before [] x areas whole fits there = tt
behind_other new load s before (p ∷ ps) x areas whole fits there =
    let each = none_of p.index (row s (headers_in before) p.header) (misfit_after s (before ++ p ∷ []) ps) fits in
    all_join (IsOther x) (header_pages load (filled_page load.host before) p) (pages_behind load (before ++ p ∷ []) ps)
    (header_other load (filled_page load.host before) p x whole.0 (λ k within same.
    let count : placed_pages s.areas p.header ≡ placed_pages (areas_in load) p.header = ap (λ (a : List AreaEntry). placed_pages a p.header) areas in
    let none = new s (headers_in before) p.header k each.0 (omega arith) in
    let found : IsThere s.areas before (gpa_of p.header + 4096 * k) = subst (IsThere s.areas before) (sym same) there in
    cc))
    (behind_other new load s (before ++ p ∷ []) ps x areas whole.1 each.1
    (there_joined s.areas before p x ∙ either_true _ _ there))

-- ---- all others

misfit_behind : (s : Setting) (before ps qs : List PlacedHeader) → misfit_after s before (ps ++ qs) ≡ None → misfit_after s (before ++ ps) qs ≡ None
unfolding misfit_after
misfit_behind s before [] qs fits = subst (λ hs. misfit_after s hs qs ≡ None) (sym (append-nil before)) fits
misfit_behind s before (p ∷ ps) qs fits =
    subst (λ hs. misfit_after s hs qs ≡ None) (append_assoc before (p ∷ []) ps)
    (misfit_behind s (before ++ p ∷ []) ps qs (none_of p.index (row s (headers_in before) p.header) (misfit_after s (before ++ p ∷ []) (ps ++ qs)) fits).1)

-- a page is this one, or at the address of another
abbrev pub IsOnly : PlacedPage → PlacedPage → Type 0
IsOnly page q = (q ≡ page) ⊎ IsOther page.gpa q

pub page_is_only : AreNew → AreHeaders → (load : Load) (s : Setting) (file : List ℕ) (mask k : ℕ) (e : PlacesElfPage load file mask k) → IsAccepted load.file
    → s.areas ≡ areas_in load → misfit_after s [] (directives load) ≡ None → AllByRecursion (IsOnly (elf_page_of load file mask k e)) (placed load)
unfolding misfit_after page_row
page_is_only new headers load s file mask k e accepted areas fits =
    let page = elf_page_of load file mask k e in
    let front = pages_before load file mask k e in
    let back = pages_after load file mask k e in
    let counted = all_filter IsAligned (λ p. applies p.header load.platform.mask) (placed_headers load.file) (all_aligned headers load.file accepted) in
    let whole : AllByRecursion IsAligned (e.before ++ e.p ∷ e.behind) = subst (AllByRecursion IsAligned) e.whole counted in
    let from = misfit_behind s [] e.before (e.p ∷ e.behind) (subst (λ ps. misfit_after s [] ps ≡ None) e.whole fits) in
    let each = none_of e.p.index (row s (headers_in e.before) e.p.header) (misfit_after s (e.before ++ e.p ∷ []) e.behind) from in
    let gpa : gpa_of e.p.header ≡ page_address file k = ap gpa_of e.is.header in
    let count : placed_pages s.areas e.p.header ≡ 1 = ap (placed_pages s.areas) e.is.header in
    let same : gpa_of e.p.header + 4096 * 0 ≡ page.gpa = ap (λ n. n + 4096 * 0) gpa in
    let alone = new s (headers_in e.before) e.p.header 0 each.0 (omega arith) in
    let none : list_any (λ y. y == page.gpa) (flat_map (addresses (areas_in load)) (headers_in e.before)) ≡ false =
    subst (λ a. list_any (λ y. y == page.gpa) (flat_map (addresses a) (headers_in e.before)) ≡ false) areas
    (subst (λ n. list_any (λ y. y == n) (flat_map (addresses s.areas) (headers_in e.before)) ≡ false) same alone) in
    let own : list_any (λ y. y == page.gpa) (addresses s.areas e.p.header) ≡ true =
    ap (λ (h : Header). list_any (λ y. y == page.gpa) (addresses s.areas h)) e.is.header ∙ ap (λ b. b || false) (eq-eqb page.gpa page.gpa refl) in
    let there : IsThere s.areas (e.before ++ e.p ∷ []) page.gpa = there_joined s.areas e.before e.p page.gpa ∙ or_last _ _ own in
    subst (AllByRecursion (IsOnly page)) (sym (placed_split load file mask k e))
    (all_join (IsOnly page) front (page ∷ back)
    (all_weaker (IsOther page.gpa) (IsOnly page) front (λ q other. inr other) (before_other load [] e.before page.gpa (all_left IsAligned e.before (e.p ∷ e.behind) whole) none)) (
      inl refl,
      all_weaker (IsOther page.gpa) (IsOnly page) back (λ q other. inr other)
          (behind_other new load s (e.before ++ e.p ∷ []) e.behind page.gpa areas (all_right IsAligned e.before (e.p ∷ e.behind) whole).1 each.1 there),
    ))

-- ---- so its bytes are the only ones

apart_from : (gpa address i : ℕ) → gpa % 4096 ≡ 0 → address % 4096 ≡ 0 → gpa ≢ address + 4096 * 0 → i < 4096 → gpa ≤ address + i → address + i < gpa + 4096 → ⊥
apart_from gpa address i whole own apart within from to = apart (omega arith)

pub only_byte : AreNew → AreHeaders → (load : Load) (s : Setting) (file : List ℕ) (mask k i byte : ℕ) → PlacesElfPage load file mask k → IsAccepted load.file
    → s.areas ≡ areas_in load → misfit_after s [] (directives load) ≡ None → page_address file k % 4096 ≡ 0 → i < 4096
    → IsGuestByte load (page_address file k + i) byte → byte ≡ elf_byte file (page_address file k + i)
only_byte new headers load s file mask k i byte e accepted areas fits own within g =
    let page = elf_page_of load file mask k e in
    let all = page_is_only new headers load s file mask k e accepted areas fits in
    let which : IsOnly page g.page = all_at (IsOnly page) (placed load) g.n g.page all g.there in
    elim which [
      | inl same ↦
          sym g.value ∙ ap (λ (q : PlacedPage). get_or q.page (page_address file k + i - q.gpa) 0) same
          ∙ byte_of_page load file mask k i e within
      | inr other ↦ absurd (apart_from g.page.gpa (page_address file k) i other.whole own other.apart within g.from g.to)
    ]
