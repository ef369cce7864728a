-- The pages of the next header are new to a machine behind the headers before it, and with them it is behind that one.
use Rattle.std.proofs.Common.{◌≡◌, ℕ, suc, zero, ◌+◌, ◌*◌, ◌<◌, ◌≤◌, List, [], ◌∷◌, ◌++◌, map, refl, sym, ◌∙◌, ap, arith, Bool, true, false, ◌||◌, ◌==◌, Option, Some, None, inl, inr}
use Rattle.std.specs.Prelude.{◌⊎◌, IsSome}
use Rattle.std.specs.List.{list_any, flat_map, range_with_len}
use Rattle.std.proofs.lemmas.Bool.Decides.{nat_tests}
use Rattle.std.proofs.lemmas.List.{map-append}
use Rattle.std.proofs.lemmas.List.Concat.{flat_map-append}
use Rattle.std.proofs.lemmas.List.Folds.{list_any-append}
use Rattle.igvm_headers.specs.HeaderFacts.{gpa_of}
use Rattle.igvm_headers.specs.declared.header.Header.{Header}
use Rattle.igvm_headers.specs.declared.header.Header.TheVariants.{Page, Insert, Context}
use Rattle.igvm_headers.specs.declared.tag.Tag.{Tag}
use Rattle.host_set.specs.declared.range.PlanRange.{PlanRange}
use Rattle.igvm_image.specs.Areas.{placed_pages}
use Rattle.igvm_image.specs.Data.{Data}
use Rattle.igvm_image.specs.Headers.{PlacedHeader}
use Rattle.directive_rules.specs.DirectiveFacts.{is_context_of}
use Rattle.directive_rules.specs.FirstMisfit.{headers_in, headers_for, setting_of}
use Rattle.directive_rules.specs.MisfitRows.{Setting, row}
use Rattle.directive_rules.specs.PageAddresses.{page_row, addresses}
use Rattle.directive_rules.specs.Tags.{tag_of}
use Rattle.launch_platform.specs.Machine.{Entry, State, is_placed, has_context}
use Rattle.image_loader.specs.Loads.{Load, areas_in}
use Rattle.image_loader.specs.PlacedPages.{entry_of, page_at, tagged_pages, header_pages, context_in, header_contexts}
use Rattle.image_loader.specs.LoadCommands.{grown}
use Rattle.image_loader.specs.Fitting.{AreFresh, IsNext, MachineIsBehind, PagesEnter}
use Rattle.image_loader.proofs.NextHeaders.{next_row}

-- ---- new pages

-- pages in a row have addresses of their own
differ : (gpa j k : ℕ) → j < k → (gpa + 4096 * j == gpa + 4096 * k) ≡ false
differ gpa j k less = grind (arith, nat_tests)

-- an address that is new to entries and is not that of one more is new to them all
new_to_more : (gpa : ℕ) (entries : List Entry) (entry : Entry) → is_placed gpa entries ≡ false
    → (entry.gpa == gpa) ≡ false → is_placed gpa (entries ++ entry ∷ []) ≡ false
new_to_more gpa entries entry none other =
    list_any-append (λ (e : Entry). e.gpa == gpa) entries (entry ∷ [])
    ∙ ap (λ b. b || ((entry.gpa == gpa) || false)) none
    ∙ ap (λ b. b || false) other

-- pages in a row that are new to some entries are fresh
row_is_fresh : (load : Load) (area_page : ℕ → ℕ → List ℕ) (p : PlacedHeader) (tag : Tag) (count start : ℕ)
    (entries : List Entry)
    → ((k : ℕ) → start ≤ k → k < start + count → is_placed (gpa_of p.header + 4096 * k) entries ≡ false)
    → AreFresh entries (map (page_at load area_page p tag) (range_with_len start count))
row_is_fresh load area_page p tag zero start entries new = tt
row_is_fresh load area_page p tag (suc count) start entries new =
    let q = page_at load area_page p tag start in (
      new start (omega arith) (omega arith),
      row_is_fresh load area_page p tag count (start + 1) (entries ++ entry_of q ∷ []) (λ k from to.
          new_to_more (gpa_of p.header + 4096 * k) entries (entry_of q) (new k (omega arith) (omega arith))
          (differ (gpa_of p.header) start k (omega arith))),
    )

-- pages from an address on that are new to some entries are fresh, whatever their tag
tagged_are_fresh : (load : Load) (area_page : ℕ → ℕ → List ℕ) (p : PlacedHeader) (tag : Option Tag) (count : ℕ)
    (entries : List Entry)
    → ((k : ℕ) → k < count → is_placed (gpa_of p.header + 4096 * k) entries ≡ false)
    → AreFresh entries (tagged_pages load area_page p tag count)
tagged_are_fresh load area_page p None count entries new = tt
tagged_are_fresh load area_page p (Some tag) count entries new =
    row_is_fresh load area_page p tag count 0 entries (λ k from to. new k (omega arith))

-- directive_rules' law `fitting_pages_are_new`
abbrev pub FittingPagesAreNew : Type 0
FittingPagesAreNew = (s : Setting) (before : List Header) (h : Header) (k : ℕ) → row s before h ≡ None
    → k < placed_pages s.areas h
    → list_any (λ x. x == gpa_of h + 4096 * k) (flat_map (addresses s.areas) before) ≡ false

-- the pages of the next header are fresh
pub next_is_fresh : FittingPagesAreNew → (load : Load) (plan : List PlanRange) (done left : List PlacedHeader)
    (p : PlacedHeader) (s : State) (area_page : ℕ → ℕ → List ℕ)
    → IsNext load plan done p left → MachineIsBehind load (headers_for load.platform.mask done) s
    → AreFresh s.entries (header_pages load area_page p)
unfolding header_pages
next_is_fresh are_new load plan done left p s area_page next behind =
    let setting = setting_of load.file load.platform plan load.host in
    let before = headers_in (headers_for load.platform.mask done) in
    tagged_are_fresh load area_page p (tag_of p.header load.platform.kind load.options)
    (placed_pages (areas_in load) p.header) s.entries (λ k few.
    behind.placed (gpa_of p.header + 4096 * k)
    ∙ are_new setting before p.header k (next_row load plan done left p next) few)

-- ---- a machine behind one header more

headers_push : (ps : List PlacedHeader) (p : PlacedHeader) → headers_in (ps ++ p ∷ []) ≡ headers_in ps ++ p.header ∷ []
headers_push ps p = map-append (λ (q : PlacedHeader). q.header) ps (p ∷ [])

-- the addresses of pages in a row
row_addresses : (load : Load) (area_page : ℕ → ℕ → List ℕ) (p : PlacedHeader) (tag : Tag) (gpa : ℕ) (ks : List ℕ)
    → is_placed gpa (map entry_of (map (page_at load area_page p tag) ks))
    ≡ list_any (λ x. x == gpa) (map (λ k. gpa_of p.header + 4096 * k) ks)
row_addresses load area_page p tag gpa [] = refl
row_addresses load area_page p tag gpa (k ∷ ks) =
    ap (λ b. (gpa_of p.header + 4096 * k == gpa) || b) (row_addresses load area_page p tag gpa ks)

-- a header whose pages enter has a tag, or places none
has_tag : (load : Load) (h : Header) → PagesEnter load h
    → IsSome (tag_of h load.platform.kind load.options) ⊎ (placed_pages (areas_in load) h ≡ 0)
has_tag load (Page gpa mask offset large unmeasured kind) enter = inl enter.tagged
has_tag load (Insert gpa mask area) enter = inl enter.tagged
has_tag load _ enter = inr refl

-- pages that have a tag have the addresses of their row
tagged_addresses : (load : Load) (area_page : ℕ → ℕ → List ℕ) (p : PlacedHeader) (gpa : ℕ) (tag : Option Tag)
    (count : ℕ) → IsSome tag ⊎ (count ≡ 0)
    → is_placed gpa (map entry_of (tagged_pages load area_page p tag count))
    ≡ list_any (λ x. x == gpa) (page_row (gpa_of p.header) count)
unfolding page_row
tagged_addresses load area_page p gpa (Some tag) count has =
    row_addresses load area_page p tag gpa (range_with_len 0 count)
tagged_addresses load area_page p gpa None count (inl some) = cc
tagged_addresses load area_page p gpa None count (inr none) =
    ap (λ count. list_any (λ x. x == gpa) (page_row (gpa_of p.header) count)) (sym none)

-- the addresses of a header's pages
pages_addresses : (load : Load) (area_page : ℕ → ℕ → List ℕ) (p : PlacedHeader) (gpa : ℕ) → PagesEnter load p.header
    → is_placed gpa (map entry_of (header_pages load area_page p))
    ≡ list_any (λ x. x == gpa) (addresses (areas_in load) p.header)
unfolding header_pages
pages_addresses load area_page p gpa enter =
    tagged_addresses load area_page p gpa (tag_of p.header load.platform.kind load.options)
    (placed_pages (areas_in load) p.header) (has_tag load p.header enter)

or_false : (b : Bool) → (b || false) ≡ b
or_false true = refl
or_false false = refl

-- the addresses of one header more
addresses_push : (load : Load) (before : List PlacedHeader) (p : PlacedHeader) (gpa : ℕ)
    → list_any (λ x. x == gpa) (flat_map (addresses (areas_in load)) (headers_in (before ++ p ∷ [])))
    ≡ (list_any (λ x. x == gpa) (flat_map (addresses (areas_in load)) (headers_in before))
    || list_any (λ x. x == gpa) (addresses (areas_in load) p.header))
addresses_push load before p gpa =
    let f = addresses (areas_in load) in
    let is = λ (x : ℕ). x == gpa in
    ap (λ hs. list_any is (flat_map f hs)) (headers_push before p)
    ∙ ap (list_any is) (flat_map-append f (headers_in before) (p.header ∷ []))
    ∙ list_any-append is (flat_map f (headers_in before)) (f p.header ++ [])
    ∙ ap (λ b. list_any is (flat_map f (headers_in before)) || b)
    (list_any-append is (f p.header) [] ∙ or_false (list_any is (f p.header)))

flip : (a b : ℕ) → (a == b) ≡ (b == a)
flip a b = grind (arith, nat_tests)

-- the context of a header
one_context : (h : Header) (content : Data) (vp : ℕ)
    → has_context vp (context_in h content) ≡ list_any (is_context_of vp) (h ∷ [])
one_context (Context gpa mask offset of) content vp = ap (λ b. b || false) (flip of vp)
one_context _ content vp = refl

-- the contexts of one header more
contexts_push : (before : List PlacedHeader) (p : PlacedHeader) (vp : ℕ)
    → list_any (is_context_of vp) (headers_in (before ++ p ∷ []))
    ≡ (list_any (is_context_of vp) (headers_in before) || list_any (is_context_of vp) (p.header ∷ []))
contexts_push before p vp =
    ap (list_any (is_context_of vp)) (headers_push before p)
    ∙ list_any-append (is_context_of vp) (headers_in before) (p.header ∷ [])

-- a machine with the pages and the context of a header is behind it
pub behind_one_more : (load : Load) (before : List PlacedHeader) (p : PlacedHeader) (s : State)
    (area_page : ℕ → ℕ → List ℕ) → MachineIsBehind load before s → PagesEnter load p.header
    → MachineIsBehind load (before ++ p ∷ [])
    (grown s (map entry_of (header_pages load area_page p)) (header_contexts p))
unfolding header_contexts
behind_one_more load before p s area_page behind enter = record {
  placed = λ gpa.
      list_any-append (λ (e : Entry). e.gpa == gpa) s.entries (map entry_of (header_pages load area_page p))
      ∙ ap (λ b. b || is_placed gpa (map entry_of (header_pages load area_page p))) (behind.placed gpa)
      ∙ ap (λ b. list_any (λ x. x == gpa) (flat_map (addresses (areas_in load)) (headers_in before)) || b)
      (pages_addresses load area_page p gpa enter)
      ∙ sym (addresses_push load before p gpa);
  contexts = λ vp.
      list_any-append (λ context. context.vp == vp) s.contexts (context_in p.header p.content)
      ∙ ap (λ b. b || has_context vp (context_in p.header p.content)) (behind.contexts vp)
      ∙ ap (λ b. list_any (is_context_of vp) (headers_in before) || b) (one_context p.header p.content vp)
      ∙ sym (contexts_push before p vp);
}
