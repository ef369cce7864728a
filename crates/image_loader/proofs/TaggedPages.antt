-- The pages of a header, by its tag.
use Rattle.std.proofs.Common.{◌≡◌, ℕ, List, [], ◌++◌, length, sym, ap, subst, ◌∙◌, arith, Some, None}
use Rattle.std.proofs.lemmas.List.FromFn.{length-map-range_with_len}
use Rattle.igvm_headers.specs.declared.tag.Tag.{Tag}
use Rattle.directive_rules.specs.Tags.{tag_of}
use Rattle.igvm_image.specs.Areas.{placed_pages}
use Rattle.igvm_image.specs.Headers.{PlacedHeader}
use Rattle.image_loader.specs.declared.carrier.Carrier as carriers
use Rattle.launch_platform.specs.Machine.{Context}
use Rattle.image_loader.specs.Loads.{Load, areas_in}
use Rattle.image_loader.specs.PlacedPages.{PlacedPage, page_at, tagged_pages, header_pages}
use Rattle.image_loader.specs.LoadCommands.{Did, pages_commands, context_commands}
use Rattle.image_loader.proofs.Carried.{did_none, did_more}
use Rattle.image_loader.proofs.PlacedRow.{row}

-- a header with a tag has its row of pages
pub some_pages : (load : Load) (area_page : ℕ → ℕ → List ℕ) (p : PlacedHeader) (tag : Tag) (count : ℕ)
    → tag_of p.header load.platform.kind load.options ≡ Some tag → count ≡ placed_pages (areas_in load) p.header
    → row (page_at load area_page p tag) count ≡ header_pages load area_page p
unfolding header_pages
some_pages load area_page p tag count is size =
    ap (row (page_at load area_page p tag)) size
    ∙ ap (λ found. tagged_pages load area_page p found (placed_pages (areas_in load) p.header)) (sym is)

no_pages : (load : Load) (area_page : ℕ → ℕ → List ℕ) (p : PlacedHeader)
    → tag_of p.header load.platform.kind load.options ≡ None → [] ≡ header_pages load area_page p
unfolding header_pages
no_pages load area_page p is =
    ap (λ found. tagged_pages load area_page p found (placed_pages (areas_in load) p.header)) (sym is)

pub length_row : (page : ℕ → PlacedPage) (n : ℕ) (qs : List PlacedPage) → row page n ≡ qs → n ≡ length qs
length_row page n qs same = sym (length-map-range_with_len page 0 n) ∙ ap length same

-- a row that was put in is that of a header
pub did_row : {C M : Type 0} (g : carriers.Ghosts C M) (slot : ℕ) (page : ℕ → PlacedPage) (n : ℕ) (qs : List PlacedPage)
    (a b : M) → row page n ≡ qs → Did g (pages_commands slot (row page n)) n 0 a b
    → Did g (pages_commands slot qs) (length qs) 0 a b
did_row g slot page n qs a b same did =
    subst (λ m. Did g (pages_commands slot qs) m 0 a b) (length_row page n qs same)
    (subst (λ qs. Did g (pages_commands slot qs) n 0 a b) same did)

-- a header with no tag has no pages
pub did_no_pages : {C M : Type 0} (g : carriers.Ghosts C M) (slot : ℕ) (load : Load) (area_page : ℕ → ℕ → List ℕ)
    (p : PlacedHeader) (a : M) → tag_of p.header load.platform.kind load.options ≡ None
    → Did g (pages_commands slot (header_pages load area_page p)) (length (header_pages load area_page p)) 0 a a
did_no_pages g slot load area_page p a is =
    subst (λ qs. Did g (pages_commands slot qs) (length qs) 0 a a) (no_pages load area_page p is) (did_none g a)

-- pages, and contexts behind them
pub did_header : {C M : Type 0} (g : carriers.Ghosts C M) (slot : ℕ) (qs : List PlacedPage) (contexts : List Context)
    (a b c : M) → Did g (pages_commands slot qs) (length qs) 0 a b
    → Did g (context_commands contexts) 0 (length contexts) b c
    → Did g (pages_commands slot qs ++ context_commands contexts) (length qs) (length contexts) a c
did_header g slot qs contexts a b c first second =
    let both = did_more g _ _ (length qs) 0 0 (length contexts) a b c first second in
    record {
      state = both.state;
      held = both.held;
      spare_pages = omega (arith, both.spare_pages);
      spare_contexts = omega (arith, both.spare_contexts);
      counted = both.counted;
    }
