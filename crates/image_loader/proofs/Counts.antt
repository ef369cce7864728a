-- How many pages and contexts an image has, and that one that fits TDX has no ID block.
use Rattle.std.proofs.Common.{◌≡◌, ℕ, ◌+◌, ◌≤◌, List, [], ◌∷◌, ◌++◌, length, refl, sym, ◌∙◌, ap, arith, length-append, false, cond, not, Option, Some, None}
use Rattle.std.specs.Prelude.{sum_by, count_by}
use Rattle.std.specs.List.{cons_option, filter_map, flat_map}
use Rattle.std.proofs.lemmas.List.Sums.{sum_by-cons}
use Rattle.std.proofs.lemmas.List.FromFn.{length-map-range_with_len}
use Rattle.igvm_headers.specs.declared.header.Header.{Header}
use Rattle.igvm_headers.specs.declared.header.Header.TheVariants.{Context, IdBlock}
use Rattle.igvm_headers.specs.declared.platform_kind.PlatformKind.{PlatformKind}
use Rattle.igvm_headers.specs.declared.platform_kind.PlatformKind.TheVariants.{Tdx}
use Rattle.igvm_headers.specs.declared.tag.Tag.{Tag}
use Rattle.host_set.specs.declared.range.PlanRange.{PlanRange}
use Rattle.igvm_image.specs.Areas.{placed_pages}
use Rattle.igvm_image.specs.Data.{Data}
use Rattle.igvm_image.specs.Headers.{PlacedHeader}
use Rattle.directive_rules.specs.DirectiveFacts.{is_context, wanted_by}
use Rattle.directive_rules.specs.FirstMisfit.{headers_in, misfit_after, first_misfit, setting_of}
use Rattle.directive_rules.specs.LoadCounts.{wanted_of}
use Rattle.directive_rules.specs.MisfitRows.{Setting, is_snp, why_of, row}
use Rattle.directive_rules.specs.Tags.{tag_of}
use Rattle.directive_rules.specs.declared.misfit.Why.TheVariants.{IdBlockNotHere}
use Rattle.image_loader.specs.FilledAreas.{filled_page}
use Rattle.image_loader.specs.Loads.{Load, areas_in, directives}
use Rattle.image_loader.specs.PlacedPages.{page_at, tagged_pages, header_pages, pages_behind, placed, context_in, header_contexts, contexts}
use Rattle.image_loader.proofs.NextHeaders.{no_row, no_later_misfit, both_none, unless_none}

-- ---- pages

-- pages are as many as counted, or none where they have no tag
tagged_few : (load : Load) (area_page : ℕ → ℕ → List ℕ) (p : PlacedHeader) (tag : Option Tag) (count : ℕ)
    → length (tagged_pages load area_page p tag count) ≤ count
tagged_few load area_page p None count = omega arith
tagged_few load area_page p (Some tag) count =
    omega (arith, length-map-range_with_len (page_at load area_page p tag) 0 count)

-- a header has as many pages as it places, or none
header_few : (load : Load) (area_page : ℕ → ℕ → List ℕ) (p : PlacedHeader)
    → length (header_pages load area_page p) ≤ placed_pages (areas_in load) p.header
unfolding header_pages
header_few load area_page p =
    tagged_few load area_page p (tag_of p.header load.platform.kind load.options)
    (placed_pages (areas_in load) p.header)

-- headers have as many pages, at most, as they were counted to place
pages_few : (load : Load) (before ps : List PlacedHeader)
    → length (pages_behind load before ps) ≤ sum_by (placed_pages (areas_in load)) (headers_in ps)
pages_few load before [] = omega arith
pages_few load before (p ∷ ps) =
    let first = header_pages load (filled_page load.host before) p in
    let later = pages_behind load (before ++ p ∷ []) ps in
    omega (
      arith,
      length-append first later,
      header_few load (filled_page load.host before) p,
      pages_few load (before ++ p ∷ []) ps,
      sum_by-cons (placed_pages (areas_in load)) p.header (headers_in ps),
    )

pub placed_few : (load : Load)
    → length (placed load) ≤ sum_by (placed_pages (areas_in load)) (headers_in (directives load))
placed_few load = pages_few load [] (directives load)

-- ---- contexts

one_context : (h : Header) (content : Data) → length (context_in h content) ≡ cond (is_context h) 1 0
one_context (Context gpa mask offset vp) content = refl
one_context _ content = refl

-- headers have as many contexts as were counted
contexts_counted : (ps : List PlacedHeader) → length (flat_map header_contexts ps) ≡ count_by is_context (headers_in ps)
unfolding header_contexts
contexts_counted [] = refl
contexts_counted (p ∷ ps) =
    length-append (context_in p.header p.content) (flat_map header_contexts ps)
    ∙ ap (λ n. n + length (flat_map header_contexts ps)) (one_context p.header p.content)
    ∙ ap (λ n. cond (is_context p.header) 1 0 + n) (contexts_counted ps)
    ∙ sym (sum_by-cons (λ h. cond (is_context h) 1 0) p.header (headers_in ps))

pub contexts_many : (load : Load) → length (contexts load) ≡ count_by is_context (headers_in (directives load))
contexts_many load = contexts_counted (directives load)

-- ---- ID blocks

-- what only SEV-SNP has is not on TDX
tdx_is_not_snp : (kind : PlatformKind) → kind ≡ Tdx → not (is_snp kind) ≡ false → ⊥
tdx_is_not_snp Tdx is fits = cc
tdx_is_not_snp _ is fits = cc

-- a header that fits TDX wants no digest
wants_none : (s : Setting) (before : List Header) (index : ℕ) (h : Header) → s.kind ≡ Tdx → row s before h ≡ None
    → wanted_by index h ≡ None
unfolding why_of
wants_none s before index (IdBlock mask author_enabled ld family_id image_id version guest_svn id_algorithm author_algorithm) tdx none =
    absurd (tdx_is_not_snp s.kind tdx (unless_none _ IdBlockNotHere (both_none _ _ none).0))
wants_none s before index _ tdx none = refl

-- headers that fit TDX want no digest
ids_none : (s : Setting) (before ps : List PlacedHeader) → s.kind ≡ Tdx → misfit_after s before ps ≡ None
    → filter_map wanted_of ps ≡ []
ids_none s before [] tdx none = refl
ids_none s before (p ∷ ps) tdx none =
    let wanted = wants_none s (headers_in before) p.index p.header tdx (no_row s before p ps none) in
    let later = ids_none s (before ++ p ∷ []) ps tdx (no_later_misfit s before p ps none) in
    ap (λ first. cons_option first (filter_map wanted_of ps)) wanted ∙ later

pub no_ids : (load : Load) (plan : List PlanRange) → load.platform.kind ≡ Tdx
    → first_misfit load.file load.platform plan load.host ≡ None
    → filter_map wanted_of (directives load) ≡ []
no_ids load plan tdx none = ids_none (setting_of load.file load.platform plan load.host) [] (directives load) tdx none
