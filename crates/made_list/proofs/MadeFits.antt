-- Every header of a made list's image fits the host that it is made for.
use Rattle.std.proofs.Common.{◌≡◌, ℕ, zero, suc, ◌+◌, ◌*◌, ◌%◌, ◌<◌, ◌≤◌, List, [], ◌∷◌, ◌++◌, refl, sym, ◌∙◌, ap, ap₂, subst, arith, append_assoc, Bool, false, ◌||◌, ◌==◌, None}
use Rattle.std.specs.Prelude.{sum_by, filter}
use Rattle.std.specs.Bool.{then_some}
use Rattle.std.specs.Option.{option_or}
use Rattle.std.specs.List.{list_any}
use Rattle.std.proofs.lemmas.List.Folds.{list_any-append}
use Rattle.std.proofs.lemmas.List.FromFn.{map-range_with_len_more}
use Rattle.std.proofs.lemmas.List.Sums.{sum_by_push}
use Rattle.igvm_headers.specs.declared.header.Header.{Header}
use Rattle.igvm_headers.specs.declared.header.Header.TheVariants.{Page, Insert, Context}
use Rattle.igvm_headers.specs.declared.page_kind.PageKind.TheVariants.{Normal, Secrets, Cpuid}
use Rattle.igvm_headers.specs.declared.platform_kind.PlatformKind.TheVariants.{SevSnp}
use Rattle.platform_masks.specs.Masks.{applies}
use Rattle.igvm_image.specs.Areas.{placed_pages}
use Rattle.igvm_image.specs.Headers.{placed_headers}
use Rattle.directive_rules.specs.DirectiveFacts.{inserts, is_context_of}
use Rattle.directive_rules.specs.FirstMisfit.{first_misfit, headers_for, headers_in, misfit_after}
use Rattle.directive_rules.specs.MisfitRows.{pages_why, row, setting, why_of}
use Rattle.directive_rules.specs.PageAddresses.{have_common, page_row}
use Rattle.directive_rules.specs.declared.misfit.Why.TheVariants.{AreaGone, ContextRepeated, Outside}
use Rattle.image_builder.specs.Layout.{layout}
use Rattle.made_list.specs.MadeList.{made_list, page_header}
use Rattle.made_list.specs.MadeImage.{snp_platform, trial_host, trial_plan}
use Rattle.made_list.proofs.Fitting.{Fit, no_misfit, headers_that_apply}
use Rattle.made_list.proofs.Headers.{last_headers, made_areas, page_headers}
use Rattle.made_list.proofs.PageRows.{trial_setting, inside, is_there, apart, none_before, not_there, placed_before, page_fits, page_row_fits}
use Rattle.made_list.proofs.ReadHeaders.{Laws, areas_of_image, at_0, headers_of_image}
use Rattle.made_list.proofs.SnpHeaders.{snp_head, snp_headers_are}

-- ---- the pages

before_more : (n k : ℕ) → snp_head n ++ page_headers 0 (k + 1) ≡ (snp_head n ++ page_headers 0 k) ++ page_header k ∷ []
before_more n k =
    ap (λ hs. snp_head n ++ hs) (map-range_with_len_more page_header 0 k k (omega arith))
    ∙ sym (append_assoc (snp_head n) (page_headers 0 k) (page_header k ∷ []))

pages_fit : (n m k : ℕ) (others : List Header) → k + m ≤ 100000 → Fit trial_setting (snp_head n ++ page_headers 0 (k + m)) others
    → Fit trial_setting (snp_head n ++ page_headers 0 k) (page_headers k m ++ others)
pages_fit n zero k others few fit =
    let none : k + zero ≡ k = omega arith in
    subst (λ j. Fit trial_setting (snp_head n ++ page_headers 0 j) others) none fit
pages_fit n (suc m) k others few fit =
    let next : k + suc m ≡ k + 1 + m = omega arith in
    let later = pages_fit n m (k + 1) others (omega arith) (subst (λ j. Fit trial_setting (snp_head n ++ page_headers 0 j) others) next fit) in (
      page_row_fits (snp_head n ++ page_headers 0 k) (0x100000 + 4096 * k) 7 (k % 5 == 4) Normal (omega arith)
          (not_there (0x100000 + 4096 * k) n k (λ j less same. omega arith)) (omega (arith, placed_before n k)),
      subst (λ hs. Fit trial_setting hs (page_headers (k + 1) m ++ others)) (before_more n k) later,
    )

-- ---- what stands behind them

push_none : (test : Header → Bool) (hs : List Header) (h : Header) → list_any test hs ≡ false → test h ≡ false → list_any test (hs ++ h ∷ []) ≡ false
push_none test hs h none here = list_any-append test hs (h ∷ []) ∙ ap₂ (λ b c. b || (c || false)) none here

-- the pages of secrets and of CPUID
abbrev secrets : Header
secrets = Page 0xF1000 1 0 false false Secrets

abbrev cpuid : Header
cpuid = Page 0xF2000 1 0 false false Cpuid

abbrev insert : Header
insert = Insert 0xF0000 3 0

insert_fits : (before : List Header) → list_any (inserts 0) before ≡ false → list_any (is_there 0xF0000) before ≡ false
    → sum_by (placed_pages made_areas) before ≤ 524287 → row trial_setting before insert ≡ None
unfolding why_of
insert_fits before gone alone few =
    ap (λ b. option_or (then_some b AreaGone) (pages_why trial_plan (list_any (is_there 0xF0000) before) (sum_by (placed_pages made_areas) before) 0xF0000 1)) gone
    ∙ page_fits (list_any (is_there 0xF0000) before) (sum_by (placed_pages made_areas) before) 0xF0000 (omega arith) alone few

context_fits : (before : List Header) → list_any (is_context_of 0) before ≡ false → row trial_setting before (Context 0xFFFFFFFFF000 1 0 0) ≡ None
unfolding why_of
context_fits before none = ap (λ b. then_some b ContextRepeated) none

last_fit : (n : ℕ) → n ≤ 100000 → Fit trial_setting (snp_head n ++ page_headers 0 n) last_headers
last_fit n few = (
  page_row_fits pages 0xF1000 1 false Secrets (omega arith) (free 0xF1000 (omega arith)) (omega (arith, placed_before n n)),
  (
    page_row_fits (pages ++ secrets ∷ []) 0xF2000 1 false Cpuid (omega arith)
        (push_none (is_there 0xF2000) pages secrets (free 0xF2000 (omega arith)) (apart 0xF2000 0xF1000 (λ same. omega arith)))
        (omega (arith, placed_before n n, sum_by_push (placed_pages made_areas) pages secrets)),
    (
      insert_fits (pages ++ secrets ∷ [] ++ cpuid ∷ [])
          (push_none (inserts 0) (pages ++ secrets ∷ []) cpuid (push_none (inserts 0) pages secrets (none_before (inserts 0) n n refl (λ j less. refl)) refl) refl)
          (push_none (is_there 0xF0000) (pages ++ secrets ∷ []) cpuid
          (push_none (is_there 0xF0000) pages secrets (free 0xF0000 (omega arith)) (apart 0xF0000 0xF1000 (λ same. omega arith)))
          (apart 0xF0000 0xF2000 (λ same. omega arith)))
          (omega (arith, placed_before n n, sum_by_push (placed_pages made_areas) pages secrets, sum_by_push (placed_pages made_areas) (pages ++ secrets ∷ []) cpuid)),
      (
        context_fits (pages ++ secrets ∷ [] ++ cpuid ∷ [] ++ insert ∷ [])
            (push_none (is_context_of 0) (pages ++ secrets ∷ [] ++ cpuid ∷ []) insert
            (push_none (is_context_of 0) (pages ++ secrets ∷ []) cpuid
            (push_none (is_context_of 0) pages secrets (none_before (is_context_of 0) n n refl (λ j less. refl)) refl) refl) refl),
        tt,
      ),
    ),
  ),
)
  where
    pages : List Header
    pages = snp_head n ++ page_headers 0 n

    free : (gpa : ℕ) → gpa < 0x100000 → list_any (is_there gpa) pages ≡ false
    free gpa less = not_there gpa n n (λ j below same. omega arith)

-- ---- all

made_fit : (n : ℕ) → n ≤ 100000 → Fit trial_setting [] (snp_head n ++ (page_headers 0 n ++ last_headers))
unfolding why_of have_common page_row
made_fit n few =
    let same : n ≡ 0 + n = omega arith in
    let last : Fit trial_setting (snp_head n ++ page_headers 0 (0 + n)) last_headers =
    subst (λ m. Fit trial_setting (snp_head n ++ page_headers 0 m) last_headers) same (last_fit n few) in (
      refl,
      (
        refl,
        (
          refl,
          (refl, (ap (λ b. then_some b Outside) (inside 0x100000 (4096 * n) (omega arith)), pages_fit n n 0 last_headers (omega arith) last)),
        ),
      ),
    )

pub headers_that_count : Laws → (n : ℕ) → n ≤ 100000
    → at_0 (headers_in (headers_for 1 (placed_headers (layout (made_list n))))) ≡ snp_head n ++ (page_headers 0 n ++ last_headers)
headers_that_count laws n few =
    headers_that_apply 1 (placed_headers (layout (made_list n)))
    ∙ ap (filter (λ h. applies h 1)) (headers_of_image laws n few)
    ∙ snp_headers_are n

pub image_fits : Laws → (n : ℕ) → n ≤ 100000 → first_misfit (layout (made_list n)) snp_platform trial_plan trial_host ≡ None
image_fits laws n few =
    let placed = placed_headers (layout (made_list n)) in
    ap (λ areas. misfit_after (setting SevSnp trial_plan trial_host areas) [] (headers_for 1 placed)) (areas_of_image laws n few)
    ∙ no_misfit trial_setting [] (headers_for 1 placed) (subst (Fit trial_setting []) (sym (headers_that_count laws n few)) (made_fit n few))
