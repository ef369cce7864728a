-- Whether a header fits a host doesn't depend on where data stand.
use Rattle.std.proofs.Common.{◌≡◌, ℕ, ◌+◌, List, [], ◌∷◌, refl, sym, ◌∙◌, ap, ap₂, Bool, ◌||◌}
use Rattle.std.specs.Prelude.{sum_by}
use Rattle.std.specs.List.{list_any}
use Rattle.std.proofs.lemmas.List.Sums.{sum_by-cons}
use Rattle.igvm_headers.specs.HeaderFacts.{gpa_of, with_offset}
use Rattle.igvm_headers.specs.declared.header.Header.{Header}
use Rattle.igvm_headers.specs.declared.header.Header.TheVariants.{Area, Insert, Param, Context}
use Rattle.platform_masks.specs.Masks.{applies}
use Rattle.igvm_image.specs.Areas.{placed_pages}
use Rattle.igvm_image.specs.RulesInWords.{declared_bytes}
use Rattle.igvm_image.specs.declared.area_table.AreaEntry.{AreaEntry}
use Rattle.directive_rules.specs.DirectiveFacts.{is_policy, is_context_of, is_id_block, inserts}
use Rattle.directive_rules.specs.MisfitRows.{Setting, Before, before_of, gone_before, context_before, row, why_of}
use Rattle.directive_rules.specs.PageAddresses.{addresses, share_page, have_common, page_row}
use Rattle.made_list.proofs.ReadHeaders.{at_0}

-- ---- one header

pub applies_same : (mask : ℕ) (h : Header) → applies (with_offset 0 h) mask ≡ applies h mask
applies_same mask (Area bytes area offset) = refl
applies_same mask h = refl

gpa_same : (h : Header) → gpa_of (with_offset 0 h) ≡ gpa_of h
gpa_same (Area bytes area offset) = refl
gpa_same h = refl

pages_same : (areas : List AreaEntry) (h : Header) → placed_pages areas (with_offset 0 h) ≡ placed_pages areas h
pages_same areas (Area bytes area offset) = refl
pages_same areas h = refl

bytes_same : (h : Header) → declared_bytes (with_offset 0 h) ≡ declared_bytes h
bytes_same (Area bytes area offset) = refl
bytes_same h = refl

policy_same : (h : Header) → is_policy (with_offset 0 h) ≡ is_policy h
policy_same (Area bytes area offset) = refl
policy_same h = refl

pub id_block_same : (h : Header) → is_id_block (with_offset 0 h) ≡ is_id_block h
id_block_same (Area bytes area offset) = refl
id_block_same h = refl

context_same : (vp : ℕ) (h : Header) → is_context_of vp (with_offset 0 h) ≡ is_context_of vp h
context_same vp (Area bytes area offset) = refl
context_same vp h = refl

inserts_same : (area : ℕ) (h : Header) → inserts area (with_offset 0 h) ≡ inserts area h
inserts_same area (Area bytes other offset) = refl
inserts_same area h = refl

addresses_same : (areas : List AreaEntry) (h : Header) → addresses areas (with_offset 0 h) ≡ addresses areas h
addresses_same areas h = ap₂ (λ gpa pages. page_row gpa pages) (gpa_same h) (pages_same areas h)

share_same : (areas : List AreaEntry) (h g : Header) → share_page areas (with_offset 0 h) (with_offset 0 g) ≡ share_page areas h g
share_same areas h g = ap₂ (λ xs ys. have_common xs ys) (addresses_same areas h) (addresses_same areas g)

-- ---- a list of headers

pub any_same : (test other : Header → Bool) → ((h : Header) → test (with_offset 0 h) ≡ other h) → (hs : List Header)
    → list_any test (at_0 hs) ≡ list_any other hs
any_same test other same [] = refl
any_same test other same (h ∷ hs) = ap₂ (λ b c. b || c) (same h) (any_same test other same hs)

sum_same : (f : Header → ℕ) → ((h : Header) → f (with_offset 0 h) ≡ f h) → (hs : List Header) → sum_by f (at_0 hs) ≡ sum_by f hs
sum_same f same [] = refl
sum_same f same (h ∷ hs) =
    sum_by-cons f (with_offset 0 h) (at_0 hs) ∙ ap₂ (λ m n. m + n) (same h) (sum_same f same hs) ∙ sym (sum_by-cons f h hs)

gone_same : (hs : List Header) (h : Header) → gone_before (at_0 hs) (with_offset 0 h) ≡ gone_before hs h
gone_same hs (Insert gpa mask area) = any_same (inserts area) (inserts area) (inserts_same area) hs
gone_same hs (Param kind area byte_offset) = any_same (inserts area) (inserts area) (inserts_same area) hs
gone_same hs (Area bytes area offset) = refl
gone_same hs h = refl

context_before_same : (hs : List Header) (h : Header) → context_before (at_0 hs) (with_offset 0 h) ≡ context_before hs h
context_before_same hs (Context gpa mask offset vp) = any_same (is_context_of vp) (is_context_of vp) (context_same vp) hs
context_before_same hs (Area bytes area offset) = refl
context_before_same hs h = refl

before_same : (areas : List AreaEntry) (hs : List Header) (h : Header) → before_of areas (at_0 hs) (with_offset 0 h) ≡ before_of areas hs h
before_same areas hs h =
    let policy = any_same is_policy is_policy policy_same hs in
    let area_bytes = sum_same declared_bytes bytes_same hs in
    let gone = gone_same hs h in
    let shares = any_same (share_page areas (with_offset 0 h)) (share_page areas h) (share_same areas h) hs in
    let pages = sum_same (placed_pages areas) (pages_same areas) hs in
    let context = context_before_same hs h in
    let id_block = any_same is_id_block is_id_block id_block_same hs in
    λ i. record {
      policy = policy i;
      area_bytes = area_bytes i;
      gone = gone i;
      shares = shares i;
      pages = pages i;
      context = context i;
      id_block = id_block i;
    }

-- ---- its row

why_same : (s : Setting) (before : Before) (h : Header) → why_of s before (with_offset 0 h) ≡ why_of s before h
unfolding why_of
why_same s before (Area bytes area offset) = refl
why_same s before h = refl

pub row_same : (s : Setting) (hs : List Header) (h : Header) → row s (at_0 hs) (with_offset 0 h) ≡ row s hs h
row_same s hs h =
    why_same s (before_of s.areas (at_0 hs) (with_offset 0 h)) h ∙ ap (λ before. why_of s before h) (before_same s.areas hs h)
