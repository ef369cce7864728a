-- Why each page of a made list fits.
use Rattle.std.proofs.Common.{◌≡◌, ◌≢◌, ℕ, zero, suc, ◌+◌, ◌*◌, ◌<◌, ◌≤◌, List, ◌++◌, refl, ◌∙◌, ap, ap₂, arith, Bool, true, false, not, ◌&&◌, ◌||◌, nat_lt, None}
use Rattle.std.specs.Prelude.{sum_by}
use Rattle.std.specs.Bool.{then_some}
use Rattle.std.specs.Option.{option_or}
use Rattle.std.specs.List.{list_any}
use Rattle.std.proofs.lemmas.Bool.{le-ltb}
use Rattle.std.proofs.lemmas.Bool.Decides.{nat_tests}
use Rattle.std.proofs.lemmas.List.Folds.{list_any-append}
use Rattle.std.proofs.lemmas.List.Sums.{sum_by-append, sum_by-cons}
use Rattle.igvm_headers.specs.declared.header.Header.{Header}
use Rattle.igvm_headers.specs.declared.header.Header.TheVariants.{Page}
use Rattle.igvm_headers.specs.declared.page_kind.PageKind.{PageKind}
use Rattle.igvm_headers.specs.declared.platform_kind.PlatformKind.TheVariants.{SevSnp}
use Rattle.host_set.specs.Plans.{is_covered, is_in_some}
use Rattle.igvm_image.specs.Areas.{placed_pages}
use Rattle.directive_rules.specs.MisfitRows.{Setting, setting, is_outside, pages_why, row, why_of}
use Rattle.directive_rules.specs.PageAddresses.{addresses, have_common, page_row}
use Rattle.directive_rules.specs.declared.misfit.Why.{Why}
use Rattle.directive_rules.specs.declared.misfit.Why.TheVariants.{Outside, Repeated, TooManyPages}
use Rattle.made_list.specs.MadeList.{page_header}
use Rattle.made_list.specs.MadeImage.{trial_plan, trial_host}
use Rattle.made_list.proofs.Headers.{made_areas, page_headers}
use Rattle.made_list.proofs.SnpHeaders.{snp_head}

-- what the headers are judged by
abbrev pub trial_setting : Setting
trial_setting = setting SevSnp trial_plan trial_host made_areas

-- ---- they lie in the plan

in_plan : (address : ℕ) → address < 0x100000000 → is_in_some trial_plan address ≡ true
in_plan address less = grind (arith, nat_tests)

covered : (gpa bytes : ℕ) → gpa + bytes ≤ 0x100000000 → is_covered trial_plan gpa bytes ≡ true
unfolding is_covered
covered gpa zero within = refl
covered gpa (suc bytes) within = ap₂ (λ b c. b && c) (in_plan (gpa + bytes) (omega arith)) (covered gpa bytes (omega arith))

pub inside : (gpa bytes : ℕ) → gpa + bytes ≤ 0x100000000 → is_outside trial_plan gpa bytes ≡ false
inside gpa bytes within = ap not (covered gpa bytes within)

-- ---- no header before has their address

-- a header places the page of an address
abbrev pub is_there : ℕ → Header → Bool
is_there gpa header = have_common (page_row gpa 1) (addresses made_areas header)

pub apart : (gpa other : ℕ) → gpa ≢ other → have_common (page_row gpa 1) (page_row other 1) ≡ false
unfolding have_common page_row
apart gpa other differ = grind (arith, nat_tests)

-- a test that no page passes
pub no_page : (test : Header → Bool) (first n : ℕ) → ((k : ℕ) → k < first + n → test (page_header k) ≡ false) → list_any test (page_headers first n) ≡ false
no_page test first zero none = refl
no_page test first (suc n) none =
    ap₂ (λ b c. b || c) (none first (omega arith)) (no_page test (first + 1) n (λ k less. none k (omega arith)))

-- a test that nothing before a page passes
pub none_before : (test : Header → Bool) (n k : ℕ) → list_any test (snp_head n) ≡ false → ((j : ℕ) → j < k → test (page_header j) ≡ false)
    → list_any test (snp_head n ++ page_headers 0 k) ≡ false
none_before test n k head pages =
    list_any-append test (snp_head n) (page_headers 0 k)
    ∙ ap₂ (λ b c. b || c) head (no_page test 0 k (λ j less. pages j (omega arith)))

head_places_none : (gpa n : ℕ) → list_any (is_there gpa) (snp_head n) ≡ false
unfolding have_common page_row
head_places_none gpa n = refl

pub not_there : (gpa n k : ℕ) → ((j : ℕ) → j < k → gpa ≢ 0x100000 + 4096 * j) → list_any (is_there gpa) (snp_head n ++ page_headers 0 k) ≡ false
not_there gpa n k differ =
    none_before (is_there gpa) n k (head_places_none gpa n) (λ j less. apart gpa (0x100000 + 4096 * j) (differ j less))

-- ---- they are not too many

pages_placed : (first n : ℕ) → sum_by (placed_pages made_areas) (page_headers first n) ≡ n
pages_placed first zero = refl
pages_placed first (suc n) =
    sum_by-cons (placed_pages made_areas) (page_header first) (page_headers (first + 1) n) ∙ omega (arith, pages_placed (first + 1) n)

pub placed_before : (n k : ℕ) → sum_by (placed_pages made_areas) (snp_head n ++ page_headers 0 k) ≡ k
placed_before n k =
    sum_by-append (placed_pages made_areas) (snp_head n) (page_headers 0 k) ∙ omega (arith, pages_placed 0 k)

-- ---- so they fit

none_of_three : (a b c : Bool) (x y z : Why) → a ≡ false → b ≡ false → c ≡ false
    → option_or (then_some a x) (option_or (then_some b y) (then_some c z)) ≡ None
none_of_three true b c x y z first second third = cc
none_of_three false true c x y z first second third = cc
none_of_three false false true x y z first second third = cc
none_of_three false false false x y z first second third = refl

pub page_fits : (shares : Bool) (pages gpa : ℕ) → gpa + 4096 ≤ 0x100000000 → shares ≡ false → pages ≤ 524287
    → pages_why trial_plan shares pages gpa 1 ≡ None
page_fits shares pages gpa within alone few =
    none_of_three (is_outside trial_plan gpa 4096) shares (nat_lt 524288 (pages + 1)) Outside Repeated TooManyPages
    (inside gpa 4096 within) alone (le-ltb 524288 (pages + 1) (omega arith))

pub page_row_fits : (before : List Header) (gpa mask : ℕ) (unmeasured : Bool) (kind : PageKind) → gpa + 4096 ≤ 0x100000000
    → list_any (is_there gpa) before ≡ false → sum_by (placed_pages made_areas) before ≤ 524287
    → row trial_setting before (Page gpa mask 0 false unmeasured kind) ≡ None
unfolding why_of
page_row_fits before gpa mask unmeasured kind within alone few =
    page_fits (list_any (is_there gpa) before) (sum_by (placed_pages made_areas) before) gpa within alone few
