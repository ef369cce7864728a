-- What is known of the next header of an image that fits.
use Rattle.std.proofs.Common.{◌≡◌, ℕ, ◌+◌, ◌*◌, ◌%◌, ◌^◌, ◌<◌, ◌≤◌, List, [], ◌∷◌, ◌++◌, length, refl, sym, ◌∙◌, ap, subst, arith, Bool, true, false, not, cond, Option, Some, None}
use Rattle.std.specs.Prelude.{IsSome}
use Rattle.std.specs.Bool.{then_some}
use Rattle.std.specs.Option.{option_or}
use Rattle.std.specs.List.{list_any, slice_get, AllByRecursion}
use Rattle.igvm_headers.specs.Pages.{page_bytes, small_pages}
use Rattle.igvm_headers.specs.SpellingConditions.{NumbersFit}
use Rattle.igvm_headers.specs.declared.header.Header.{Header}
use Rattle.igvm_headers.specs.declared.header.Header.TheVariants.{Page, Insert, Context}
use Rattle.igvm_headers.specs.declared.options.Options.{Options}
use Rattle.igvm_headers.specs.declared.page_kind.PageKind.{PageKind}
use Rattle.igvm_headers.specs.declared.page_kind.PageKind.TheVariants.{Normal, Secrets, Cpuid, CpuidXf}
use Rattle.igvm_headers.specs.declared.platform_kind.PlatformKind.{PlatformKind}
use Rattle.igvm_headers.specs.declared.platform_kind.PlatformKind.TheVariants.{SevSnp}
use Rattle.platform_masks.specs.Masks.{applies}
use Rattle.host_set.specs.declared.range.PlanRange.{PlanRange}
use Rattle.igvm_image.specs.Areas.{areas_of}
use Rattle.igvm_image.specs.Headers.{PlacedHeader, IsAccepted, placed_headers, headers_of}
use Rattle.igvm_image.specs.HeadersOfFile.{IsHeaderOf}
use Rattle.igvm_image.specs.PagesFit.{PagesFit}
use Rattle.directive_rules.specs.DirectiveFacts.{is_context_of}
use Rattle.directive_rules.specs.Tags.{tag_of}
use Rattle.directive_rules.specs.declared.misfit.Misfit.{Misfit}
use Rattle.directive_rules.specs.declared.misfit.Why.{Why}
use Rattle.directive_rules.specs.declared.misfit.Why.TheVariants.{TypeNotHere, ContextNotHere, ContextRepeated}
use Rattle.directive_rules.specs.FirstMisfit.{headers_in, headers_for, misfit_or, misfit_after, setting_of}
use Rattle.directive_rules.specs.MisfitRows.{Setting, type_not_here, why_of, row}
use Rattle.launch_platform.specs.Machine.{State, has_context}
use Rattle.image_loader.specs.Loads.{Load, areas_in}
use Rattle.image_loader.specs.Fitting.{ContextsFit, HasOwnData, IsNext, MachineIsBehind, PagesEnter}

-- ---- its row

-- a header without a misfit has no row, and those after it have no misfit
none_first : (index : ℕ) (r : Option Why) (later : Option Misfit) → misfit_or index r later ≡ None → r ≡ None
none_first index None later none = refl
none_first index (Some why) later none = cc

none_later : (index : ℕ) (r : Option Why) (later : Option Misfit) → misfit_or index r later ≡ None → later ≡ None
none_later index None later none = none
none_later index (Some why) later none = cc

-- the first of headers without a misfit has no row
pub no_row : (s : Setting) (before : List PlacedHeader) (p : PlacedHeader) (ps : List PlacedHeader)
    → misfit_after s before (p ∷ ps) ≡ None → row s (headers_in before) p.header ≡ None
unfolding misfit_after
no_row s before p ps none = none_first _ _ _ none

-- the headers after the first of headers without a misfit have none
pub no_later_misfit : (s : Setting) (before : List PlacedHeader) (p : PlacedHeader) (ps : List PlacedHeader)
    → misfit_after s before (p ∷ ps) ≡ None → misfit_after s (before ++ p ∷ []) ps ≡ None
unfolding misfit_after
no_later_misfit s before p ps none = none_later p.index (row s (headers_in before) p.header) _ none

-- where the first of two causes is none, neither is there
pub both_none : (a b : Option Why) → option_or a b ≡ None → (a ≡ None) × (b ≡ None)
both_none None b none = (refl, none)
both_none (Some why) b none = cc

-- the test of a cause that isn't there fails
pub unless_none : (b : Bool) (why : Why) → then_some b why ≡ None → b ≡ false
unless_none false why none = refl
unless_none true why none = cc

-- a first header that counts is the first of those that count
counted_first : (mask : ℕ) (p : PlacedHeader) (ps : List PlacedHeader) → applies p.header mask ≡ true
    → headers_for mask (p ∷ ps) ≡ p ∷ headers_for mask ps
counted_first mask p ps counts = ap (λ b. cond b (p ∷ headers_for mask ps) (headers_for mask ps)) counts

-- the next header has no row behind those that were gone through
pub next_row : (load : Load) (plan : List PlanRange) (done left : List PlacedHeader) (p : PlacedHeader)
    → IsNext load plan done p left
    → row (setting_of load.file load.platform plan load.host) (headers_in (headers_for load.platform.mask done)) p.header
    ≡ None
next_row load plan done left p next =
    let s = setting_of load.file load.platform plan load.host in
    let before = headers_for load.platform.mask done in
    let later = headers_for load.platform.mask left in
    let counted = counted_first load.platform.mask p left next.counts in
    no_row s before p later (subst (λ hs. misfit_after s before hs ≡ None) counted next.fits)

-- ---- its record

-- the element behind a list's front stands at the front's length
at_length : {X : Type 0} (xs ys : List X) (x : X) → slice_get (xs ++ x ∷ ys) (length xs) ≡ Some x
at_length [] ys x = refl
at_length (y ∷ xs) ys x = at_length xs ys x

-- igvm_image's law `accepted_headers`
abbrev pub AcceptedHeaders : Type 0
AcceptedHeaders = (file : List ℕ) (k : ℕ) (placed : PlacedHeader) → IsAccepted file
    → slice_get (placed_headers file) k ≡ Some placed → IsHeaderOf file k placed

-- the next header's data are those of its record
pub own_data : AcceptedHeaders → (load : Load) (plan : List PlanRange) (done left : List PlacedHeader)
    (p : PlacedHeader) → IsNext load plan done p left → HasOwnData p
own_data accepted load plan done left p next =
    let there = ap (λ hs. slice_get hs (length done)) (sym next.whole) ∙ at_length done left p in
    let own = accepted load.file (length done) p next.accepted there in
    record { pages = ap (λ content. content.pages) own.content; offset = ap (λ content. content.offset) own.content }

-- ---- its pages

-- what holds of each element holds of the one behind a front
here : {X : Type 0} (P : X → Type 0) (xs ys : List X) (x : X) → AllByRecursion P (xs ++ x ∷ ys) → P x
here P [] ys x all = all.0
here P (y ∷ xs) ys x all = here P xs ys x all.1

-- igvm_image's law `pages_fit`
abbrev pub PagesFitLaw : Type 0
PagesFitLaw = (file : List ℕ) → IsAccepted file
    → AllByRecursion (λ p. PagesFit (areas_of (headers_of file)) p.header) (placed_headers file)

-- a page has a tag where the platform has pages of its kind
page_has_tag : (kind : PlatformKind) (options : Options) (gpa mask offset : ℕ) (large unmeasured : Bool) (of : PageKind)
    → type_not_here kind of ≡ false → IsSome (tag_of (Page gpa mask offset large unmeasured of) kind options)
page_has_tag kind options gpa mask offset large unmeasured Normal fits = refl
page_has_tag SevSnp options gpa mask offset large unmeasured Secrets fits = refl
page_has_tag SevSnp options gpa mask offset large unmeasured Cpuid fits = refl
page_has_tag SevSnp options gpa mask offset large unmeasured CpuidXf fits = refl
page_has_tag kind options gpa mask offset large unmeasured of fits = cc

-- a page's address is that of a page of 4,096 bytes, and all of it is within the address space
page_aligned : (large : Bool) (gpa : ℕ) → gpa % page_bytes large ≡ 0 → gpa % 4096 ≡ 0
page_aligned true gpa fits = omega arith
page_aligned false gpa fits = fits

page_within : (large : Bool) (gpa : ℕ) → gpa % page_bytes large ≡ 0 → gpa < 2 ^ 64
    → gpa + 4096 * small_pages large ≤ 2 ^ 64
page_within true gpa fits few = omega arith
page_within false gpa fits few = omega arith

-- the machine takes the pages of a header without a row
enters : (load : Load) (plan : List PlanRange) (before : List Header) (h : Header)
    → row (setting_of load.file load.platform plan load.host) before h ≡ None → PagesFit (areas_in load) h
    → NumbersFit h → PagesEnter load h
unfolding why_of
enters load plan before (Page gpa mask offset large unmeasured kind) none fits numbers = record {
  tagged = page_has_tag load.platform.kind load.options gpa mask offset large unmeasured kind
      (unless_none _ TypeNotHere (both_none _ _ none).0);
  aligned = page_aligned large gpa fits;
  within = page_within large gpa fits numbers.0;
}
enters load plan before (Insert gpa mask area) none fits numbers =
    record { tagged = refl; aligned = fits.0; within = omega (arith, fits.1) }
enters load plan before _ none fits numbers = tt

-- the machine takes the pages of the next header
pub pages_enter : PagesFitLaw → (load : Load) (plan : List PlanRange) (done left : List PlacedHeader)
    (p : PlacedHeader) → IsNext load plan done p left → PagesEnter load p.header
pages_enter pages_fit load plan done left p next =
    let all = subst (AllByRecursion (λ (p : PlacedHeader). PagesFit (areas_in load) p.header)) (sym next.whole)
    (pages_fit load.file next.accepted) in
    enters load plan (headers_in (headers_for load.platform.mask done)) p.header
    (next_row load plan done left p next)
    (here (λ (p : PlacedHeader). PagesFit (areas_in load) p.header) done left p all)
    next.numbers

-- ---- its context

not_false : (b : Bool) → not b ≡ false → b ≡ true
not_false true fits = refl
not_false false fits = cc

-- the machine takes the context of a header without a row
context_fits : (load : Load) (plan : List PlanRange) (before : List Header) (s : State) (h : Header)
    → row (setting_of load.file load.platform plan load.host) before h ≡ None
    → ((vp : ℕ) → has_context vp s.contexts ≡ list_any (is_context_of vp) before)
    → ContextsFit load s.contexts h
unfolding why_of
context_fits load plan before s (Context gpa mask offset vp) none contexts = record {
  kind = not_false _ (unless_none _ ContextNotHere (both_none _ _ none).0);
  new = contexts vp ∙ unless_none _ ContextRepeated (both_none _ _ none).1;
}
context_fits load plan before s _ none contexts = tt

-- the machine takes the context of the next header
pub next_context : (load : Load) (plan : List PlanRange) (done left : List PlacedHeader) (p : PlacedHeader) (s : State)
    → IsNext load plan done p left → MachineIsBehind load (headers_for load.platform.mask done) s
    → ContextsFit load s.contexts p.header
next_context load plan done left p s next behind =
    context_fits load plan (headers_in (headers_for load.platform.mask done)) s p.header
    (next_row load plan done left p next) behind.contexts
