-- Headers that all fit, judged with their data at file offset 0.
use Rattle.std.proofs.Common.{◌≡◌, ℕ, List, [], ◌∷◌, ◌++◌, refl, sym, ◌∙◌, ap, subst, Bool, true, false, None, cond}
use Rattle.std.specs.Prelude.{filter}
use Rattle.std.proofs.lemmas.List.{map-append}
use Rattle.igvm_headers.specs.HeaderFacts.{with_offset}
use Rattle.igvm_headers.specs.declared.header.Header.{Header}
use Rattle.platform_masks.specs.Masks.{applies}
use Rattle.igvm_image.specs.Headers.{PlacedHeader}
use Rattle.directive_rules.specs.FirstMisfit.{headers_in, headers_for, misfit_after, misfit_or}
use Rattle.directive_rules.specs.MisfitRows.{Setting, row}
use Rattle.made_list.proofs.ReadHeaders.{at_0}
use Rattle.made_list.proofs.SameRows.{applies_same, row_same}

-- none of these headers has a row after those
abbrev pub Fit : Setting → List Header → List Header → Type 0
Fit s before [] = Unit {0}
Fit s before (h ∷ hs) = (row s before h ≡ None) × Fit s (before ++ h ∷ []) hs

one_more : (before : List PlacedHeader) (p : PlacedHeader)
    → at_0 (headers_in before) ++ with_offset 0 p.header ∷ [] ≡ at_0 (headers_in (before ++ p ∷ []))
one_more before p =
    sym (ap at_0 (map-append (λ (q : PlacedHeader). q.header) before (p ∷ [])) ∙ map-append (with_offset 0) (headers_in before) (p.header ∷ []))

pub no_misfit : (s : Setting) (before placed : List PlacedHeader) → Fit s (at_0 (headers_in before)) (at_0 (headers_in placed))
    → misfit_after s before placed ≡ None
unfolding misfit_after
no_misfit s before [] fit = refl
no_misfit s before (p ∷ ps) (here, later) =
    ap (λ why. misfit_or p.index why (misfit_after s (before ++ p ∷ []) ps)) (sym (row_same s (headers_in before) p.header) ∙ here)
    ∙ no_misfit s (before ++ p ∷ []) ps (subst (λ hs. Fit s hs (at_0 (headers_in ps))) (one_more before p) later)

-- which headers count for a platform doesn't depend on where data stand
pub headers_that_apply : (mask : ℕ) (placed : List PlacedHeader)
    → at_0 (headers_in (headers_for mask placed)) ≡ filter (λ h. applies h mask) (at_0 (headers_in placed))
headers_that_apply mask [] = refl
headers_that_apply mask (p ∷ ps) =
    cases (applies p.header mask) (headers_for mask ps) (filter (λ h. applies h mask) (at_0 (headers_in ps))) (headers_that_apply mask ps)
    ∙ ap (λ b. cond b (with_offset 0 p.header ∷ filter (λ h. applies h mask) (at_0 (headers_in ps))) (filter (λ h. applies h mask) (at_0 (headers_in ps))))
    (sym (applies_same mask p.header))
  where
    cases : (b : Bool) (kept : List PlacedHeader) (hs : List Header) → at_0 (headers_in kept) ≡ hs
        → at_0 (headers_in (cond b (p ∷ kept) kept)) ≡ cond b (with_offset 0 p.header ∷ hs) hs
    cases true kept hs same = ap (λ hs. with_offset 0 p.header ∷ hs) same
    cases false kept hs same = same
