-- A walk over the headers of an image, as far as they fit.
use Rattle.std.proofs.Common.{◌≡◌, ℕ, List, [], ◌∷◌, ◌++◌, sym, ◌∙◌, ap, subst, append_assoc, append-nil, arith, true, false, Some, None}
use Rattle.std.specs.List.{AllByRecursion}
use Rattle.igvm_image.specs.PagesFit.{PagesFit}
use Rattle.igvm_image.specs.Headers.{PlacedHeader}
use Rattle.platform_masks.specs.Masks.{applies}
use Rattle.directive_rules.specs.declared.earlier_headers.EarlierHeaders.{EarlierHeaders}
use Rattle.directive_rules.specs.declared.misfit.Why.{Why}
use Rattle.directive_rules.specs.declared.misfit.Misfit.{Misfit}
use Rattle.directive_rules.specs.MisfitRows.{Setting, row}
use Rattle.directive_rules.specs.FirstMisfit.{headers_in, misfit_or, misfit_after, headers_for}
use Rattle.directive_rules.specs.LoadCounts.{Counts}
use Rattle.directive_rules.specs.EarlierHeaders.{Summarizes}
use Rattle.directive_rules.specs.CheckAnswers.{FitsAfter, IsRefusalOf, IsRefusalBy}
use Rattle.directive_rules.specs.declared.misfit.CheckRefusal.{CheckRefusal}
use Rattle.directive_rules.specs.declared.misfit.CheckRefusal.TheVariants as refusal
use Rattle.directive_rules.specs.declared.misfit.Checked.{Checked}
use Rattle.std.specs.Option.{option_to_list}
use Rattle.std.specs.BTreeSet.{btree_set_len}

-- the headers that count so far fit, and what is kept summarizes them; the misfit of what is left is that of all
pub record Walk (s : Setting) (mask : ℕ) (e : EarlierHeaders) (all left : List PlacedHeader) : Type 0 where
  pub before : List PlacedHeader
  pub summary : Summarizes e s.areas before
  pub whole : before ++ headers_for mask left ≡ headers_for mask all
  pub same : misfit_after s before (headers_for mask left) ≡ misfit_after s [] (headers_for mask all)
  pub fits : AllByRecursion (λ p. PagesFit s.areas p.header) left

pub walk_none : (s : Setting) (mask : ℕ) (e : EarlierHeaders) (all left : List PlacedHeader) → all ≡ left → Summarizes e s.areas []
    → AllByRecursion (λ p. PagesFit s.areas p.header) all → Walk s mask e all left
walk_none s mask e all left same summary fits = record {
  before = [];
  summary = summary;
  whole = ap (headers_for mask) (sym same);
  same = ap (λ ps. misfit_after s [] (headers_for mask ps)) (sym same);
  fits = subst (AllByRecursion (λ (p : PlacedHeader). PagesFit s.areas p.header)) same fits;
}

counted-yes : (mask : ℕ) (p : PlacedHeader) (ps : List PlacedHeader) → applies p.header mask ≡ true → headers_for mask (p ∷ ps) ≡ p ∷ headers_for mask ps
counted-yes mask p ps h = grind arith

counted-no : (mask : ℕ) (p : PlacedHeader) (ps : List PlacedHeader) → applies p.header mask ≡ false → headers_for mask (p ∷ ps) ≡ headers_for mask ps
counted-no mask p ps h = grind arith

behind_fits : (s : Setting) (before : List PlacedHeader) (p : PlacedHeader) (ps : List PlacedHeader) → row s (headers_in before) p.header ≡ None
    → misfit_after s before (p ∷ ps) ≡ misfit_after s (before ++ p ∷ []) ps
unfolding misfit_after
behind_fits s before p ps none = ap (λ why. misfit_or p.index why (misfit_after s (before ++ p ∷ []) ps)) none

behind_fails : (s : Setting) (before : List PlacedHeader) (p : PlacedHeader) (ps : List PlacedHeader) (why : Why) → row s (headers_in before) p.header ≡ Some why
    → misfit_after s before (p ∷ ps) ≡ Some (record { index = p.index; why = why })
unfolding misfit_after
behind_fails s before p ps why some = ap (λ why. misfit_or p.index why (misfit_after s (before ++ p ∷ []) ps)) some

-- the next header
pub next_fits : (s : Setting) (mask : ℕ) (e : EarlierHeaders) (all left rest : List PlacedHeader) (p : PlacedHeader) → Walk s mask e all left → left ≡ p ∷ rest → PagesFit s.areas p.header
next_fits s mask e all left rest p w first = (subst (AllByRecursion (λ (p : PlacedHeader). PagesFit s.areas p.header)) first w.fits).0

pub walk_more : (s : Setting) (mask : ℕ) (e n : EarlierHeaders) (all left rest : List PlacedHeader) (p : PlacedHeader) → Walk s mask e all left → left ≡ p ∷ rest
    → applies p.header mask ≡ true → FitsAfter s e n p → Walk s mask n all rest
walk_more s mask e n all left rest p w first counts f =
    let here = subst (λ (ps : List PlacedHeader). Walk s mask e all ps) first w in
    let split = counted-yes mask p rest counts in
    record {
      before = here.before ++ p ∷ [];
      summary = f.summarizes here.before here.summary;
      whole = append_assoc here.before (p ∷ []) (headers_for mask rest) ∙ ap (λ ps. here.before ++ ps) (sym split) ∙ here.whole;
      same = sym (behind_fits s here.before p (headers_for mask rest) (f.fits here.before here.summary))
          ∙ ap (misfit_after s here.before) (sym split) ∙ here.same;
      fits = here.fits.1;
    }

pub walk_past : (s : Setting) (mask : ℕ) (e : EarlierHeaders) (all left rest : List PlacedHeader) (p : PlacedHeader) → Walk s mask e all left → left ≡ p ∷ rest
    → applies p.header mask ≡ false → Walk s mask e all rest
walk_past s mask e all left rest p w first past =
    let here = subst (λ (ps : List PlacedHeader). Walk s mask e all ps) first w in
    let skip = counted-no mask p rest past in
    record {
      before = here.before;
      summary = here.summary;
      whole = ap (λ ps. here.before ++ ps) (sym skip) ∙ here.whole;
      same = ap (misfit_after s here.before) (sym skip) ∙ here.same;
      fits = here.fits.1;
    }

-- a header that fails
pub walk_fails : (s : Setting) (mask : ℕ) (e : EarlierHeaders) (all left rest : List PlacedHeader) (p : PlacedHeader) (m : Misfit) → Walk s mask e all left → left ≡ p ∷ rest
    → applies p.header mask ≡ true
    → ((before : List PlacedHeader) → Summarizes e s.areas before → (row s (headers_in before) p.header ≡ Some m.why) × (m.index ≡ p.index))
    → misfit_after s [] (headers_for mask all) ≡ Some m
walk_fails s mask e all left rest p m w first counts fails =
    let here = subst (λ (ps : List PlacedHeader). Walk s mask e all ps) first w in
    let why = fails here.before here.summary in
    sym here.same ∙ ap (misfit_after s here.before) (counted-yes mask p rest counts)
    ∙ behind_fails s here.before p (headers_for mask rest) m.why why.0
    ∙ ap (λ (index : ℕ). Some (record { index = index; why = m.why })) (sym why.1)

pub walk_refused : (s : Setting) (mask : ℕ) (e : EarlierHeaders) (all left rest : List PlacedHeader) (p : PlacedHeader) (refusal : CheckRefusal) → Walk s mask e all left → left ≡ p ∷ rest
    → applies p.header mask ≡ true
    → ((before : List PlacedHeader) → Summarizes e s.areas before → IsRefusalOf (row s (headers_in before) p.header) p.index refusal)
    → IsRefusalBy (misfit_after s [] (headers_for mask all)) refusal
walk_refused s mask e all left rest p (refusal.Misfit m) w first counts fails = walk_fails s mask e all left rest p m w first counts fails
walk_refused s mask e all left rest p refusal.Memory w first counts fails = tt

-- at the end
pub record Ends (s : Setting) (mask : ℕ) (e : EarlierHeaders) (all : List PlacedHeader) : Type 0 where
  pub none : misfit_after s [] (headers_for mask all) ≡ None
  pub summary : Summarizes e s.areas (headers_for mask all)

pub walk_ends : (s : Setting) (mask : ℕ) (e : EarlierHeaders) (all left : List PlacedHeader) → Walk s mask e all left → left ≡ [] → Ends s mask e all
unfolding misfit_after
walk_ends s mask e all left w none =
    let here = subst (λ (ps : List PlacedHeader). Walk s mask e all ps) none w in
    record {
      none = sym here.same;
      summary = subst (Summarizes e s.areas) (sym (append-nil here.before) ∙ here.whole) here.summary;
    }

pub counts_at_end : (s : Setting) (mask : ℕ) (e : EarlierHeaders) (all : List PlacedHeader) (c : Checked) → Ends s mask e all
    → c.pages ≡ e.pages → c.contexts ≡ btree_set_len e.vps → c.area_bytes ≡ e.area_bytes → c.id ≡ e.id
    → Counts s.areas (headers_for mask all) c
counts_at_end s mask e all c ends pages contexts area_bytes id = record {
  pages = pages ∙ ends.summary.pages;
  contexts = contexts ∙ ends.summary.contexts;
  area_bytes = area_bytes ∙ ends.summary.area_bytes;
  ids = ap option_to_list id ∙ ends.summary.ids;
}
