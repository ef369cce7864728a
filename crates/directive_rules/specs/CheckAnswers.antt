-- What `check` answers.
use Rattle.std.specs.Prelude.{◌≡◌, ℕ, ◌∷◌, ◌++◌, [], List, Option, Some, None}
use Rattle.igvm_image.specs.Headers.{PlacedHeader}
use Rattle.directive_rules.specs.EarlierHeaders.{Summarizes}
use Rattle.directive_rules.specs.FirstMisfit.{headers_in}
use Rattle.directive_rules.specs.MisfitRows.{Setting, row}
use Rattle.directive_rules.specs.declared.earlier_headers.EarlierHeaders.{EarlierHeaders}
use Rattle.directive_rules.specs.declared.misfit.Why.{Why}
use Rattle.directive_rules.specs.declared.misfit.Misfit as misfit
use Rattle.directive_rules.specs.declared.misfit.CheckRefusal.{CheckRefusal}
use Rattle.directive_rules.specs.declared.misfit.CheckRefusal.TheVariants.{Misfit, Memory}

-- a refusal names this misfit; want of memory says nothing
abbrev pub IsRefusalBy : Option misfit.Misfit → CheckRefusal → Type 0
IsRefusalBy first (Misfit m) = first ≡ Some m
IsRefusalBy first Memory = Unit {0}

-- a refusal names this cause, of the header of a number
abbrev pub IsRefusalOf : Option Why → ℕ → CheckRefusal → Type 0
IsRefusalOf why index (Misfit m) = (why ≡ Some m.why) × (m.index ≡ index)
IsRefusalOf why index Memory = Unit {0}

-- a header fits after those that are summarized, and is summarized with them
pub record FitsAfter (s : Setting) (old new : EarlierHeaders) (p : PlacedHeader) : Type 0 where
  pub fits : (before : List PlacedHeader) → Summarizes old s.areas before → row s (headers_in before) p.header ≡ None
  pub summarizes : (before : List PlacedHeader) → Summarizes old s.areas before → Summarizes new s.areas (before ++ p ∷ [])
