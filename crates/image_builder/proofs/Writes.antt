-- Each header of a valid list is written as it is read again.
use Rattle.std.proofs.Common.{◌≡◌, ℕ, List, [], ◌∷◌, ◌++◌, length, refl, Bool, true, false, not, ◌&&◌, Option, Some, None, IsTrue, arith, rules}
use Rattle.std.specs.Prelude.{if◌then◌else◌, ◌==◌}
use Rattle.std.specs.List.{AllByRecursion}
use Rattle.igvm_headers.specs.Records.Carried.{is_carried}
use Rattle.igvm_headers.specs.SpellingConditions.{IsSpellable, NumbersFit, LargeIsNormal, KindIsCarried}
use Rattle.igvm_headers.specs.declared.page_kind.PageKind.{PageKind}
use Rattle.igvm_headers.specs.declared.page_kind.PageKind.TheVariants as page
use Rattle.igvm_headers.specs.declared.header.Header.{Header}
use Rattle.igvm_headers.specs.declared.header.Header.TheVariants.{Page, Carried}
use Rattle.igvm_headers.specs.declared.fault.ReadWhat.{ReadWhat}
use Rattle.igvm_headers.specs.declared.fault.ReadWhat.TheVariants.{UnknownType, Length, DataType}
use Rattle.igvm_image.specs.HeaderRules.{Seen, seen_of}
use Rattle.component_list.specs.declared.component.Component.{Component}
use Rattle.component_list.specs.declared.list_fault.ListFault.{ListFault}
use Rattle.component_list.specs.Components.{is_unknown, carried_kind, fits_content, is_normal, breaks_length, breaks_data_type}
use Rattle.igvm_headers.specs.HeaderFacts.{tail_size}
use Rattle.component_list.specs.Ranges.{IsComponent}
use Rattle.component_list.specs.Lists.{component_fault, fault_behind, unless_broken}

-- what a component keeps of the rules on it alone
pub record Writes (header : Header) (tail : List ℕ) : Type 0 where
  pub known : is_unknown header ≡ false
  pub sized : length tail ≡ tail_size header
  pub normal : breaks_data_type header ≡ false

-- a choice that is not taken
pub skipped : {A : Type 0} (b : Bool) (x : A) (rest : Option A) → (if b then Some x else rest) ≡ None → (b ≡ false) × (rest ≡ None)
skipped true x rest none = absurd (cc)
skipped false x rest none = (refl, none)

equal : (n k : ℕ) (b : Bool) → not ((n == k) && b) ≡ false → n ≡ k
equal n k b told = grind arith

pub writes : (seen : Seen) (c : Component) → component_fault seen c ≡ None → Writes c.header c.tail
unfolding component_fault
writes seen c none =
    let known = skipped (is_unknown c.header) (UnknownType (carried_kind c.header)) _ none in
    let sized = skipped (breaks_length c) Length _ known.1 in
    let normal = skipped (breaks_data_type c.header) DataType _ sized.1 in
    record {
      known = known.0;
      sized = equal (length c.tail) (tail_size c.header) (fits_content c.header c.content) sized.0;
      normal = normal.0;
    }

large_normal : (large : Bool) (kind : PageKind) → (large && not (is_normal kind)) ≡ false → IsTrue large → kind ≡ page.Normal
large_normal true page.Normal kept is = refl
large_normal large kind kept is = absurd (cc)

carried : (b : Bool) → not b ≡ false → IsTrue b
carried true kept = search rules
carried false kept = absurd (cc)

large_of : (h : Header) → breaks_data_type h ≡ false → LargeIsNormal h
large_of (Page gpa mask offset large unmeasured kind) normal = large_normal large kind normal
large_of h normal = tt

carried_of : (h : Header) → is_unknown h ≡ false → KindIsCarried h
carried_of (Carried kind length') known = carried (is_carried kind) known
carried_of h known = tt

-- such a header is spelled as it is read, with numbers of its types
pub spellable : (header : Header) (tail : List ℕ) → Writes header tail → NumbersFit header → IsSpellable header tail
spellable header tail w fits = record {
  numbers = fits;
  tail_fits = w.sized;
  large_is_normal = large_of header w.normal;
  kind_is_carried = carried_of header w.known;
}

-- a fault that is none
pub unbroken : (place : ℕ) (fault : Option ReadWhat) (others : Option ListFault) → unless_broken place fault others ≡ None
    → (fault ≡ None) × (others ≡ None)
unbroken place None others none = (refl, none)
unbroken place (Some what) others none = absurd (cc)

pub spellable_behind : (before : List Header) (parts : List Component) → fault_behind before parts ≡ None → AllByRecursion IsComponent parts
    → AllByRecursion (λ c. IsSpellable c.header c.tail) parts
unfolding fault_behind
spellable_behind before [] none fits = tt
spellable_behind before (c ∷ cs) none fits =
    let first = unbroken (length before) (component_fault (seen_of before) c) (fault_behind (before ++ c.header ∷ []) cs) none in (
      spellable c.header c.tail (writes (seen_of before) c first.0) fits.0.numbers,
      spellable_behind (before ++ c.header ∷ []) cs first.1 fits.1,
    )
