-- The program headers' fault is that of the first that breaks a rule.
use Rattle.std.proofs.Common.{◌≡◌, ℕ, zero, suc, ◌<◌, List, refl, sym, ap, ◌∙◌, subst, arith, inl, inr, None, Some}
use Rattle.std.specs.Option.{option_or}
use Rattle.std.proofs.lemmas.Bool.{cases_lt}
use Rattle.elf_pages.specs.declared.fault.ElfFault.{ElfFault}
use Rattle.elf_pages.specs.Faults.{header_fault, headers_fault}
use Rattle.elf_pages.specs.FileHeader.{header_count}
use Rattle.elf_pages.specs.FirstHeader.{IsFirstHeader}
use Rattle.elf_pages.proofs.HeaderSteps.{fault_found}
use Rattle.elf_pages.proofs.AcceptedSegments.{no_front}

pub none_each : (file : List ℕ) (k : ℕ) → headers_fault file k ≡ None → (j : ℕ) → j < k → header_fault file j ≡ None
unfolding headers_fault
none_each file zero none j less = absurd (omega arith)
none_each file (suc k) none j less =
    let parts = no_front (headers_fault file k) (header_fault file k) none in
    elim (cases_lt j k) [
      | inl before ↦ none_each file k parts.0 j before
      | inr behind ↦ let last : k ≡ j = omega arith in subst (λ n. header_fault file n ≡ None) last parts.1
    ]

pub none_all : (file : List ℕ) (k : ℕ) → ((j : ℕ) → j < k → header_fault file j ≡ None) → headers_fault file k ≡ None
unfolding headers_fault
none_all file zero none = refl
none_all file (suc k) none = ap (λ o. option_or o (header_fault file k)) (none_all file k (λ j less. none j (omega arith))) ∙ none k (omega arith)

-- the first of the first `count` program headers that breaks a rule
pub record FirstBelow (file : List ℕ) (count k : ℕ) (e : ElfFault) : Type 0 where
  pub within : k < count
  pub here : header_fault file k ≡ Some e
  pub before : (j : ℕ) → j < k → header_fault file j ≡ None

first_below : (file : List ℕ) (count : ℕ) (e : ElfFault) → headers_fault file count ≡ Some e → (k : ℕ) × FirstBelow file count k e
unfolding headers_fault
first_below file zero e h = absurd cc
first_below file (suc count) e h = elim (headers_fault file count) as (λ o. headers_fault file count ≡ o → (k : ℕ) × FirstBelow file (suc count) k e) [
  | None ↦ λ is. (
    count,
    record {
      within = omega arith;
      here = sym (ap (λ o. option_or o (header_fault file count)) is) ∙ h;
      before = none_each file count is;
    },
  )
  | Some x ↦ λ is.
      let same = sym (ap (λ o. option_or o (header_fault file count)) is) ∙ h in
      let first = first_below file count e (is ∙ same) in
      (first.0, record { within = omega (arith, first.1.within); here = first.1.here; before = first.1.before })
] refl

pub first_header : (file : List ℕ) (e : ElfFault) → headers_fault file (header_count file) ≡ Some e → (k : ℕ) × IsFirstHeader file k e
first_header file e h =
    let first = first_below file (header_count file) e h in
    (first.0, record { within = first.1.within; here = first.1.here; before = first.1.before })

pub only_header : (file : List ℕ) (e : ElfFault) (k : ℕ) → IsFirstHeader file k e → headers_fault file (header_count file) ≡ Some e
only_header file e k is = fault_found file k (header_count file) e (none_all file k is.before) is.here is.within
