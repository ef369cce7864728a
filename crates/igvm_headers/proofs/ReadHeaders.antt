-- What a header keeps that is read: where its content is bytes it can be spelled, with the type that was read.
use Rattle.std.proofs.Common.{◌≡◌, ℕ, List, true, false, cond, Ok, Option, Some, None, refl, sym, ap, subst, ◌∙◌}
use Rattle.std.specs.Prelude.{◌==◌, find, [], ◌∷◌, Bool}
use Rattle.std.proofs.lemmas.Bool.{eqb-true}
use Rattle.igvm_headers.specs.HeaderForm.{header_form, param_or_carried}
use Rattle.igvm_headers.specs.ParamKinds.{param_kind_of, param_kinds, param_type}
use Rattle.igvm_headers.specs.HeaderFacts.{header_tail}
use Rattle.igvm_headers.specs.SpellingConditions.{IsRead, IsSpellable}
use Rattle.igvm_headers.specs.declared.param_kind.ParamKind.{ParamKind}
use Rattle.igvm_headers.specs.declared.header.Header.{Header}
use Rattle.igvm_headers.proofs.RecordFields.{Reads}
use Rattle.igvm_headers.proofs.PlatformRecord.{platform_read}
use Rattle.igvm_headers.proofs.PageRecord.{page_read}
use Rattle.igvm_headers.proofs.IdBlockRecord.{id_block_read}
use Rattle.igvm_headers.proofs.CarriedRecord.{carried_read}
use Rattle.igvm_headers.proofs.PolicyRecord.{policy_read}
use Rattle.igvm_headers.proofs.AreaRecord.{area_read}
use Rattle.igvm_headers.proofs.InsertRecord.{insert_read}
use Rattle.igvm_headers.proofs.ContextRecord.{context_read}
use Rattle.igvm_headers.proofs.RequiredRecord.{required_read}
use Rattle.igvm_headers.proofs.ErrorRangeRecord.{error_range_read}
use Rattle.igvm_headers.proofs.ParamRecord.{param_read}

-- a choice by the type: this one, or one of those behind
by_type : {A : Type 0} (kind other : ℕ) (here there goal : A) (P : Type 0) → (kind ≡ other → here ≡ goal → P) → (there ≡ goal → P) → cond (kind == other) here there ≡ goal → P
by_type kind other here there goal P this others =
    elim (kind == other) as (λ b. (kind == other) ≡ b → cond b here there ≡ goal → P)
    [ true ↦ λ same e. this (eqb-true kind other same) e | false ↦ λ _ e. others e ] refl

-- what is found passes the test
found_passes : (test : ParamKind → Bool) (kinds : List ParamKind) (p : ParamKind) → find test kinds ≡ Some p → test p ≡ true
found_passes test [] p found = absurd cc
found_passes test (k ∷ kinds) p found = choice (test k) refl found (found_passes test kinds p)
  where
    choice : (b : Bool) → test k ≡ b → cond b (Some k) (find test kinds) ≡ Some p → (find test kinds ≡ Some p → test p ≡ true) → test p ≡ true
    choice true is found others = let same : k ≡ p = cc in ap test (sym same) ∙ is
    choice false is found others = others found

-- the type of a parameter's header is the one that it was read from
param_kind-type : (kind : ℕ) (p : ParamKind) → param_kind_of kind ≡ Some p → param_type p ≡ kind
param_kind-type kind p found = eqb-true (param_type p) kind (found_passes (λ k. param_type k == kind) param_kinds p found)

param_or_carried_read : (kind : ℕ) (content : List ℕ) (found : Option ParamKind) (h : Header)
    → param_kind_of kind ≡ found → param_or_carried kind content found ≡ Ok h → Reads kind content h
param_or_carried_read kind content (Some p) h is e =
    subst (λ k. Reads k content h) (param_kind-type kind p is) (param_read p content h e)
param_or_carried_read kind content None h is e = carried_read kind content h e

pub header_read : (kind : ℕ) (content : List ℕ) (h : Header) → header_form kind content ≡ Ok h → Reads kind content h
unfolding header_form
header_read kind content h =
    let P = Reads kind content h in
    let at : (n : ℕ) → kind ≡ n → Reads n content h → P = λ n same r. subst (λ k. Reads k content h) (sym same) r in
    by_type kind 0x1 _ _ (Ok h) P (λ same e. at 0x1 same (platform_read content h e))
    (by_type kind 0x101 _ _ (Ok h) P (λ same e. at 0x101 same (policy_read content h e))
    (by_type kind 0x301 _ _ (Ok h) P (λ same e. at 0x301 same (area_read content h e))
    (by_type kind 0x302 _ _ (Ok h) P (λ same e. at 0x302 same (page_read content h e))
    (by_type kind 0x303 _ _ (Ok h) P (λ same e. at 0x303 same (insert_read content h e))
    (by_type kind 0x304 _ _ (Ok h) P (λ same e. at 0x304 same (context_read content h e))
    (by_type kind 0x305 _ _ (Ok h) P (λ same e. at 0x305 same (required_read content h e))
    (by_type kind 0x30B _ _ (Ok h) P (λ same e. at 0x30B same (id_block_read content h e))
    (by_type kind 0x30D _ _ (Ok h) P (λ same e. at 0x30D same (error_range_read content h e))
    (λ e. param_or_carried_read kind content (param_kind_of kind) h refl e)))))))))

pub read_spells : (kind : ℕ) (content : List ℕ) (h : Header) → IsRead kind content h → IsSpellable h (header_tail h content)
read_spells kind content h is =
    let read = header_read kind content h is.form in
    record {
      numbers = read.numbers (record { kind_fits = is.kind_fits; size_fits = is.size_fits; bytes = is.bytes });
      tail_fits = read.tail_fits;
      large_is_normal = read.large_is_normal;
      kind_is_carried = read.kind_is_carried;
    }
