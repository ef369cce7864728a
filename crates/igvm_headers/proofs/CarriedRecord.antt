-- A carried header: what is spelled is read again, and what is read can be spelled.
use Rattle.std.proofs.Common.{◌≡◌, ℕ, List, length, true, false, Ok, refl, sym, ap, ◌∙◌, [], Bool, None, subst}
use Rattle.std.specs.Prelude.{◌==◌, find, ◌∷◌}
use Rattle.std.specs.List.{AllByRecursion}
use Rattle.std.proofs.lemmas.Bool.{eqb-true, false≢true}
use Rattle.igvm_headers.specs.HeaderForm.{header_form}
use Rattle.igvm_headers.specs.Records.Carried.{carried_form, is_carried}
use Rattle.igvm_headers.specs.Spelling.{header_fields, header_content}
use Rattle.igvm_headers.specs.ParamKinds.{param_type, param_kinds, param_kind_of}
use Rattle.igvm_headers.specs.declared.param_kind.ParamKind.{ParamKind}
use Rattle.igvm_headers.specs.declared.header.Header.{Header}
use Rattle.igvm_headers.specs.declared.header.Header.TheVariants.{Carried}
use Rattle.igvm_headers.proofs.RecordFields.{Reads, passed, ok, ok_is}

-- a type that is carried is none that isn't
carried_apart : (kind other : ℕ) → is_carried kind ≡ true → is_carried other ≡ false → (kind == other) ≡ false
carried_apart kind other is isnt =
    elim (kind == other) as (λ b. (kind == other) ≡ b → b ≡ false)
    [ true ↦ λ same. absurd (false≢true (sym isnt ∙ ap is_carried (sym (eqb-true kind other same)) ∙ is)) | false ↦ λ _. refl ] refl

carried_behind : (kind other : ℕ) → is_carried kind ≡ true → is_carried other ≡ false → (other == kind) ≡ false
carried_behind kind other is isnt =
    elim (other == kind) as (λ b. (other == kind) ≡ b → b ≡ false)
    [ true ↦ λ same. absurd (false≢true (sym isnt ∙ ap is_carried (eqb-true other kind same) ∙ is)) | false ↦ λ _. refl ] refl

-- no parameter passes a test that each of them fails
find_none : (test : ParamKind → Bool) (kinds : List ParamKind) → AllByRecursion (λ k. test k ≡ false) kinds → find test kinds ≡ None
find_none test [] all = refl
find_none test (k ∷ kinds) all = rw all.0 (find_none test kinds all.1)

-- a type that is carried is no parameter's
param_kind_of-carried : (kind : ℕ) → is_carried kind ≡ true → param_kind_of kind ≡ None
param_kind_of-carried kind is =
    let apart : (other : ℕ) → is_carried other ≡ false → (other == kind) ≡ false = λ other isnt. carried_behind kind other is isnt in
    find_none (λ k. param_type k == kind) param_kinds
    (apart 0x307 refl, (apart 0x308 refl, (apart 0x309 refl, (apart 0x30A refl, (apart 0x30C refl, (apart 0x30E refl, (apart 0x30F refl, (apart 0x310 refl, (apart 0x312 refl, (apart 0x313 refl, tt))))))))))

pub header_form-carried : (kind : ℕ) (content : List ℕ) → is_carried kind ≡ true → header_form kind content ≡ carried_form kind content
unfolding header_form
header_form-carried kind content is =
    let apart : (other : ℕ) → is_carried other ≡ false → (kind == other) ≡ false = λ other isnt. carried_apart kind other is isnt in
    rw (
      apart 0x1 refl,
      apart 0x101 refl,
      apart 0x301 refl,
      apart 0x302 refl,
      apart 0x303 refl,
      apart 0x304 refl,
      apart 0x305 refl,
      apart 0x30B refl,
      apart 0x30D refl,
      param_kind_of-carried kind is,
    ) refl

pub carried_again : (kind size : ℕ) (tail : List ℕ) → is_carried kind ≡ true → length tail ≡ size → carried_form kind (header_content (Carried kind size) tail) ≡ Ok (Carried kind size)
unfolding header_fields carried_form
carried_again kind size tail is same = rw (is, same) refl

pub carried_read : (kind : ℕ) (content : List ℕ) (h : Header) → carried_form kind content ≡ Ok h → Reads kind content h
unfolding carried_form ok
carried_read kind content h e =
    let p = passed (is_carried kind) (Ok (Carried kind (length content))) _ h e in
    subst (Reads kind content) (ok_is _ h p.1) (record { type = refl; numbers = λ is. (is.kind_fits, is.size_fits); tail_fits = refl; large_is_normal = tt; kind_is_carried = p.0 })
