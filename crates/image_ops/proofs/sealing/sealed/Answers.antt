use Rattle.std.proofs.Common.{ℕ, List, sym, ◌∙◌, ap, ap₂, subst}
use Rattle.component_list.specs.declared.component.Component.{Component}
use Rattle.component_list.specs.Lists.{ImageParts, IsValid}
use Rattle.image_ops.proofs.SealedValid.{sealed_are, sealed_valid}
use Rattle.image_ops.proofs.sealing.sealed.Goals as goal

pub of_valid-requires : goal.of_valid-requires
of_valid-requires c =
    subst IsValid
    (sym (sealed_are c.args.mask c.args.digest c.args.list.parts c.into_parts-parts.result.items c.set_digest.new.parts.items c.into_parts-parts.ensures.parts c.set_digest.ensures))
    (sealed_valid c.args.mask c.args.digest c.args.list.parts c.note_digest.ensures.size c.note_digest.ensures.bytes c.into_parts-parts.ensures.valid)

pub returns-clause-list : goal.returns-clause-list
returns-clause-list c =
    c.with_version.ensures
    ∙ ap₂ (λ (version : ℕ) (parts : List Component). record { version = version; parts = parts }) c.version-version.ensures.value
    (ap (λ (l : ImageParts). l.parts) c.of_valid.ensures
    ∙ sealed_are c.args.mask c.args.digest c.args.list.parts c.into_parts-parts.result.items c.set_digest.new.parts.items c.into_parts-parts.ensures.parts c.set_digest.ensures)
