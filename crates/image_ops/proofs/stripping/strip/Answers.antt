use Rattle.std.proofs.Common.{ℕ, List, ◌∙◌, ap, ap₂}
use Rattle.component_list.specs.declared.component.Component.{Component}
use Rattle.component_list.specs.Lists.{ImageParts}
use Rattle.image_ops.proofs.BuiltLists.{list_is}
use Rattle.image_ops.proofs.StripAnswers.{left_parts, left_valid, strip_alone, strip_fits, strip_launch}
use Rattle.image_ops.proofs.StrippedWants.{strip_wants}
use Rattle.image_ops.proofs.stripping.strip.Goals as goal

pub of_valid-requires : goal.of_valid-requires
of_valid-requires c =
    left_valid c.args.list.parts c.give_mask.new.parts.items c.args.platform c.into_parts-parts.ensures.valid c.requires
    (λ p here.
    left_parts c.args.list.parts c.components.result.now c.into_parts-parts.result.items c.leave.new.parts.items c.give_mask.new.parts.items
    c.args.platform c.mask_at-mask.result p c.components.ensures.value c.mask_at-mask.ensures here c.into_parts-parts.ensures.parts c.leave.ensures c.give_mask.ensures)

pub with_version-requires : goal.with_version-requires
with_version-requires c = c.version-version.ensures.known

pub returns-clause-list : goal.returns-clause-list
returns-clause-list c = λ p here.
    c.with_version.ensures
    ∙ ap₂ (λ (version : ℕ) (parts : List Component). record { version = version; parts = parts }) c.version-version.ensures.value
    (ap (λ (l : ImageParts). l.parts) c.of_valid.ensures
    ∙ left_parts c.args.list.parts c.components.result.now c.into_parts-parts.result.items c.leave.new.parts.items c.give_mask.new.parts.items
    c.args.platform c.mask_at-mask.result p c.components.ensures.value c.mask_at-mask.ensures here c.into_parts-parts.ensures.parts c.leave.ensures c.give_mask.ensures)

pub returns-clause-alone : goal.returns-clause-alone
returns-clause-alone c = λ p here.
    strip_alone c.args.list c.with_version.result c.args.platform p (record { is_list = list_is c.args.list c.version-version.result c.version-version.ensures.value c.version-version.ensures.known c.into_parts-parts.ensures.valid; here = here }) (returns-clause-list c p here)

pub returns-clause-launch : goal.returns-clause-launch
returns-clause-launch c = λ file p is here small.
    strip_launch c.built_is_read_back.ensures.list file c.args.list c.with_version.result c.args.platform p (record { is_list = list_is c.args.list c.version-version.result c.version-version.ensures.value c.version-version.ensures.known c.into_parts-parts.ensures.valid; here = here }) is
    (returns-clause-list c p here) small

pub returns-clause-fits : goal.returns-clause-fits
returns-clause-fits c = λ file p is here small.
    strip_fits c.built_is_read_back.ensures.list file c.args.list c.with_version.result c.args.platform p (record { is_list = list_is c.args.list c.version-version.result c.version-version.ensures.value c.version-version.ensures.known c.into_parts-parts.ensures.valid; here = here }) is
    (returns-clause-list c p here) small

pub returns-clause-wants : goal.returns-clause-wants
returns-clause-wants c = λ file p is here small.
    strip_wants c.built_is_read_back.ensures.list file c.args.list c.with_version.result c.args.platform p (record { is_list = list_is c.args.list c.version-version.result c.version-version.ensures.value c.version-version.ensures.known c.into_parts-parts.ensures.valid; here = here }) is
    (returns-clause-list c p here) small
