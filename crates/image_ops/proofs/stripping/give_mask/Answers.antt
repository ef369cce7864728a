use Rattle.std.proofs.Common.{◌<◌, length, ◌∙◌, ap, sym, subst, set, get_or}
use Rattle.std.proofs.lemmas.List.Edits.{map_over_more}
use Rattle.igvm_headers.specs.declared.header.Header.{Header}
use Rattle.component_list.specs.declared.component.Component.{Component}
use Rattle.image_ops.specs.Stripped.{masked}
use Rattle.image_ops.proofs.stripping.give_mask.Goals as goal

pub parts-preserved : goal.parts-preserved
parts-preserved c =
    let here = get_or c.parts.component-items c.parts.component-index c.component-item.result in
    ap (λ (h : Header). set c.parts.component-items c.parts.component-index (record { header = h; tail = here.tail; content = here.content }))
    c.with_mask-component.ensures
    ∙ ap (λ (x : Component). set c.parts.component-items c.parts.component-index (masked c.args.mask x)) (sym c.component-item.is)
    ∙ map_over_more (masked c.args.mask) c.args.parts.now.items c.parts.component-items c.parts.component-index c.component-item.result
    (subst (λ xs. c.parts.component-index < length xs) c.deref_mut-component-items.ensures.value c.parts-test.true)
    c.parts.invariant c.component-item.is
