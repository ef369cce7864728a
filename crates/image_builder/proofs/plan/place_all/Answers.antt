-- one component more is placed at a time
use Rattle.std.proofs.Common.{◌≡◌, ℕ, ◌+◌, ◌<◌, List, [], ◌∷◌, ◌++◌, length, take, ap, sym, subst, ◌∙◌, arith, rules}
use Rattle.std.proofs.lemmas.List.{take_more, take_all}
use Rattle.image_builder.specs.ContentIndex.{saturated}
use Rattle.image_builder.specs.Layout.{offset_among}
use Rattle.image_builder.proofs.Places.{Placing, placing_start, placing_step, placing_kept, placing_offsets}
use Rattle.image_builder.proofs.plan.place_all.Goals as goal

pub parts-init : goal.parts-init
parts-init c =
    let start = c.args.row.now.start in
    let parts = c.args.parts.now in
    let none : c.in_ok-offsets.offsets.items ≡ [] = search rules in
    record {
      placing = subst (λ (os : List ℕ). Placing start parts c.args.row.now.kept os 0) (sym none)
          (subst (λ (kept : List (List ℕ)). Placing start parts kept [] 0) (sym c.requires) (placing_start start parts));
      start = search rules;
    }

pub parts-preserved : goal.parts-preserved
parts-preserved c =
    let start = c.args.row.now.start in
    let parts = c.args.parts.now in
    let place = c.parts.component-index in
    let item = c.component-item.result in
    let within : place < length parts = omega arith in
    let here : take (place + 1) parts ≡ take place parts ++ item ∷ [] =
    take_more parts place item within ∙ ap (λ x. take place parts ++ x ∷ []) (sym c.component-item.is) in
    let next = c.place.new.row.kept in
    let placed = λ (more : List (List ℕ)). c.in_ok-offset.ensures.offset more ∙ ap (λ s. saturated (offset_among s (next ++ more) item.content)) c.parts.invariant.start in
    let step = placing_step start parts c.parts.row.kept next c.parts.offsets.items place c.in_ok-offset.offset item
    c.parts.invariant.placing here c.in_ok-offset.ensures.kept placed in
    record {
      placing = subst (λ (os : List ℕ). Placing start parts next os (place + 1)) (sym c.in_ok-push.ensures.items) step;
      start = c.place.ensures.start ∙ c.parts.invariant.start;
    }

pub returns-clause-kept : goal.returns-clause-kept
returns-clause-kept c =
    placing_kept _ _ _ _ _ c.parts.invariant.placing (take_all c.parts.component-index c.args.parts.now (omega arith))

pub returns-clause-offsets : goal.returns-clause-offsets
returns-clause-offsets c =
    placing_offsets _ _ _ _ _ c.parts.invariant.placing (take_all c.parts.component-index c.args.parts.now (omega arith))
