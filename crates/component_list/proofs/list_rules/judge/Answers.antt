use Rattle.std.proofs.Common.{◌≡◌, ℕ, suc, ◌+◌, ◌<◌, ◌≤◌, List, [], ◌∷◌, ◌++◌, length, take, drop, get_or, sym, ◌∙◌, ap, subst, add-one, drop-cons, arith, Some, None, true, false}
use Rattle.std.specs.Prelude.{if◌then◌else◌, ◌==◌}
use Rattle.std.specs.List.{AllByRecursion}
use Rattle.std.proofs.lemmas.List.{take_more, drop_all, take_all}
use Rattle.igvm_headers.specs.declared.fault.ReadWhat.TheVariants.{NoPlatform}
use Rattle.igvm_image.specs.HeaderRules.{Seen}
use Rattle.component_list.specs.declared.component.Component.{Component}
use Rattle.component_list.specs.Ranges.{IsComponent}
use Rattle.component_list.specs.Lists.{fault_in}
use Rattle.component_list.proofs.Judged.{Judging, judging_start, judging_follows, judging_fault, judging_step, judging_done}
use Rattle.component_list.proofs.list_rules.judge.Goals as goal

-- the component at a place, and those behind it
left : (parts : List Component) (place : ℕ) (c : Component) → place < length parts → c ≡ get_or parts place c
    → drop place parts ≡ c ∷ drop (place + 1) parts
left parts place c within is =
    drop-cons parts place c within ∙ ap (λ x. x ∷ drop (suc place) parts) (sym is) ∙ ap (λ n. c ∷ drop n parts) (sym (add-one place))

taken : (parts : List Component) (place : ℕ) (c : Component) → place < length parts → c ≡ get_or parts place c
    → take (place + 1) parts ≡ take place parts ++ c ∷ []
taken parts place c within is = take_more parts place c within ∙ ap (λ x. take place parts ++ x ∷ []) (sym is)

pub parts-init : goal.parts-init
parts-init c = subst (λ (t : Seen). Judging c.args.parts.now t 0) (sym c.new-seen.ensures) (judging_start c.args.parts.now)

pub returns-in-Some-clause-fault : goal.returns-in-Some-clause-fault
returns-in-Some-clause-fault c =
    let within : c.parts.place < length c.args.parts.now = omega arith in
    judging_fault _ _ _ _ _ c.parts.invariant (left _ _ _ within c.index-parts-place.is) (sym c.in-Some.ensures)

pub push-requires : goal.push-requires
push-requires c = judging_follows _ _ (sym c.in_default.ensures)

pub parts-preserved : goal.parts-preserved
parts-preserved c =
    let within : c.parts.place < length c.args.parts.now = omega arith in
    judging_step _ _ _ _ _ c.parts.invariant (left _ _ _ within c.index-parts-place.is) (taken _ _ _ within c.index-parts-place.is)
    c.note_component.ensures (sym c.in_default.ensures) c.push.ensures.seen

pub returns-then-count-eq0-clause-fault : goal.returns-then-count-eq0-clause-fault
returns-then-count-eq0-clause-fault c =
    let past : length c.args.parts.now ≤ c.parts.place = omega arith in
    let end : c.parts.place ≡ length c.args.parts.now = omega arith in
    let none : (length c.parts.seen.platforms == 0) ≡ true = grind arith in
    judging_done _ _ _ c.parts.invariant (drop_all _ _ past)
    ∙ ap (λ b. if b then Some (fault_in c.parts.place NoPlatform) else None) none
    ∙ ap (λ place. Some (fault_in place NoPlatform)) end

pub returns-clause-valid : goal.returns-clause-valid
returns-clause-valid c =
    let past : length c.args.parts.now ≤ c.parts.place = omega arith in
    let some : (length c.parts.seen.platforms == 0) ≡ false = grind arith in
    record {
      kept = judging_done _ _ _ c.parts.invariant (drop_all _ _ past)
          ∙ ap (λ b. if b then Some (fault_in c.parts.place NoPlatform) else None) some;
      fits = record {
        few = c.requires.few;
        each = subst (AllByRecursion IsComponent) (take_all _ _ past) c.parts.invariant.each;
      };
    }
