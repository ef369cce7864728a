use Rattle.std.proofs.Common.{◌≡◌, ◌∷◌, List, ℕ, Bor, map, sym, ap, ◌∙◌, true, false, string_bytes}
use Rattle.serde_json.specs.View.{members_view}
use Rattle.serde_json.proofs.Views.{Entry}
use Rattle.json_forms.specs.Forms.{are_among, is_among}
use Rattle.json_forms.proofs.FormLemmas.{among_is, among_step, not_among}
use Rattle.json_forms.proofs.keys.are_among.Goals as goal

abbrev named : List (Bor (List ℕ)) → List (List ℕ)
named names = map (λ (name : Bor (List ℕ)). name.now) names

pub returns-then-not-is_among : goal.returns-then-not-is_among
returns-then-not-is_among c =
    let names = named c.args.names.now in
    let e : Entry = (c.in-Some.key.now, c.in-Some.field-0-1.now) in
    let here : are_among names (members_view (e ∷ c.next.new.self)) ≡ are_among names (members_view c.args.members.now.entries) = ap (λ es. are_among names (members_view es)) (sym c.in-Some.ensures.steps) ∙ c.steps.invariant.2 in
    let known : is_among names (string_bytes e.0) ≡ false = ap (is_among names) (sym c.as_str.ensures.value) ∙ among_is c.args.names.now c.as_str.result.now ∙ sym c.is_among.ensures ∙ c.if-not-is_among.true in
    not_among names e c.next.new.self c.args.members.now.entries known here

pub steps-preserved : goal.steps-preserved
steps-preserved c =
    let names = named c.args.names.now in
    let e : Entry = (c.in-Some.key.now, c.in-Some.field-0-1.now) in
    let here : are_among names (members_view (e ∷ c.next.new.self)) ≡ are_among names (members_view c.args.members.now.entries) = ap (λ es. are_among names (members_view es)) (sym c.in-Some.ensures.steps) ∙ c.steps.invariant.2 in
    let known : is_among names (string_bytes e.0) ≡ true = ap (is_among names) (sym c.as_str.ensures.value) ∙ among_is c.args.names.now c.as_str.result.now ∙ sym c.is_among.ensures ∙ c.if-not-is_among.false in
    (tt, tt, among_step names e c.next.new.self c.args.members.now.entries known here)
