-- What it is that a component breaks no rule.
use Rattle.std.proofs.Common.{◌≡◌, ℕ, ◌<◌, List, get_or, length, take, sym, ◌∙◌, ap, arith, Some, None, false}
use Rattle.std.specs.Prelude.{option_and_then, slice_get}
use Rattle.std.proofs.lemmas.Option.{slice_get-get_or}
use Rattle.igvm_image.specs.HeaderRules.{Seen, seen_of, rule_fault}
use Rattle.component_list.specs.declared.component.Component.{Component}
use Rattle.component_list.specs.Components.{is_unknown, breaks_length, breaks_data_type}
use Rattle.component_list.specs.FirstFault.{KeepsRules, headers_in}
use Rattle.component_list.specs.Lists.{component_fault}

-- a component breaks none where it breaks none of the four
pub kept_by_parts : (seen : Seen) (c : Component) → is_unknown c.header ≡ false → breaks_length c ≡ false → breaks_data_type c.header ≡ false
    → rule_fault 0 seen c.header ≡ None → component_fault seen c ≡ None
unfolding component_fault
kept_by_parts seen c unknown length' type rules = grind arith

-- and then none of the reader's
pub rules_kept : (seen : Seen) (c : Component) → component_fault seen c ≡ None → rule_fault 0 seen c.header ≡ None
unfolding component_fault
rules_kept seen c none = grind arith

-- the component at a place of a list breaks none
pub rules_kept_at : (parts : List Component) (place : ℕ) (c : Component) → KeepsRules parts → place < length parts → c ≡ get_or parts place c
    → rule_fault 0 (seen_of (headers_in (take place parts))) c.header ≡ None
rules_kept_at parts place c keeps within is =
    let seen = seen_of (headers_in (take place parts)) in
    let found : slice_get parts place ≡ Some c = slice_get-get_or parts place c within ∙ ap (λ x. Some x) (sym is) in
    rules_kept seen c (sym (ap (option_and_then (component_fault seen)) found) ∙ keeps.kept place within)
