-- What is kept while the components of a list are judged in order.
use Rattle.std.proofs.Common.{◌≡◌, ℕ, ◌+◌, List, [], ◌∷◌, ◌++◌, length, take, drop, refl, sym, ◌∙◌, ap, subst, arith, length-append, Some, None}
use Rattle.std.specs.Prelude.{if◌then◌else◌, ◌==◌}
use Rattle.std.specs.List.{AllByRecursion}
use Rattle.igvm_headers.specs.declared.header.Header.{Header}
use Rattle.igvm_headers.specs.declared.fault.ReadWhat.{ReadWhat}
use Rattle.igvm_headers.specs.declared.fault.ReadWhat.TheVariants.{NoPlatform}
use Rattle.igvm_image.specs.HeaderRules.{Seen, MayFollow, seen_of, rule_fault}
use Rattle.component_list.specs.declared.component.Component.{Component}
use Rattle.component_list.specs.Ranges.{IsComponent}
use Rattle.component_list.specs.Lists.{component_fault, fault_behind, list_fault, unless_broken, fault_in}

-- The components before a place are judged, and the table is the summary of their headers.
pub record Judging (parts : List Component) (table : Seen) (place : ℕ) : Type 0 where
  pub before : List Header
  pub seen : table ≡ seen_of before
  pub counted : length before ≡ place
  pub same : fault_behind before (drop place parts) ≡ list_fault parts
  pub each : AllByRecursion IsComponent (take place parts)

pub judging_start : (parts : List Component) → Judging parts (seen_of []) 0
judging_start parts = record {
  before = [];
  seen = refl;
  counted = refl;
  same = refl;
  each = tt;
}

-- a component without fault breaks none of the reader's rules
rules_kept : (seen : Seen) (c : Component) → component_fault seen c ≡ None → rule_fault 0 seen c.header ≡ None
unfolding component_fault
rules_kept seen c none = grind arith

pub judging_follows : (seen : Seen) (c : Component) → component_fault seen c ≡ None → MayFollow seen c.header
judging_follows seen c none = (0, rules_kept seen c none)

-- the component at a place is faulty
pub judging_fault : (parts : List Component) (table : Seen) (place : ℕ) (c : Component) (what : ReadWhat)
    → (j : Judging parts table place) → drop place parts ≡ c ∷ drop (place + 1) parts → component_fault table c ≡ Some what
    → list_fault parts ≡ Some (fault_in place what)
unfolding fault_behind
judging_fault parts table place c what j here bad =
    let found : component_fault (seen_of j.before) c ≡ Some what = ap (λ t. component_fault t c) (sym j.seen) ∙ bad in
    let next = fault_behind (j.before ++ c.header ∷ []) (drop (place + 1) parts) in
    sym j.same
    ∙ ap (fault_behind j.before) here
    ∙ ap (λ f. unless_broken (length j.before) f next) found
    ∙ ap (λ at. Some (fault_in at what)) j.counted

-- one component more
each_more : (xs ys : List Component) (c : Component) → AllByRecursion IsComponent xs → IsComponent c → ys ≡ xs ++ c ∷ [] → AllByRecursion IsComponent ys
each_more xs ys c each one same = subst (AllByRecursion IsComponent) (sym same) (joined xs each)
  where
    joined : (xs : List Component) → AllByRecursion IsComponent xs → AllByRecursion IsComponent (xs ++ c ∷ [])
    joined [] all = (one, tt)
    joined (x ∷ xs) all = (all.0, joined xs all.1)

pub judging_step : (parts : List Component) (table new : Seen) (place : ℕ) (c : Component)
    → (j : Judging parts table place) → drop place parts ≡ c ∷ drop (place + 1) parts → take (place + 1) parts ≡ take place parts ++ c ∷ []
    → IsComponent c → component_fault table c ≡ None
    → ((before : List Header) → table ≡ seen_of before → new ≡ seen_of (before ++ c.header ∷ [])) → Judging parts new (place + 1)
unfolding fault_behind
judging_step parts table new place c j here taken is good pushed =
    let found : component_fault (seen_of j.before) c ≡ None = ap (λ t. component_fault t c) (sym j.seen) ∙ good in
    let next = fault_behind (j.before ++ c.header ∷ []) (drop (place + 1) parts) in
    record {
      before = j.before ++ c.header ∷ [];
      seen = pushed j.before j.seen;
      counted = length-append j.before (c.header ∷ []) ∙ ap (λ n. n + 1) j.counted;
      same = sym (ap (λ f. unless_broken (length j.before) f next) found) ∙ sym (ap (fault_behind j.before) here) ∙ j.same;
      each = each_more (take place parts) (take (place + 1) parts) c j.each is taken;
    }

-- behind the last component
pub judging_done : (parts : List Component) (table : Seen) (place : ℕ) (j : Judging parts table place) → drop place parts ≡ []
    → list_fault parts ≡ (if length table.platforms == 0 then Some (fault_in place NoPlatform) else None)
unfolding fault_behind
judging_done parts table place j done =
    sym j.same
    ∙ ap (fault_behind j.before) done
    ∙ ap (λ (t : Seen). if length t.platforms == 0 then Some (fault_in (length j.before) NoPlatform) else None) (sym j.seen)
    ∙ ap (λ at. if length table.platforms == 0 then Some (fault_in at NoPlatform) else None) j.counted
