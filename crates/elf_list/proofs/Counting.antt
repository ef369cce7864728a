-- How many pages components name, one component after the other.
use Rattle.std.proofs.Common.{◌≡◌, ℕ, ◌+◌, ◌<◌, ◌≤◌, List, [], ◌∷◌, ◌++◌, get_or, length, take, refl, sym, ◌∙◌, ap, subst, arith}
use Rattle.std.proofs.lemmas.Bool.{ltb-false}
use Rattle.std.proofs.lemmas.List.{take_more, map-append}
use Rattle.igvm_headers.specs.declared.header.Header.{Header}
use Rattle.igvm_image.specs.Areas.{placed_pages}
use Rattle.igvm_image.specs.HeaderRules.{MayFollow, Seen, named_pages, seen_after, seen_of}
use Rattle.igvm_image.specs.RulesLaws.{keeps_rules}
use Rattle.component_list.specs.declared.component.Component.{Component}
use Rattle.component_list.specs.FirstFault.{KeepsRules, headers_in}
use Rattle.elf_list.proofs.RuleParts.{rules_kept_at}

-- the components before a place are counted
pub record Counted (parts : List Component) (seen : Seen) (named place : ℕ) : Type 0 where
  pub summary : seen ≡ seen_of (headers_in (take place parts))
  pub pages : named ≡ seen.pages
  pub few : named ≤ 4194304

pub counted_none : (parts : List Component) → Counted parts (seen_of []) 0 0
counted_none parts = record { summary = refl; pages = refl; few = omega arith }

-- the component at a place may follow
pub may_follow : (parts : List Component) (seen : Seen) (named place : ℕ) (c : Component) → KeepsRules parts → Counted parts seen named place
    → place < length parts → c ≡ get_or parts place c → MayFollow seen c.header
may_follow parts seen named place c keeps counted within is =
    subst (λ s. MayFollow s c.header) (sym counted.summary) (0, rules_kept_at parts place c keeps within is)

headers_more : (parts : List Component) (place : ℕ) (c : Component) → place < length parts → c ≡ get_or parts place c
    → headers_in (take (place + 1) parts) ≡ headers_in (take place parts) ++ c.header ∷ []
headers_more parts place c within is =
    ap headers_in (take_more parts place c within)
    ∙ map-append (λ (x : Component). x.header) (take place parts) (get_or parts place c ∷ [])
    ∙ ap (λ (x : Component). headers_in (take place parts) ++ x.header ∷ []) (sym is)

-- with it the count is that of the components up to it
pub counted_more : (parts : List Component) (seen new : Seen) (named more place : ℕ) (c : Component) → KeepsRules parts → Counted parts seen named place
    → place < length parts → c ≡ get_or parts place c → more ≡ placed_pages seen.areas c.header → new ≡ seen_after seen c.header
    → ((before : List Header) → seen ≡ seen_of before → new ≡ seen_of (before ++ c.header ∷ [])) → Counted parts new (named + more) (place + 1)
counted_more parts seen new named more place c keeps counted within is placed value pushed =
    let before = headers_in (take place parts) in
    let rules = keeps_rules 0 (seen_of before) c.header (rules_kept_at parts place c keeps within is) in
    let limit = ltb-false 4194304 (named_pages before + placed_pages (seen_of before).areas c.header) rules.pages in
    let same : seen.pages ≡ named_pages before = ap (λ (s : Seen). s.pages) counted.summary in
    let areas : placed_pages seen.areas c.header ≡ placed_pages (seen_of before).areas c.header = ap (λ (s : Seen). placed_pages s.areas c.header) counted.summary in
    record {
      summary = pushed before counted.summary ∙ ap seen_of (sym (headers_more parts place c within is));
      pages = (let grown = ap (λ (s : Seen). s.pages) value in let old = counted.pages in omega arith);
      few = (let old = counted.pages in omega arith);
    }
