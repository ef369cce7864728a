-- The numbers of a list, one component after the other.
use Rattle.std.proofs.Common.{◌≡◌, ℕ, ◌+◌, ◌<◌, ◌≤◌, List, [], ◌∷◌, ◌++◌, get_or, length, map, take, sym, ◌∙◌, ap, ap₂, subst, arith, Some, None}
use Rattle.std.specs.Prelude.{option_and_then, slice_get}
use Rattle.std.specs.Option.{option_to_list}
use Rattle.std.proofs.lemmas.Bool.{ltb-false}
use Rattle.std.proofs.lemmas.List.{map-append, take_all, take_more}
use Rattle.std.proofs.lemmas.Option.{slice_get-get_or}
use Rattle.igvm_headers.specs.declared.header.Header.{Header}
use Rattle.platform_masks.specs.declared.platform.Platform as platform
use Rattle.platform_masks.specs.Platforms.{platform_of, platforms_from}
use Rattle.igvm_image.specs.declared.area_table.AreaEntry.{AreaEntry}
use Rattle.igvm_image.specs.Areas.{area_entry, placed_pages}
use Rattle.igvm_image.specs.HeaderRules.{MayFollow, Seen, rule_fault, seen_after, seen_of}
use Rattle.igvm_image.specs.RulesLaws.{keeps_rules}
use Rattle.component_list.specs.declared.component.Component.{Component}
use Rattle.component_list.specs.FirstFault.{KeepsRules, headers_in}
use Rattle.component_list.specs.Lists.{component_fault}
use Rattle.joined_list.specs.declared.numbers.Numbers.{Numbers}
use Rattle.joined_list.specs.ListNumbers.{AreNumbersOf}

-- ---- a component that breaks no rule breaks none of the reader's

rules_kept : (seen : Seen) (c : Component) → component_fault seen c ≡ None → rule_fault 0 seen c.header ≡ None
unfolding component_fault
rules_kept seen c none = grind arith

rules_kept_at : (parts : List Component) (place : ℕ) (c : Component) → KeepsRules parts → place < length parts → c ≡ get_or parts place c
    → rule_fault 0 (seen_of (headers_in (take place parts))) c.header ≡ None
rules_kept_at parts place c keeps within is =
    let seen = seen_of (headers_in (take place parts)) in
    let found : slice_get parts place ≡ Some c = slice_get-get_or parts place c within ∙ ap (λ x. Some x) (sym is) in
    rules_kept seen c (sym (ap (option_and_then (component_fault seen)) found) ∙ keeps.kept place within)

-- ---- the components before a place

-- the numbers of those before it
pub record Counted (parts : List Component) (seen : Seen) (masks areas : List ℕ) (pages place : ℕ) : Type 0 where
  pub summary : seen ≡ seen_of (headers_in (take place parts))
  pub masks_are : masks ≡ map (λ p. p.mask) seen.platforms
  pub areas_are : areas ≡ map (λ a. a.area) seen.areas
  pub pages_are : pages ≡ seen.pages
  pub few : pages ≤ 4194304

pub counted_none : (parts : List Component) (seen : Seen) (masks areas : List ℕ) → seen ≡ seen_of [] → masks ≡ [] → areas ≡ [] → Counted parts seen masks areas 0 0
unfolding platforms_from
counted_none parts seen masks areas new no_masks no_areas = record {
  summary = new;
  masks_are = no_masks ∙ ap (λ (s : Seen). map (λ (p : platform.Platform). p.mask) s.platforms) (sym new);
  areas_are = no_areas ∙ ap (λ (s : Seen). map (λ (a : AreaEntry). a.area) s.areas) (sym new);
  pages_are = ap (λ (s : Seen). s.pages) (sym new);
  few = omega arith;
}

-- the component at the place may follow
pub may_follow : (parts : List Component) (seen : Seen) (masks areas : List ℕ) (pages place : ℕ) (c : Component) → KeepsRules parts
    → Counted parts seen masks areas pages place → place < length parts → c ≡ get_or parts place c → MayFollow seen c.header
may_follow parts seen masks areas pages place c keeps counted within is =
    subst (λ s. MayFollow s c.header) (sym counted.summary) (0, rules_kept_at parts place c keeps within is)

-- the pages stay few
pub few_pages : (parts : List Component) (seen : Seen) (masks areas : List ℕ) (pages more place : ℕ) (c : Component) → KeepsRules parts
    → Counted parts seen masks areas pages place → place < length parts → c ≡ get_or parts place c → more ≡ placed_pages seen.areas c.header
    → pages + more ≤ 4194304
few_pages parts seen masks areas pages more place c keeps counted within is placed =
    let follows = may_follow parts seen masks areas pages place c keeps counted within is in
    let limit = ltb-false 4194304 (seen.pages + placed_pages seen.areas c.header) (keeps_rules follows.0 seen c.header follows.1).pages in
    let same = counted.pages_are in
    omega arith

headers_more : (parts : List Component) (place : ℕ) (c : Component) → place < length parts → c ≡ get_or parts place c
    → headers_in (take (place + 1) parts) ≡ headers_in (take place parts) ++ c.header ∷ []
headers_more parts place c within is =
    ap headers_in (take_more parts place c within)
    ∙ map-append (λ (x : Component). x.header) (take place parts) (get_or parts place c ∷ [])
    ∙ ap (λ (x : Component). headers_in (take place parts) ++ x.header ∷ []) (sym is)

-- with the component at the place they are the numbers of those up to it
pub counted_more : (parts : List Component) (seen new : Seen) (masks areas new_masks new_areas : List ℕ) (pages more new_pages place : ℕ) (c : Component)
    → Counted parts seen masks areas pages place → place < length parts → c ≡ get_or parts place c
    → new ≡ seen_after seen c.header → ((before : List Header) → seen ≡ seen_of before → new ≡ seen_of (before ++ c.header ∷ []))
    → ((number : ℕ) → new_masks ≡ masks ++ map (λ p. p.mask) (platform_of number c.header))
    → new_areas ≡ areas ++ map (λ a. a.area) (option_to_list (area_entry c.header))
    → more ≡ placed_pages seen.areas c.header → new_pages ≡ pages + more → new_pages ≤ 4194304
    → Counted parts new new_masks new_areas new_pages (place + 1)
counted_more parts seen new masks areas new_masks new_areas pages more new_pages place c counted within is value pushed with_mask with_area placed sum small =
    let number = length seen.platforms in
    let before = headers_in (take place parts) in
    record {
      summary = pushed before counted.summary ∙ ap seen_of (sym (headers_more parts place c within is));
      masks_are =
          with_mask number ∙ ap (λ ms. ms ++ map (λ p. p.mask) (platform_of number c.header)) counted.masks_are
          ∙ sym (map-append (λ (p : platform.Platform). p.mask) seen.platforms (platform_of number c.header))
          ∙ ap (λ (s : Seen). map (λ (p : platform.Platform). p.mask) s.platforms) (sym value);
      areas_are =
          with_area ∙ ap (λ ns. ns ++ map (λ a. a.area) (option_to_list (area_entry c.header))) counted.areas_are
          ∙ sym (map-append (λ (a : AreaEntry). a.area) seen.areas (option_to_list (area_entry c.header)))
          ∙ ap (λ (s : Seen). map (λ (a : AreaEntry). a.area) s.areas) (sym value);
      pages_are = sum ∙ ap₂ (λ m n. m + n) counted.pages_are placed ∙ ap (λ (s : Seen). s.pages) (sym value);
      few = small;
    }

-- behind the last component they are the numbers of the list
pub counted_all : (parts : List Component) (seen : Seen) (numbers : Numbers) (place : ℕ) → length parts ≤ place
    → Counted parts seen numbers.masks.items numbers.areas.items numbers.pages place → AreNumbersOf parts numbers
counted_all parts seen numbers place past counted =
    let all : seen ≡ seen_of (headers_in parts) = counted.summary ∙ ap (λ cs. seen_of (headers_in cs)) (take_all place parts past) in
    record {
      masks = counted.masks_are ∙ ap (λ (s : Seen). map (λ (p : platform.Platform). p.mask) s.platforms) all;
      areas = counted.areas_are ∙ ap (λ (s : Seen). map (λ (a : AreaEntry). a.area) s.areas) all;
      pages = counted.pages_are ∙ ap (λ (s : Seen). s.pages) all;
    }
