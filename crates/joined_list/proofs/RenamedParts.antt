-- The parts of a renamed list are the parts of the list, renamed: new numbers change no header's type.
use Rattle.std.proofs.Common.{◌≡◌, ℕ, List, [], ◌∷◌, ◌++◌, map, refl, ◌∙◌, ap, ap₂, Bool, true, false}
use Rattle.std.specs.Prelude.{if◌then◌else◌, ◌||◌}
use Rattle.std.specs.List.{list_any}
use Rattle.igvm_headers.specs.declared.header.Header.{Header}
use Rattle.igvm_headers.specs.declared.header.Header.TheVariants.{Platform, Policy, Carried}
use Rattle.component_list.specs.declared.component.Component.{Component}
use Rattle.list_changes.specs.Changes.{changed, changed_part, same}
use Rattle.joined_list.specs.declared.parts.Parts.{Parts}
use Rattle.joined_list.specs.Joined.{joined_parts, of_first, of_second}
use Rattle.joined_list.specs.NewNumbers.{area_by, first_masks, mask_by, second_areas, second_masks}
use Rattle.joined_list.specs.Parts.{first_part, is_initial, is_platform, past_last, second_part, third_part, up_to_last}

-- a test that a change keeps
abbrev Keeps : (ℕ → ℕ) → (ℕ → ℕ) → (Header → Bool) → Type 0
Keeps mask_to area_to test = (h : Header) → test (changed mask_to area_to h) ≡ test h

keeps_platform : (mask_to area_to : ℕ → ℕ) → Keeps mask_to area_to is_platform
keeps_platform mask_to area_to (Platform mask highest_vtl kind version shared_gpa) = refl
keeps_platform mask_to area_to h = refl

keeps_initial : (mask_to area_to : ℕ → ℕ) → Keeps mask_to area_to is_initial
keeps_initial mask_to area_to (Policy policy mask) = refl
keeps_initial mask_to area_to (Carried kind length) = refl
keeps_initial mask_to area_to h = refl

module _ (mask_to area_to : ℕ → ℕ) (test : Header → Bool) (keeps : Keeps mask_to area_to test) where
  any_renamed : (cs : List Component) → list_any (λ d. test d.header) (map (changed_part mask_to area_to) cs) ≡ list_any (λ d. test d.header) cs
  any_renamed [] = refl
  any_renamed (c ∷ cs) = ap₂ (λ a b. a || b) (keeps c.header) (any_renamed cs)

  front_renamed : (cs : List Component) → up_to_last test (map (changed_part mask_to area_to) cs) ≡ map (changed_part mask_to area_to) (up_to_last test cs)
  unfolding up_to_last
  front_renamed [] = refl
  front_renamed (c ∷ cs) =
      ap₂ (λ a b. if a || b then changed_part mask_to area_to c ∷ up_to_last test (map (changed_part mask_to area_to) cs) else []) (keeps c.header) (any_renamed cs)
      ∙ cases (test c.header || list_any (λ d. test d.header) cs) (front_renamed cs)
    where
      cases : (b : Bool) → up_to_last test (map (changed_part mask_to area_to) cs) ≡ map (changed_part mask_to area_to) (up_to_last test cs)
          → (if b then changed_part mask_to area_to c ∷ up_to_last test (map (changed_part mask_to area_to) cs) else [])
          ≡ map (changed_part mask_to area_to) (if b then c ∷ up_to_last test cs else [])
      cases true behind = ap (λ ds. changed_part mask_to area_to c ∷ ds) behind
      cases false behind = refl

  back_renamed : (cs : List Component) → past_last test (map (changed_part mask_to area_to) cs) ≡ map (changed_part mask_to area_to) (past_last test cs)
  unfolding past_last
  back_renamed [] = refl
  back_renamed (c ∷ cs) =
      ap₂ (λ a b. if a || b then past_last test (map (changed_part mask_to area_to) cs) else map (changed_part mask_to area_to) (c ∷ cs)) (keeps c.header) (any_renamed cs)
      ∙ cases (test c.header || list_any (λ d. test d.header) cs) (back_renamed cs)
    where
      cases : (b : Bool) → past_last test (map (changed_part mask_to area_to) cs) ≡ map (changed_part mask_to area_to) (past_last test cs)
          → (if b then past_last test (map (changed_part mask_to area_to) cs) else map (changed_part mask_to area_to) (c ∷ cs))
          ≡ map (changed_part mask_to area_to) (if b then past_last test cs else c ∷ cs)
      cases true behind = behind
      cases false behind = refl

module _ (mask_to area_to : ℕ → ℕ) (cs : List Component) where
  first_renamed : first_part (map (changed_part mask_to area_to) cs) ≡ map (changed_part mask_to area_to) (first_part cs)
  first_renamed = front_renamed mask_to area_to is_platform (keeps_platform mask_to area_to) cs

  second_renamed : second_part (map (changed_part mask_to area_to) cs) ≡ map (changed_part mask_to area_to) (second_part cs)
  second_renamed =
      ap (up_to_last is_initial) (back_renamed mask_to area_to is_platform (keeps_platform mask_to area_to) cs)
      ∙ front_renamed mask_to area_to is_initial (keeps_initial mask_to area_to) (past_last is_platform cs)

  third_renamed : third_part (map (changed_part mask_to area_to) cs) ≡ map (changed_part mask_to area_to) (third_part cs)
  third_renamed =
      ap (past_last is_initial) (back_renamed mask_to area_to is_platform (keeps_platform mask_to area_to) cs)
      ∙ back_renamed mask_to area_to is_initial (keeps_initial mask_to area_to) (past_last is_platform cs)

turns : {p q r s t u p1 q1 r1 s1 t1 u1 : List Component} → p ≡ p1 → q ≡ q1 → r ≡ r1 → s ≡ s1 → t ≡ t1 → u ≡ u1
    → p ++ q ++ r ++ s ++ t ++ u ≡ p1 ++ q1 ++ r1 ++ s1 ++ t1 ++ u1
turns e1 e2 e3 e4 e5 e6 =
    ap₂ (λ m n. m ++ n) (ap₂ (λ m n. m ++ n) (ap₂ (λ m n. m ++ n) (ap₂ (λ m n. m ++ n) (ap₂ (λ m n. m ++ n) e1 e2) e3) e4) e5) e6

-- a list is cut into these parts
pub record IsCut (list : List Component) (parts : Parts) : Type 0 where
  pub first : parts.first.items ≡ first_part list
  pub second : parts.second.items ≡ second_part list
  pub third : parts.third.items ≡ third_part list

-- the parts of both renamed lists by turns
pub joined_by_turns : (a b ones others all : List Component) (p q : Parts) → ones ≡ map (of_first a) a → others ≡ map (of_second a b) b → IsCut ones p → IsCut others q
    → all ≡ p.first.items ++ q.first.items ++ p.second.items ++ q.second.items ++ p.third.items ++ q.third.items → all ≡ joined_parts a b
unfolding joined_parts
joined_by_turns a b ones others all p q is also one other by_turns =
    let kept = mask_by (first_masks a) in
    let masks = mask_by (second_masks a b) in
    let areas = area_by (second_areas a b) in
    by_turns
    ∙ turns (one.first ∙ ap first_part is ∙ first_renamed kept same a) (other.first ∙ ap first_part also ∙ first_renamed masks areas b)
    (one.second ∙ ap second_part is ∙ second_renamed kept same a) (other.second ∙ ap second_part also ∙ second_renamed masks areas b)
    (one.third ∙ ap third_part is ∙ third_renamed kept same a) (other.third ∙ ap third_part also ∙ third_renamed masks areas b)
