-- The three parts of a list are the list.
use Rattle.std.proofs.Common.{◌≡◌, List, [], ◌∷◌, ◌++◌, refl, sym, ◌∙◌, ap, subst, append_assoc, Bool, true, false}
use Rattle.std.specs.Prelude.{if◌then◌else◌, ◌||◌}
use Rattle.std.specs.List.{list_any, AllByRecursion}
use Rattle.igvm_headers.specs.declared.header.Header.{Header}
use Rattle.component_list.specs.declared.component.Component.{Component}
use Rattle.list_changes.proofs.Kept.{or_false}
use Rattle.joined_list.specs.Parts.{up_to_last, past_last, is_platform, is_initial, first_part, behind_first, second_part, third_part}
use Rattle.joined_list.proofs.EachElement.{all_left, all_right}

-- ---- a list cut behind its last header that passes a test

pub cut_is_whole : (test : Header → Bool) (cs : List Component) → up_to_last test cs ++ past_last test cs ≡ cs
unfolding up_to_last past_last
cut_is_whole test [] = refl
cut_is_whole test (c ∷ cs) = cases (test c.header || list_any (λ (d : Component). test d.header) cs) (cut_is_whole test cs)
  where
    cases : (b : Bool) → up_to_last test cs ++ past_last test cs ≡ cs
        → (if b then c ∷ up_to_last test cs else []) ++ (if b then past_last test cs else c ∷ cs) ≡ c ∷ cs
    cases true others = ap (λ ds. c ∷ ds) others
    cases false others = refl

-- no header behind it passes
pub none_past : (test : Header → Bool) (cs : List Component) → AllByRecursion (λ c. test c.header ≡ false) (past_last test cs)
unfolding past_last
none_past test [] = tt
none_past test (c ∷ cs) = cases (test c.header || list_any (λ (d : Component). test d.header) cs) refl (none_past test cs)
  where
    all_fail : (ds : List Component) → list_any (λ (d : Component). test d.header) ds ≡ false → AllByRecursion (λ d. test d.header ≡ false) ds
    all_fail [] none = tt
    all_fail (d ∷ ds) none = (let both = or_false (test d.header) (list_any (λ (e : Component). test e.header) ds) none in (both.0, all_fail ds both.1))

    cases : (b : Bool) → (test c.header || list_any (λ (d : Component). test d.header) cs) ≡ b → AllByRecursion (λ d. test d.header ≡ false) (past_last test cs)
        → AllByRecursion (λ d. test d.header ≡ false) (if b then past_last test cs else c ∷ cs)
    cases true is others = others
    cases false is others =
        (let both = or_false (test c.header) (list_any (λ (d : Component). test d.header) cs) is in (both.0, all_fail cs both.1))

-- ---- the three parts

pub parts_are_whole : (parts : List Component) → first_part parts ++ second_part parts ++ third_part parts ≡ parts
parts_are_whole parts =
    append_assoc (first_part parts) (second_part parts) (third_part parts)
    ∙ ap (λ ds. first_part parts ++ ds) (cut_is_whole is_initial (behind_first parts))
    ∙ cut_is_whole is_platform parts

-- each part of a list, where all of it has a property
pub record InParts (P : Component → Type 0) (parts : List Component) : Type 0 where
  pub first : AllByRecursion P (first_part parts)
  pub second : AllByRecursion P (second_part parts)
  pub third : AllByRecursion P (third_part parts)

pub in_parts : (P : Component → Type 0) (parts : List Component) → AllByRecursion P parts → InParts P parts
in_parts P parts all =
    let whole = subst (AllByRecursion P) (sym (parts_are_whole parts)) all in
    let front = all_left P (first_part parts ++ second_part parts) (third_part parts) whole in
    record {
      first = all_left P (first_part parts) (second_part parts) front;
      second = all_right P (first_part parts) (second_part parts) front;
      third = all_right P (first_part parts ++ second_part parts) (third_part parts) whole;
    }
