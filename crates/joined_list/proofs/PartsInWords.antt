-- The three parts of a list in words.
use Rattle.std.proofs.Common.{◌≡◌, List, [], ◌∷◌, ◌++◌, refl, sym, ◌∙◌, ap, subst, Bool, true, false, inl, inr}
use Rattle.std.specs.Prelude.{if◌then◌else◌, ◌||◌}
use Rattle.std.specs.List.{list_any, AllByRecursion}
use Rattle.std.proofs.lemmas.List.Elements.{All-from_recursion}
use Rattle.igvm_headers.specs.declared.header.Header.{Header}
use Rattle.component_list.specs.declared.component.Component.{Component}
use Rattle.joined_list.specs.InWords.{AreParts, EndsWith}
use Rattle.joined_list.specs.Parts.{up_to_last, is_platform, is_initial, first_part, behind_first, second_part, third_part}
use Rattle.joined_list.proofs.ThreeParts.{cut_is_whole, none_past, parts_are_whole}

-- where a header passes a test, something is up to the last that does
some_left : (test : Header → Bool) (cs : List Component) → list_any (λ c. test c.header) cs ≡ true → up_to_last test cs ≡ [] → ⊥
unfolding up_to_last
some_left test [] some none = cc
some_left test (c ∷ cs) some none =
    let both : c ∷ up_to_last test cs ≡ [] = ap (λ b. if b then c ∷ up_to_last test cs else []) (sym some) ∙ none in
    cc

ends : (test : Header → Bool) (cs : List Component) → EndsWith test (up_to_last test cs)
unfolding up_to_last
ends test [] = inl refl
ends test (c ∷ cs) = cases (test c.header) (list_any (λ (d : Component). test d.header) cs) refl refl (ends test cs)
  where
    cases : (b d : Bool) → test c.header ≡ b → list_any (λ (e : Component). test e.header) cs ≡ d → EndsWith test (up_to_last test cs)
        → EndsWith test (if b || d then c ∷ up_to_last test cs else [])
    cases false false is also behind = inl refl
    cases true d is also (inl none) = inr ([], c, ap (λ ds. c ∷ ds) none, is)
    cases false true is also (inl none) = absurd (some_left test cs also none)
    cases b d is also (inr end) = inr (c ∷ end.0, end.1, ap (λ ds. c ∷ ds) end.2, end.3)

pub are_parts : (parts : List Component) → AreParts parts (first_part parts) (second_part parts) (third_part parts)
are_parts parts = record {
  whole = parts_are_whole parts;
  first_ends = ends is_platform parts;
  second_ends = ends is_initial (behind_first parts);
  no_platform = All-from_recursion (λ (c : Component). is_platform c.header ≡ false) (second_part parts ++ third_part parts)
      (subst (AllByRecursion (λ (c : Component). is_platform c.header ≡ false)) (sym (cut_is_whole is_initial (behind_first parts))) (none_past is_platform parts));
  none_initial = All-from_recursion (λ (c : Component). is_initial c.header ≡ false) (third_part parts) (none_past is_initial (behind_first parts));
}
