-- The entries of a list, one after the other.
use Rattle.std.proofs.Common.{◌≡◌, ℕ, suc, ◌+◌, ◌<◌, ◌≤◌, List, [], ◌∷◌, ◌++◌, length, get_or, drop, refl, sym, ◌∙◌, ap, add-one, drop-cons, append_assoc, append-nil, length-append, Option, Some, None, Result, Ok, Err}
use Rattle.std.proofs.lemmas.List.{drop_all}
use Rattle.serde_json.specs.Data.{Data}
use Rattle.serde_json.specs.Events.{items_len}
use Rattle.serde_json.proofs.Views.{items_len-items_view}
use Rattle.serde_json.specs.View.{view, items_view}
use Rattle.serde_json.specs.declared.value.Value.{Value}
use Rattle.component_list.specs.declared.refusal.ListPart.{ListPart}
use Rattle.component_list.specs.declared.refusal.ListRefusal.{ListRefusal}
use Rattle.component_list.specs.declared.refusal.ListRefusal.TheVariants.{Field}
use Rattle.component_list.specs.ListForms.{before, entries_from, entries_of}
use Rattle.component_list.specs.EntryArrays.{with_front}

-- the kit's lemma, under a name that an attribute can have
pub items_len_is : (vs : List Value) → items_len (items_view vs) ≡ length vs
items_len_is vs = items_len-items_view vs

-- these entries, and those that are read of the values from a place on, are those of all values
pub record EntryWalk {A : Type 0} (form : Data → Option A) (part : ListPart) (all : List Value) (number : ℕ) (made : List A) : Type 0 where
  pub same : with_front made (entries_from form part number (items_view (drop number all))) ≡ entries_of form part (items_view all)
  pub count : length made ≡ number

module _ {A : Type 0} (form : Data → Option A) (part : ListPart) where
  front_none : (r : Result (List A) ListRefusal) → with_front [] r ≡ r
  front_none (Ok others) = refl
  front_none (Err e) = refl

  pub walk_start : (all : List Value) → EntryWalk form part all 0 []
  walk_start all = record { same = front_none (entries_of form part (items_view all)); count = refl }

  left : (all : List Value) (number : ℕ) (v : Value) → number < length all → v ≡ get_or all number v
      → entries_from form part number (items_view (drop number all))
      ≡ before (Field part number) (form (view v)) (entries_from form part (number + 1) (items_view (drop (number + 1) all)))
  left all number v within is =
      ap (λ vs. entries_from form part number (items_view vs)) (drop-cons all number v within ∙ ap (λ x. x ∷ drop (suc number) all) (sym is))
      ∙ ap (λ n. before (Field part number) (form (view v)) (entries_from form part n (items_view (drop n all)))) (sym (add-one number))

  pub walk_bad : (all : List Value) (number : ℕ) (made : List A) (v : Value) → EntryWalk form part all number made
      → number < length all → v ≡ get_or all number v → form (view v) ≡ None
      → entries_of form part (items_view all) ≡ Err (Field part number)
  walk_bad all number made v w within is bad =
      sym w.same
      ∙ ap (with_front made) (left all number v within is
      ∙ ap (λ e. before (Field part number) e (entries_from form part (number + 1) (items_view (drop (number + 1) all)))) bad)

  front_more : (made : List A) (entry : A) (refused : ListRefusal) (r : Result (List A) ListRefusal)
      → with_front (made ++ entry ∷ []) r ≡ with_front made (before refused (Some entry) r)
  front_more made entry refused (Ok others) = ap (λ xs. Ok xs) (append_assoc made (entry ∷ []) others)
  front_more made entry refused (Err e) = refl

  pub walk_step : (all : List Value) (number : ℕ) (made new : List A) (v : Value) (entry : A) → EntryWalk form part all number made
      → number < length all → v ≡ get_or all number v → form (view v) ≡ Some entry → new ≡ made ++ entry ∷ []
      → EntryWalk form part all (number + 1) new
  walk_step all number made new v entry w within is good pushed = record {
    same = ap (λ es. with_front es (entries_from form part (number + 1) (items_view (drop (number + 1) all)))) pushed
        ∙ front_more made entry (Field part number) (entries_from form part (number + 1) (items_view (drop (number + 1) all)))
        ∙ ap (λ e. with_front made (before (Field part number) e (entries_from form part (number + 1) (items_view (drop (number + 1) all))))) (sym good)
        ∙ ap (with_front made) (sym (left all number v within is))
        ∙ w.same;
    count = ap length pushed ∙ length-append made (entry ∷ []) ∙ ap (λ n. n + 1) w.count;
  }

  pub walk_end : (all : List Value) (number : ℕ) (made : List A) → EntryWalk form part all number made → length all ≤ number
      → entries_of form part (items_view all) ≡ Ok made
  walk_end all number made w past =
      sym w.same
      ∙ ap (λ vs. with_front made (entries_from form part number (items_view vs))) (drop_all number all past)
      ∙ ap (λ es. Ok es) (append-nil made)
