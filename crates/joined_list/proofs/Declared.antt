-- The areas that a list's headers declare and name are among its areas.
use Rattle.std.proofs.Common.{◌≡◌, ℕ, List, [], ◌∷◌, map, refl, ap, Some, Bool, true, false}
use Rattle.std.specs.Prelude.{if◌then◌else◌, ◌==◌, ◌||◌, is_none, find}
use Rattle.std.specs.Option.{option_map}
use Rattle.std.specs.List.{AllByRecursion, cons_option}
use Rattle.std.proofs.lemmas.Bool.{eq-eqb}
use Rattle.igvm_headers.specs.declared.header.Header.{Header}
use Rattle.igvm_headers.specs.declared.header.Header.TheVariants.{Area}
use Rattle.igvm_image.specs.declared.area_table.AreaEntry.{AreaEntry}
use Rattle.igvm_image.specs.Areas.{area_entry, area_size}
use Rattle.component_list.specs.declared.component.Component.{Component}
use Rattle.list_changes.proofs.Kept.{has}
use Rattle.joined_list.specs.NewNumbers.{list_areas, areas_in}

abbrev pub DeclaredIn : List ℕ → Header → Type 0
DeclaredIn olds (Area bytes area offset) = has area olds ≡ true
DeclaredIn olds _ = Unit {0}

declared_from : (olds : List ℕ) (cs : List Component) → ((x : ℕ) → has x (areas_in cs) ≡ true → has x olds ≡ true)
    → AllByRecursion (λ c. DeclaredIn olds c.header) cs
declared_from olds [] within = tt
declared_from olds (c ∷ cs) within = (here c.header within, declared_from olds cs (λ x is. within x (behind c.header x is)))
  where
    here : (h : Header) → ((x : ℕ) → has x (map (λ (e : AreaEntry). e.area) (cons_option (area_entry h) (list_areas cs))) ≡ true → has x olds ≡ true)
        → DeclaredIn olds h
    here (Area bytes area offset) within = within area (ap (λ b. b || has area (areas_in cs)) (eq-eqb area area refl))
    here h within = tt

    or_right : (b c : Bool) → c ≡ true → (b || c) ≡ true
    or_right true c h = refl
    or_right false c h = h

    behind : (h : Header) (x : ℕ) → has x (areas_in cs) ≡ true
        → has x (map (λ (e : AreaEntry). e.area) (cons_option (area_entry h) (list_areas cs))) ≡ true
    behind (Area bytes area offset) x is = or_right (area == x) (has x (areas_in cs)) is
    behind h x is = is

pub each_declared : (parts : List Component) → AllByRecursion (λ c. DeclaredIn (areas_in parts) c.header) parts
each_declared parts = declared_from (areas_in parts) parts (λ x is. is)

-- an area that has a size is among the areas
pub sized_is_in : (x : ℕ) (es : List AreaEntry) → is_none (area_size es x) ≡ false → has x (map (λ (e : AreaEntry). e.area) es) ≡ true
sized_is_in x [] some = cc
sized_is_in x (e ∷ es) some = cases (e.area == x) some (sized_is_in x es)
  where
    cases : (b : Bool) → is_none (option_map (λ (e : AreaEntry). e.bytes) (if b then Some e else find (λ (e : AreaEntry). e.area == x) es)) ≡ false
        → (is_none (area_size es x) ≡ false → has x (map (λ (e : AreaEntry). e.area) es) ≡ true)
        → (b || has x (map (λ (e : AreaEntry). e.area) es)) ≡ true
    cases true some others = refl
    cases false some others = others some
