-- What a list of calls tells of one area: its content, and its values in order.
use Rattle.std.proofs.Common.{◌≡◌, ℕ, List, [], ◌∷◌, ◌++◌, Bool, true, false, cond, Option, Some, None, length, find, map, refl, ap, sym, ◌∙◌, arith, inl, inr, ◌==◌, subst, append_assoc, fold, IsSome, is_some, if◌then◌else◌, sum_by, ◌||◌}
use Rattle.std.specs.Option.{option_map, option_or}
use Rattle.std.specs.List.{filter_map, cons_option}
use Rattle.std.proofs.lemmas.Bool.{eqb-true, ne_eqb}
use Rattle.std.proofs.lemmas.Bool.Decides.{eqb_tells}
use Rattle.std.proofs.lemmas.List.{append-nil, length-map}
use Rattle.std.proofs.lemmas.List.Sums.{sum_by-cons}
use Rattle.std.proofs.lemmas.List.Folds.{find-append}
use Rattle.igvm_image.specs.Data.{Data}
use Rattle.param_areas.specs.AreaBytes.{Area, Space, area_at, bytes_in, bytes_of, size_of_all}
use Rattle.param_areas.specs.AreaHistory.{Setting, Told, Shows, shown, declared, told_at, told_size, told_byte, told_change, told_taken, told_value, byte_in}
use Rattle.param_areas.specs.Calls.{Call, Declare, Set, Take, AreInOrder, told_by, told_call, byte_under, content_in, content_of, first_of_contents, is_taken, settings_of, told_of}
use Rattle.param_areas.proofs.Changes.{find_changed, find_other, find_shown}
use Rattle.param_areas.proofs.Histories.{length_area_bytes, bytes_of_shown}

found_same : (change : Told → Told) → ((t : Told) → (change t).index ≡ t.index) → (told : List Told) (area : ℕ) → told_at (told_change change area told) area ≡ option_map change (told_at told area)
found_same change keeps told area =
    find_changed (λ (t : Told). t.index == area) change (λ t. ap (λ i. i == area) (keeps t)) told

found_other : (change : Told → Told) → ((t : Told) → (change t).index ≡ t.index) → (told : List Told) (area other : ℕ) → (other ≡ area → ⊥) → told_at (told_change change area told) other ≡ told_at told other
found_other change keeps told area other ne =
    find_other (λ (t : Told). t.index == area) (λ (t : Told). t.index == other) change
    (λ t is. ne_eqb t.index other (λ e. ne (sym e ∙ eqb-true t.index area is)))
    (λ t is. ne_eqb (change t).index other (λ e. ne (sym e ∙ keeps t ∙ eqb-true t.index area is)))
    told

taken_shown : (o : Option Told) → option_map (λ (a : Area). a.taken) (option_map shown o) ≡ option_map (λ t. t.taken) o
taken_shown None = refl
taken_shown (Some t) = refl

length_shown : (o : Option Told) → length (bytes_in (option_map shown o)) ≡ told_size o
length_shown None = refl
length_shown (Some t) = length_area_bytes t.content t.settings

not_known : (of area : ℕ) (known : List ℕ) → of ≡ area → IsSome (find (λ k. k == of) known) → find (λ k. k == area) known ≡ None → ⊥
not_known of area known same is none =
    let P : ℕ → Type 0 = λ i. IsSome (find (λ k. k == i) known) in
    let no : true ≡ false = sym (subst P same is) ∙ ap is_some none in
    cc

or_false : (b : Bool) → b || false ≡ b
or_false true = refl
or_false false = refl

or_true : (b : Bool) → b || true ≡ true
or_true true = refl
or_true false = refl

-- what was told, with these values and this mark
abbrev with_rest : Told → List Setting → Bool → Option Told
with_rest told settings taken = Some (record told { settings = settings; taken = taken })

-- of an area that is there, the calls tell the values that they set in it, and whether one takes it
told_on : (area : ℕ) (calls : List Call) (told : List Told) (t : Told) → told_at told area ≡ Some t → told_at (fold told_call told calls) area ≡ with_rest t (t.settings ++ settings_of area calls) (t.taken || is_taken area calls)
told_on area [] told t is =
    is
    ∙ ap (λ l. with_rest t l t.taken) (sym (append-nil t.settings))
    ∙ ap (λ b. with_rest t (t.settings ++ []) b) (sym (or_false t.taken))
told_on area (Declare of added ∷ calls) told t is =
    told_on area calls (told ++ declared of added ∷ []) t
    (find-append (λ (t : Told). t.index == area) told (declared of added ∷ []) ∙ ap (λ o. option_or o (told_at (declared of added ∷ []) area)) is)
told_on area (Set of place value ∷ calls) told t is =
    let setting : Setting = record { place = place; value = value } in
    let taken : Bool = t.taken || is_taken area calls in
    elim (eqb_tells of area) [
      | inl same ↦
          let P : ℕ → Type 0 = λ i. told_at (told_change (told_value place value) i told) area ≡ Some (told_value place value t) in
          told_on area calls (told_change (told_value place value) of told) (told_value place value t)
          (subst P (sym same.1) (found_same (told_value place value) (λ t. refl) told area ∙ ap (option_map (told_value place value)) is))
          ∙ ap (λ l. with_rest t l taken)
          (append_assoc t.settings (setting ∷ []) (settings_of area calls)
          ∙ ap (λ b. t.settings ++ cons_option (if b then Some setting else None) (settings_of area calls)) (sym same.0))
      | inr other ↦
          told_on area calls (told_change (told_value place value) of told) t
          (found_other (told_value place value) (λ t. refl) told of area (λ e. other.1 (sym e)) ∙ is)
          ∙ ap (λ b. with_rest t (t.settings ++ cons_option (if b then Some setting else None) (settings_of area calls)) taken) (sym other.0)
    ]
told_on area (Take of ∷ calls) told t is =
    let settings : List Setting = t.settings ++ settings_of area calls in
    elim (eqb_tells of area) [
      | inl same ↦
          let P : ℕ → Type 0 = λ i. told_at (told_change told_taken i told) area ≡ Some (told_taken t) in
          told_on area calls (told_change told_taken of told) (told_taken t)
          (subst P (sym same.1) (found_same told_taken (λ t. refl) told area ∙ ap (option_map told_taken) is))
          ∙ ap (with_rest t settings) (sym (ap (λ b. t.taken || (b || is_taken area calls)) same.0 ∙ or_true t.taken))
      | inr other ↦
          told_on area calls (told_change told_taken of told) t
          (found_other told_taken (λ t. refl) told of area (λ e. other.1 (sym e)) ∙ is)
          ∙ ap (λ b. with_rest t settings (t.taken || (b || is_taken area calls))) (sym other.0)
    ]

-- of an area that is not there yet, the calls tell the first content that is declared for it
told_first : (area : ℕ) (calls : List Call) (told : List Told) (known : List ℕ) → told_at told area ≡ None → find (λ i. i == area) known ≡ None → AreInOrder known calls → told_at (fold told_call told calls) area ≡ option_map (told_of area calls) (content_of area calls)
told_first area [] told known none unknown order = none
told_first area (Declare of added ∷ calls) told known none unknown order =
    let here : told_at (told ++ declared of added ∷ []) area ≡ cond (of == area) (Some (declared of added)) None =
    find-append (λ (t : Told). t.index == area) told (declared of added ∷ []) ∙ ap (λ o. option_or o (cond (of == area) (Some (declared of added)) None)) none in
    elim (eqb_tells of area) [
      | inl same ↦
          told_on area calls (told ++ declared of added ∷ []) (declared of added) (here ∙ ap (λ b. cond b (Some (declared of added)) None) same.0)
          ∙ ap (λ i. with_rest (declared i added) (settings_of area calls) (is_taken area calls)) same.1
          ∙ ap (λ b. option_map (told_of area calls) (first_of_contents (cons_option (if b then Some added else None) (filter_map (content_in area) calls)))) (sym same.0)
      | inr other ↦
          told_first area calls (told ++ declared of added ∷ []) (of ∷ known)
          (here ∙ ap (λ b. cond b (Some (declared of added)) None) other.0)
          (ap (λ b. cond b (Some of) (find (λ i. i == area) known)) other.0 ∙ unknown)
          order
          ∙ ap (λ b. option_map (told_of area calls) (first_of_contents (cons_option (if b then Some added else None) (filter_map (content_in area) calls)))) (sym other.0)
    ]
told_first area (Set of place value ∷ calls) told known none unknown order =
    let setting : Setting = record { place = place; value = value } in
    elim (eqb_tells of area) [
      | inl same ↦ absurd (not_known of area known same.1 order.0 unknown)
      | inr other ↦
          told_first area calls (told_change (told_value place value) of told) known
          (found_other (told_value place value) (λ t. refl) told of area (λ e. other.1 (sym e)) ∙ none)
          unknown order.1
          ∙ ap (λ b. option_map (λ (content : Data). let t : Told = record { index = area; content = content; settings = cons_option (if b then Some setting else None) (settings_of area calls); taken = is_taken area calls } in t) (content_of area calls)) (sym other.0)
    ]
told_first area (Take of ∷ calls) told known none unknown order =
    elim (eqb_tells of area) [
      | inl same ↦ absurd (not_known of area known same.1 order.0 unknown)
      | inr other ↦
          told_first area calls (told_change told_taken of told) known
          (found_other told_taken (λ t. refl) told of area (λ e. other.1 (sym e)) ∙ none)
          unknown order.1
          ∙ ap (λ b. option_map (λ (content : Data). let t : Told = record { index = area; content = content; settings = settings_of area calls; taken = b || is_taken area calls } in t) (content_of area calls)) (sym other.0)
    ]

-- what the calls tell of an area
pub told_by_calls : (calls : List Call) (area : ℕ) → AreInOrder [] calls → told_at (told_by calls) area ≡ option_map (told_of area calls) (content_of area calls)
told_by_calls calls area order = told_first area calls [] [] refl refl order

byte_of_content : (place area : ℕ) (calls : List Call) (content : Option Data) → byte_in place (option_map (told_of area calls) content) ≡ byte_under content (settings_of area calls) place
byte_of_content place area calls None = refl
byte_of_content place area calls (Some content) = refl

pub byte_by_calls : (calls : List Call) (area place : ℕ) → AreInOrder [] calls → told_byte (told_by calls) area place ≡ byte_under (content_of area calls) (settings_of area calls) place
byte_by_calls calls area place order =
    ap (byte_in place) (told_by_calls calls area order) ∙ byte_of_content place area calls (content_of area calls)

-- what is open and how large it is, by what was told
pub open_shown : (space : Space) (told : List Told) (area : ℕ) → Shows space told → option_map (λ a. a.taken) (area_at space.areas area) ≡ option_map (λ t. t.taken) (told_at told area)
open_shown space told area shows =
    ap (λ areas. option_map (λ (a : Area). a.taken) (area_at areas area)) shows
    ∙ ap (option_map (λ (a : Area). a.taken)) (find_shown shown (λ t. t.index == area) (λ a. a.index == area) (λ t. refl) told)
    ∙ taken_shown (told_at told area)

pub size_shown : (space : Space) (told : List Told) (area : ℕ) → Shows space told → length (bytes_of space.areas area) ≡ told_size (told_at told area)
size_shown space told area shows =
    ap (λ areas. length (bytes_of areas area)) shows ∙ ap length (bytes_of_shown told area) ∙ length_shown (told_at told area)

pub new_shown : (space : Space) (told : List Told) (area : ℕ) → Shows space told → told_at told area ≡ None → area_at space.areas area ≡ None
new_shown space told area shows none =
    ap (λ areas. area_at areas area) shows
    ∙ find_shown shown (λ t. t.index == area) (λ a. a.index == area) (λ t. refl) told
    ∙ ap (option_map shown) none

pub count_shown : (space : Space) (told : List Told) → Shows space told → length space.areas ≡ length told
count_shown space told shows = ap length shows ∙ length-map told shown

sizes_of_shown : (told : List Told) → size_of_all (map shown told) ≡ sum_by (λ t. told_size (Some t)) told
sizes_of_shown [] = refl
sizes_of_shown (t ∷ told) =
    omega (arith, sum_by-cons (λ (a : Area). length a.bytes) (shown t) (map shown told), sum_by-cons (λ (t : Told). told_size (Some t)) t told, length_area_bytes t.content t.settings, sizes_of_shown told)

pub sizes_shown : (space : Space) (told : List Told) → Shows space told → size_of_all space.areas ≡ sum_by (λ t. told_size (Some t)) told
sizes_shown space told shows = ap size_of_all shows ∙ sizes_of_shown told
