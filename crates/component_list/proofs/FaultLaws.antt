-- The first fault of a list is the one that the words say, and no other.
use Rattle.std.proofs.Common.{◌≡◌, inl, inr, ℕ, ◌<◌, ◌≤◌, List, [], ◌∷◌, ◌++◌, length, take, refl, sym, ◌∙◌, ap, ap₂, subst, arith, append-nil, append_assoc, length-append, below_more, Option, Some, None, Bool, true, false}
use Rattle.std.specs.Prelude.{if◌then◌else◌, ◌==◌, nat_lt, ◌↔◌, option_and_then}
use Rattle.std.specs.List.{slice_get}
use Rattle.std.proofs.lemmas.List.{take_at, length-map, map-append}
use Rattle.std.proofs.lemmas.Bool.{ltb-true, ltb-false}
use Rattle.std.proofs.lemmas.Option.{slice_get_within}
use Rattle.std.proofs.Math.Dec.{eqb-suc-zero}
use Rattle.igvm_headers.specs.declared.fault.ReadWhat.{ReadWhat}
use Rattle.igvm_headers.specs.declared.fault.ReadWhat.TheVariants.{NoPlatform}
use Rattle.igvm_image.specs.HeaderRules.{seen_of}
use Rattle.platform_masks.specs.Platforms.{platforms_of}
use Rattle.platform_masks.specs.declared.platform.Platform as platform
use Rattle.component_list.specs.declared.component.Component.{Component}
use Rattle.component_list.specs.declared.list_fault.ListFault.{ListFault}
use Rattle.component_list.specs.Lists.{component_fault, end_fault, fault_behind, fault_in, list_fault, unless_broken}
use Rattle.component_list.specs.FirstFault.{headers_in, broken_at, AreKept, IsFirstFault, KeepsRules}

-- what a fault says, or its lack
Outcome : List Component → Option ListFault → Type 0
Outcome parts (Some fault) = IsFirstFault parts fault
Outcome parts None = KeepsRules parts

-- ---- there is such a fault

slice_get_at : {X : Type 0} (xs : List X) (y : X) (ys : List X) → slice_get (xs ++ y ∷ ys) (length xs) ≡ Some y
slice_get_at [] y ys = refl
slice_get_at (x ∷ xs) y ys = slice_get_at xs y ys

-- the rule that a component between others breaks
broken_between : (done : List Component) (c : Component) (cs : List Component)
    → broken_at (done ++ c ∷ cs) (length done) ≡ component_fault (seen_of (headers_in done)) c
broken_between done c cs =
    ap₂ (λ before found. option_and_then (component_fault (seen_of (headers_in before))) found)
    (take_at done (c ∷ cs) (length done) refl) (slice_get_at done c cs)

counted : (parts : List Component) → length (headers_in parts) ≡ length parts
counted parts = length-map parts (λ (c : Component). c.header)

-- behind the last component
at_end : (parts : List Component) → AreKept parts (length parts) → (platforms : List platform.Platform) → platforms_of (headers_in parts) ≡ platforms
    → Outcome parts (if length platforms == 0 then Some (fault_in (length (headers_in parts)) NoPlatform) else None)
unfolding Outcome
at_end parts kept [] none = inr (record { kept = kept; none = none; same = ap (λ n. fault_in n NoPlatform) (counted parts) })
at_end parts kept (p ∷ ps) some =
    subst (λ b. Outcome parts (if b then Some (fault_in (length (headers_in parts)) NoPlatform) else None))
    (sym (eqb-suc-zero (length ps))) (record { kept = kept; platform = omega (arith, ap length some) })

-- the components before are kept, and those that are left are judged
walk : (parts done left : List Component) → done ++ left ≡ parts → AreKept parts (length done) → Outcome parts (fault_behind (headers_in done) left)
unfolding Outcome fault_behind
walk parts done [] all kept =
    let whole : done ≡ parts = sym (append-nil done) ∙ all in
    subst (λ ps. Outcome parts (end_fault (headers_in ps))) (sym whole)
    (at_end parts (subst (λ ps. AreKept parts (length ps)) whole kept) (platforms_of (headers_in parts)) refl)
walk parts done (c ∷ cs) all kept =
    cases (component_fault (seen_of (headers_in done)) c) refl
    (λ good.
    let more : AreKept parts (length (done ++ c ∷ [])) =
    subst (AreKept parts) (sym (length-append done (c ∷ []))) (below_more (λ k. broken_at parts k ≡ None) (length done) kept (here ∙ good)) in
    subst (λ hs. Outcome parts (fault_behind hs cs)) (map-append (λ (d : Component). d.header) done (c ∷ []))
    (walk parts (done ++ c ∷ []) cs (append_assoc done (c ∷ []) cs ∙ all) more))
  where
    here : broken_at parts (length done) ≡ component_fault (seen_of (headers_in done)) c
    here = ap (λ ps. broken_at ps (length done)) (sym all) ∙ broken_between done c cs

    cases : (found : Option ReadWhat) → component_fault (seen_of (headers_in done)) c ≡ found
        → (component_fault (seen_of (headers_in done)) c ≡ None → Outcome parts (fault_behind (headers_in done ++ c.header ∷ []) cs))
        → Outcome parts (unless_broken (length (headers_in done)) found (fault_behind (headers_in done ++ c.header ∷ []) cs))
    cases None same later = later same
    cases (Some what) same later =
        subst (λ n. IsFirstFault parts (fault_in n what)) (sym (counted done)) (inl (record { before = kept; breaks = here ∙ same }))

outcome : (parts : List Component) → Outcome parts (list_fault parts)
outcome parts = walk parts [] parts refl (λ k less. absurd (omega arith))

-- ---- and no other

-- a place where a rule is broken has a component, and stands in no kept part
within : (parts : List Component) (place : ℕ) (what : ReadWhat) → broken_at parts place ≡ Some what → place < length parts
within parts place what breaks = found (slice_get parts place) refl breaks
  where
    found : (c : Option Component) → slice_get parts place ≡ c
        → option_and_then (component_fault (seen_of (headers_in (take place parts)))) c ≡ Some what → place < length parts
    found None none told = cc
    found (Some c) here told = slice_get_within parts place c here

past_kept : (parts : List Component) (n place : ℕ) (what : ReadWhat) → AreKept parts n → broken_at parts place ≡ Some what → n ≤ place
past_kept parts n place what kept breaks = order (nat_lt place n) refl
  where
    apart : None ≡ Some what → ⊥
    apart same = cc

    order : (b : Bool) → nat_lt place n ≡ b → n ≤ place
    order true less = absurd (apart (sym (kept place (ltb-true place n less)) ∙ breaks))
    order false past = ltb-false place n past

one_fault : (parts : List Component) (f g : ListFault) → IsFirstFault parts f → IsFirstFault parts g → f ≡ g
one_fault parts f g (inl first) (inl second) =
    let place : f.place ≡ g.place =
    omega (arith, past_kept parts g.place f.place f.what second.before first.breaks, past_kept parts f.place g.place g.what first.before second.breaks) in
    let what : Some f.what ≡ Some g.what = sym first.breaks ∙ ap (broken_at parts) place ∙ second.breaks in
    let same : f.what ≡ g.what = cc in
    λ i. record { place = place i; what = same i }
one_fault parts f g (inl first) (inr second) =
    absurd (omega (arith, within parts f.place f.what first.breaks, past_kept parts (length parts) f.place f.what second.kept first.breaks))
one_fault parts f g (inr first) (inl second) =
    absurd (omega (arith, within parts g.place g.what second.breaks, past_kept parts (length parts) g.place g.what first.kept second.breaks))
one_fault parts f g (inr first) (inr second) = first.same ∙ sym second.same

no_fault : (parts : List Component) (f : ListFault) → IsFirstFault parts f → KeepsRules parts → ⊥
no_fault parts f (inl first) keeps =
    omega (arith, within parts f.place f.what first.breaks, past_kept parts (length parts) f.place f.what keeps.kept first.breaks)
no_fault parts f (inr first) keeps = omega (arith, ap length first.none, keeps.platform)

pub first_fault_is : (parts : List Component) (fault : ListFault) → (list_fault parts ≡ Some fault) ↔ IsFirstFault parts fault
unfolding Outcome
first_fault_is parts fault = (λ same. subst (Outcome parts) same (outcome parts), back (list_fault parts) (outcome parts))
  where
    back : (found : Option ListFault) → Outcome parts found → IsFirstFault parts fault → found ≡ Some fault
    back None keeps first = absurd (no_fault parts fault first keeps)
    back (Some other) first second = ap (λ f. Some f) (one_fault parts other fault first second)

pub no_fault_is : (parts : List Component) → (list_fault parts ≡ None) ↔ KeepsRules parts
unfolding Outcome
no_fault_is parts = (λ same. subst (Outcome parts) same (outcome parts), back (list_fault parts) (outcome parts))
  where
    back : (found : Option ListFault) → Outcome parts found → KeepsRules parts → found ≡ None
    back None first keeps = refl
    back (Some fault) first keeps = absurd (no_fault parts fault first keeps)
