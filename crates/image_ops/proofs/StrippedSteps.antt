-- A list beside what it is stripped to: each component that stays says the same under the platform's mask, and those
-- that go don't count for it.
use Rattle.std.proofs.Common.{◌≡◌, ℕ, List, [], ◌∷◌, map, refl, sym, ◌∙◌, ap, Bool, true, false}
use Rattle.std.specs.Prelude.{if◌then◌else◌, filter, not}
use Rattle.igvm_headers.specs.declared.header.Header.{Header}
use Rattle.igvm_headers.specs.declared.header.Header.TheVariants.{Platform, Policy, Area, Page, Insert, Param, Context, Required, ErrorRange, IdBlock, Carried}
use Rattle.platform_masks.specs.Masks.{applies}
use Rattle.component_list.specs.declared.component.Component.{Component}
use Rattle.list_changes.specs.Changes.{with_mask}
use Rattle.list_changes.proofs.Bits.{IsBit, apart, apart_self}
use Rattle.launch_likeness.proofs.Listed.{all_named, as_placed, changed_part_same, listed, offset_applies, place_of_content}
use Rattle.launch_likeness.proofs.Steps.{AreOld, AreSteps, Both, Gone, IsOld, IsStep, Step, firsts, same_areas, seconds}
use Rattle.image_ops.specs.Stripped.{masked, stays, stripped_parts}
use Rattle.image_ops.proofs.BuiltLists.{AreBeside}

-- ---- a header that stays counts for the platform as before, and one that goes did not

counts_own : (m mask : ℕ) → IsBit m → not (apart mask m) ≡ true → not (apart m m) ≡ not (apart mask m)
counts_own m mask is stay = ap not (apart_self m is) ∙ sym stay

stays_counts : (m : ℕ) → IsBit m → (h : Header) → stays m h ≡ true → applies (with_mask m h) m ≡ applies h m
stays_counts m is (Platform mask highest_vtl kind version shared_gpa) stay = counts_own m mask is stay
stays_counts m is (Policy policy mask) stay = counts_own m mask is stay
stays_counts m is (Page gpa mask offset large unmeasured kind) stay = counts_own m mask is stay
stays_counts m is (Insert gpa mask area) stay = counts_own m mask is stay
stays_counts m is (Context gpa mask offset vp) stay = counts_own m mask is stay
stays_counts m is (Required gpa mask bytes flags) stay = counts_own m mask is stay
stays_counts m is (ErrorRange gpa mask bytes) stay = counts_own m mask is stay
stays_counts m is (IdBlock mask author_enabled ld family_id image_id version guest_svn id_algorithm author_algorithm) stay = counts_own m mask is stay
stays_counts m is (Area bytes area offset) stay = refl
stays_counts m is (Param kind area byte_offset) stay = refl
stays_counts m is (Carried kind length) stay = refl

gone_counts : (m : ℕ) (h : Header) → stays m h ≡ false → applies h m ≡ false
gone_counts m (Area bytes area offset) gone = cc
gone_counts m (Param kind area byte_offset) gone = cc
gone_counts m (Carried kind length) gone = cc
gone_counts m h gone = gone

-- ---- the steps

abbrev pub step_of : ℕ → Component → Step
step_of m c = if stays m c.header then Both (as_placed c) (as_placed (masked m c)) else Gone (as_placed c)

abbrev pub steps_of : ℕ → List Component → List Step
steps_of m cs = map (step_of m) cs

pub first_of_steps : (m : ℕ) (cs : List Component) → firsts (steps_of m cs) ≡ listed cs
first_of_steps m [] = refl
first_of_steps m (c ∷ cs) = cases (stays m c.header) (first_of_steps m cs)
  where
    cases : (b : Bool) → firsts (steps_of m cs) ≡ listed cs
        → firsts ((if b then Both (as_placed c) (as_placed (masked m c)) else Gone (as_placed c)) ∷ steps_of m cs) ≡ as_placed c ∷ listed cs
    cases true others = ap (λ ps. as_placed c ∷ ps) others
    cases false others = ap (λ ps. as_placed c ∷ ps) others

pub second_of_steps : (m : ℕ) (cs : List Component) → seconds (steps_of m cs) ≡ listed (stripped_parts m cs)
unfolding stripped_parts
second_of_steps m [] = refl
second_of_steps m (c ∷ cs) = cases (stays m c.header) (second_of_steps m cs)
  where
    left : List Component
    left = filter (λ (d : Component). stays m d.header) cs

    cases : (b : Bool) → seconds (steps_of m cs) ≡ listed (map (masked m) left)
        → seconds ((if b then Both (as_placed c) (as_placed (masked m c)) else Gone (as_placed c)) ∷ steps_of m cs)
        ≡ listed (map (masked m) (if b then c ∷ left else left))
    cases true others = ap (λ ps. as_placed (masked m c) ∷ ps) others
    cases false others = others

pub are_steps : (m : ℕ) → IsBit m → (cs : List Component) → AreSteps (same_areas m m) (steps_of m cs)
are_steps m is [] = tt
are_steps m is (c ∷ cs) = (cases (stays m c.header) refl, are_steps m is cs)
  where
    cases : (b : Bool) → stays m c.header ≡ b → IsStep (same_areas m m) (if b then Both (as_placed c) (as_placed (masked m c)) else Gone (as_placed c))
    cases true stay = changed_part_same (same_areas m m) (λ old. m) c (stays_counts m is c.header stay) (all_named c.header)
    cases false gone = offset_applies (place_of_content c.content) c.header m ∙ gone_counts m c.header gone

are_old : (m : ℕ) (cs : List Component) → AreOld (steps_of m cs)
are_old m [] = tt
are_old m (c ∷ cs) = (cases (stays m c.header), are_old m cs)
  where
    cases : (b : Bool) → IsOld (if b then Both (as_placed c) (as_placed (masked m c)) else Gone (as_placed c))
    cases true = tt
    cases false = tt

pub stripped_beside : (m : ℕ) → IsBit m → (cs : List Component) → AreBeside m cs (stripped_parts m cs)
stripped_beside m is cs = record {
  steps = steps_of m cs;
  first = first_of_steps m cs;
  second = second_of_steps m cs;
  are = are_steps m is cs;
  olds = are_old m cs;
}
