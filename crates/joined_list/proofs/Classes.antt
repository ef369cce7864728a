-- The classes of the headers in the three parts of a list.
use Rattle.std.proofs.Common.{◌≡◌, ◌≢◌, ℕ, zero, suc, ◌<◌, ◌≤◌, List, [], ◌∷◌, ◌++◌, length, refl, sym, ◌∙◌, ap, subst, arith, Bool, true, false, ◌⊎◌, inl, inr}
use Rattle.std.specs.Prelude.{if◌then◌else◌, ◌==◌, ◌||◌, ◌&&◌, not, nat_lt, max}
use Rattle.std.specs.List.{list_any, AllByRecursion}
use Rattle.std.proofs.lemmas.Bool.{eqb-true}
use Rattle.igvm_headers.specs.Records.Fields.{is_set}
use Rattle.igvm_headers.specs.declared.header.Header.{Header}
use Rattle.igvm_headers.specs.declared.header.Header.TheVariants.{Platform, Policy, Carried}
use Rattle.igvm_headers.specs.HeaderFacts.{class_of, carried_class}
use Rattle.igvm_image.specs.HeaderRules.{Seen, seen_after}
use Rattle.component_list.specs.declared.component.Component.{Component}
use Rattle.component_list.specs.Components.{is_unknown}
use Rattle.list_changes.proofs.Walks.{Follows, seen_all, keeps_all}
use Rattle.joined_list.specs.Parts.{up_to_last, is_platform, is_initial, first_part, behind_first, second_part, third_part}
use Rattle.joined_list.proofs.EachElement.{all_left, all_right, all_so, both_so}
use Rattle.joined_list.proofs.ThreeParts.{cut_is_whole, in_parts, none_past}
use Rattle.joined_list.proofs.JoinWalk.{IsOf}

pub follows_right : (seen : Seen) (xs ys : List Component) → Follows seen (xs ++ ys) → Follows (seen_all seen xs) ys
follows_right seen [] ys follow = follow
follows_right seen (x ∷ xs) ys follow = follows_right (seen_after seen x.header) xs ys follow.1

pub follows_both : (seen : Seen) (xs ys : List Component) → Follows seen xs → Follows (seen_all seen xs) ys → Follows seen (xs ++ ys)
follows_both seen [] ys first second = second
follows_both seen (x ∷ xs) ys first second = (first.0, follows_both (seen_after seen x.header) xs ys first.1 second)

pub seen_both : (seen : Seen) (xs ys : List Component) → seen_all seen (xs ++ ys) ≡ seen_all (seen_all seen xs) ys
seen_both seen [] ys = refl
seen_both seen (x ∷ xs) ys = seen_both (seen_after seen x.header) xs ys

-- a test that only headers of one class pass
abbrev OfClass : (Header → Bool) → ℕ → Type 0
OfClass test k = (h : Header) → test h ≡ true → class_of h ≡ k

order_at : (class latest : ℕ) → 0 < class → (not (class == 0) && nat_lt class latest) ≡ false → latest ≤ class
order_at class latest some kept = grind arith

-- before a header of a class there is none of a later class
latest_before : (test : Header → Bool) (k : ℕ) → 0 < k → OfClass test k → (seen : Seen) (cs : List Component) → Follows seen cs
    → list_any (λ c. test c.header) cs ≡ true → seen.latest ≤ k
latest_before test k some of seen [] follow found = cc
latest_before test k some of seen (c ∷ cs) follow found =
    cases (test c.header) refl found (latest_before test k some of (seen_after seen c.header) cs follow.1)
  where
    cases : (b : Bool) → test c.header ≡ b → (b || list_any (λ (d : Component). test d.header) cs) ≡ true
        → (list_any (λ (d : Component). test d.header) cs ≡ true → max seen.latest (class_of c.header) ≤ k) → seen.latest ≤ k
    cases true is found behind =
        let class = of c.header is in
        let order = (keeps_all seen c follow.0).rules.order in
        order_at k seen.latest some (ap (λ n. not (n == 0) && nat_lt n seen.latest) (sym class) ∙ order)
    cases false is found behind = (let few = behind found in omega (arith, few))

-- nor in the part up to the last of a class
early : (test : Header → Bool) (k : ℕ) → 0 < k → OfClass test k → (seen : Seen) (cs : List Component) → Follows seen cs
    → AllByRecursion (λ c. class_of c.header ≤ k) (up_to_last test cs)
unfolding up_to_last
early test k some of seen [] follow = tt
early test k some of seen (c ∷ cs) follow =
    cases (test c.header) (list_any (λ (d : Component). test d.header) cs) refl refl (early test k some of (seen_after seen c.header) cs follow.1)
  where
    cases : (b d : Bool) → test c.header ≡ b → list_any (λ (e : Component). test e.header) cs ≡ d
        → AllByRecursion (λ (e : Component). class_of e.header ≤ k) (up_to_last test cs)
        → AllByRecursion (λ (e : Component). class_of e.header ≤ k) (if b || d then c ∷ up_to_last test cs else [])
    cases true d is also behind = ((let class = of c.header is in omega (arith, class)), behind)
    cases false true is also behind =
        ((let few = latest_before test k some of (seen_after seen c.header) cs follow.1 also in omega (arith, few)), behind)
    cases false false is also behind = tt

-- ---- the classes by the headers

platform_class : (h : Header) → is_platform h ≡ true → class_of h ≡ 1
platform_class (Platform mask highest_vtl kind version shared_gpa) is = refl
platform_class h is = cc

by_number : (kind n : ℕ) → carried_class n ≡ 2 → (kind == n) ≡ true → carried_class kind ≡ 2
by_number kind n class is = ap carried_class (eqb-true kind n is) ∙ class

initial_class : (h : Header) → is_initial h ≡ true → class_of h ≡ 2
initial_class (Policy policy mask) is = refl
initial_class (Carried kind length) is = cases (kind == 0x102) refl is
  where
    cases : (b : Bool) → (kind == 0x102) ≡ b → (b || (kind == 0x103)) ≡ true → carried_class kind ≡ 2
    cases true same is = by_number kind 0x102 refl same
    cases false other is = by_number kind 0x103 refl is
initial_class h is = cc

abbrev class_by : Bool → Bool → ℕ
class_by b c = if b then 0 else if c then 3 else 2

class_not_one : (b c : Bool) → class_by b c ≡ 1 → ⊥
class_not_one true c is = omega arith
class_not_one false true is = omega arith
class_not_one false false is = omega arith

not_one : (h : Header) → is_platform h ≡ false → class_of h ≢ 1
not_one (Platform mask highest_vtl kind version shared_gpa) none is = cc
not_one (Policy policy mask) none is = omega arith
not_one (Carried kind length) none is = class_not_one (is_set 31 kind) (kind == 0x311) is
not_one h none is = omega arith

class_not_two : (p q c b : Bool) → not (p || q || c || b) ≡ false → (p || q) ≡ false → class_by b c ≡ 2 → ⊥
class_not_two true q c b known none is = cc
class_not_two false true c b known none is = cc
class_not_two false false true true known none is = omega arith
class_not_two false false true false known none is = omega arith
class_not_two false false false true known none is = omega arith
class_not_two false false false false known none is = cc

not_two : (h : Header) → is_unknown h ≡ false → is_initial h ≡ false → class_of h ≢ 2
not_two (Platform mask highest_vtl kind version shared_gpa) known none is = omega arith
not_two (Policy policy mask) known none is = cc
not_two (Carried kind length) known none is = class_not_two (kind == 0x102) (kind == 0x103) (kind == 0x311) (is_set 31 kind) known none is
not_two h known none is = omega arith

class_at_most : (b c : Bool) → class_by b c ≤ 3
class_at_most true c = omega arith
class_at_most false true = omega arith
class_at_most false false = omega arith

at_most : (h : Header) → class_of h ≤ 3
at_most (Carried kind length) = class_at_most (is_set 31 kind) (kind == 0x311)
at_most (Platform mask highest_vtl kind version shared_gpa) = omega arith
at_most (Policy policy mask) = omega arith
at_most h = omega arith

-- ---- the parts

pub record HasClasses (parts : List Component) : Type 0 where
  pub first : AllByRecursion (λ c. IsOf 1 c.header) (first_part parts)
  pub second : AllByRecursion (λ c. IsOf 2 c.header) (second_part parts)
  pub third : AllByRecursion (λ c. IsOf 3 c.header) (third_part parts)

known_all : (seen : Seen) (cs : List Component) → Follows seen cs → AllByRecursion (λ c. is_unknown c.header ≡ false) cs
known_all seen [] follow = tt
known_all seen (c ∷ cs) follow = ((keeps_all seen c follow.0).known, known_all (seen_after seen c.header) cs follow.1)

of_one : (n : ℕ) → n ≤ 1 → (n ≡ 0) ⊎ (n ≡ 1)
of_one zero few = inl refl
of_one (suc zero) few = inr refl
of_one (suc (suc n)) few = absurd (omega arith)

of_two : (n : ℕ) → n ≤ 2 → n ≢ 1 → (n ≡ 0) ⊎ (n ≡ 2)
of_two zero few other = inl refl
of_two (suc zero) few other = absurd (other refl)
of_two (suc (suc zero)) few other = inr refl
of_two (suc (suc (suc n))) few other = absurd (omega arith)

of_three : (n : ℕ) → n ≤ 3 → n ≢ 1 → n ≢ 2 → (n ≡ 0) ⊎ (n ≡ 3)
of_three zero few other next = inl refl
of_three (suc zero) few other next = absurd (other refl)
of_three (suc (suc zero)) few other next = absurd (next refl)
of_three (suc (suc (suc zero))) few other next = inr refl
of_three (suc (suc (suc (suc n)))) few other next = absurd (omega arith)

pub has_classes : (seen : Seen) (parts : List Component) → Follows seen parts → HasClasses parts
has_classes seen parts follow =
    let whole = sym (cut_is_whole is_platform parts) in
    let behind = follows_right seen (first_part parts) (behind_first parts) (subst (Follows seen) whole follow) in
    let cut = sym (cut_is_whole is_initial (behind_first parts)) in
    let none = subst (AllByRecursion (λ (c : Component). is_platform c.header ≡ false)) cut (none_past is_platform parts) in
    let known = in_parts (λ c. is_unknown c.header ≡ false) parts (known_all seen parts follow) in
    record {
      first = all_so (λ c. class_of c.header ≤ 1) (λ c. IsOf 1 c.header) (λ c few. of_one (class_of c.header) few) (first_part parts)
          (early is_platform 1 (omega arith) platform_class seen parts follow);
      second = both_so (λ c. class_of c.header ≤ 2) (λ c. is_platform c.header ≡ false) (λ c. IsOf 2 c.header)
          (λ c few other. of_two (class_of c.header) few (not_one c.header other)) (second_part parts)
          (early is_initial 2 (omega arith) initial_class (seen_all seen (first_part parts)) (behind_first parts) behind)
          (all_left (λ c. is_platform c.header ≡ false) (second_part parts) (third_part parts) none);
      third = both_so (λ c. is_unknown c.header ≡ false) (λ c. (is_platform c.header ≡ false) × (is_initial c.header ≡ false)) (λ c. IsOf 3 c.header)
          (λ c is both. of_three (class_of c.header) (at_most c.header) (not_one c.header both.0) (not_two c.header is both.1)) (third_part parts)
          known.third
          (both_so (λ c. is_platform c.header ≡ false) (λ c. is_initial c.header ≡ false) (λ c. (is_platform c.header ≡ false) × (is_initial c.header ≡ false)) (λ c p q. (p, q)) (third_part parts)
          (all_right (λ c. is_platform c.header ≡ false) (second_part parts) (third_part parts) none)
          (none_past is_initial (behind_first parts)));
    }
