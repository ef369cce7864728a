-- Fields that are read one after another, and what is read is a VMSA.
use Rattle.std.proofs.Common.{◌≡◌, ◌≤◌, ◌<◌, ◌+◌, ◌&&◌, ℕ, zero, suc, List, [], ◌∷◌, ◌++◌, true, false, not, cond, nat_lt, nat_le, length, get_or, take, drop, set, refl, sym, ap, ap₂, ◌∙◌, subst, arith, Option, Some, None, option_and_then, Ok, Err, Result, ok_or, IfSome, replicate, codes, append_assoc, inl, inr}
use Rattle.std.proofs.Math.Seq.{drop-cons, take-suc-set}
use Rattle.std.specs.List.{AllByRecursion}
use Rattle.std.proofs.lemmas.Bool.{and_parts, cases_lt, lt-ltb, leb-true, ltb-true}
use Rattle.std.proofs.lemmas.Bool.Decides.{nat_tests}
use Rattle.serde_json.specs.Data.{Data, Items, no_items, item}
use Rattle.vmsa_page.proofs.Booleans.{bool_cases, not_true}
use Rattle.vmsa_page.specs.declared.other_byte.OtherByte.{OtherByte}
use Rattle.vmsa_page.specs.Fields.{is_named}
use Rattle.vmsa_page.specs.Vmsas.{IsSegment, AreOther, is_placed}
use Rattle.vmsa_page.specs.Texts.{zero_segment}
use Rattle.serde_json.specs.Find.{get, as_array, as_number, as_u64}
use Rattle.json_forms.specs.Forms.{optional, or_default, below, byte, short, required, has_only}
use Rattle.vmsa_page.specs.Fields.{Field}
use Rattle.vmsa_page.specs.declared.refusal.VmsaRefusal.{VmsaRefusal}
use Rattle.vmsa_page.specs.declared.refusal.VmsaRefusal.TheVariants as refusal
use Rattle.json_forms.specs.Bind.{◌>>=◌}
use Rattle.vmsa_page.specs.Sources.{all_at, pair_from, other_form, other_from, and_rest, others_in, others_of, others_form}

-- what was read before, and what is read of the rest
abbrev pub with_front : {A : Type 0} → List A → Result (List A) VmsaRefusal → Result (List A) VmsaRefusal
with_front front (Ok rest) = Ok (front ++ rest)
with_front front (Err e) = Err e

front_twice : {A : Type 0} (front : List A) (x : A) (rest : Result (List A) VmsaRefusal) → with_front front (rest >>= λ xs. Ok (x ∷ xs)) ≡ with_front (front ++ x ∷ []) rest
front_twice front x (Ok xs) = ap (λ l. Ok l) (sym (append_assoc front (x ∷ []) xs))
front_twice front x (Err e) = refl

pub no_front : {A : Type 0} (rest : Result (List A) VmsaRefusal) → with_front [] rest ≡ rest
no_front (Ok xs) = refl
no_front (Err e) = refl

module _ {A : Type 0} (form : Data → Option A) (default : A) (json : Data) where
  at_field : (fs : List Field) (i place : ℕ) (d : Field) → i < length fs
      → all_at form default json place (drop i fs) ≡ (ok_or (optional form default (get_or fs i d).name json) (refusal.Field place) >>= λ first. all_at form default json (suc place) (drop (suc i) fs) >>= λ rest. Ok (first ∷ rest))
  at_field fs i place d below = ap (all_at form default json place) (drop-cons fs i d below)

  -- a field that was read goes behind those before
  pub one_read : (fs : List Field) (i place next after : ℕ) (d : Field) (x : A) (key : List ℕ) (xs : List A) (whole : Result (List A) VmsaRefusal) → i < length fs → i < length xs → next ≡ i + 1 → after ≡ place + 1 → key ≡ (get_or fs i d).name
      → optional form default key json ≡ Some x → with_front (take i xs) (all_at form default json place (drop i fs)) ≡ whole → with_front (take next (set xs i x)) (all_at form default json after (drop next fs)) ≡ whole
  one_read fs i place next after d x key xs whole below there up on named is same =
      let got : ok_or (optional form default (get_or fs i d).name json) (refusal.Field place) ≡ Ok x = ap (λ k. ok_or (optional form default k json) (refusal.Field place)) (sym named) ∙ ap (λ o. ok_or o (refusal.Field place)) is in
      let step = at_field fs i place d below ∙ ap (λ r. r >>= λ first. all_at form default json (suc place) (drop (suc i) fs) >>= λ rest. Ok (first ∷ rest)) got in
      let here : suc i ≡ next = omega (arith, up) in
      let more : suc place ≡ after = omega (arith, on) in
      let core : with_front (take (suc i) (set xs i x)) (all_at form default json (suc place) (drop (suc i) fs)) ≡ whole =
      ap (λ front. with_front front (all_at form default json (suc place) (drop (suc i) fs))) (take-suc-set xs i x there) ∙ sym (front_twice (take i xs) x (all_at form default json (suc place) (drop (suc i) fs))) ∙ ap (with_front (take i xs)) (sym step) ∙ same in
      ap₂ (λ (n p : ℕ). with_front (take n (set xs i x)) (all_at form default json p (drop n fs))) (sym here) (sym more) ∙ core

  -- one that fails is the refusal of all
  pub one_refused : (fs : List Field) (i place : ℕ) (d : Field) (key : List ℕ) (front : List A) (whole : Result (List A) VmsaRefusal) → i < length fs → key ≡ (get_or fs i d).name → optional form default key json ≡ None
      → with_front front (all_at form default json place (drop i fs)) ≡ whole → whole ≡ Err (refusal.Field place)
  one_refused fs i place d key front whole below named is same =
      let got : ok_or (optional form default (get_or fs i d).name json) (refusal.Field place) ≡ Err (refusal.Field place) = ap (λ k. ok_or (optional form default k json) (refusal.Field place)) (sym named) ∙ ap (λ o. ok_or o (refusal.Field place)) is in
      sym same ∙ ap (with_front front) (at_field fs i place d below ∙ ap (λ r. r >>= λ first. all_at form default json (suc place) (drop (suc i) fs) >>= λ rest. Ok (first ∷ rest)) got)

-- ---- what is read is a VMSA

none_some : (m : ℕ) → None ≡ Some m → ⊥
none_some m h = cc

number_same : (n m : ℕ) → Some n ≡ Some m → n ≡ m
number_same n m h = cc

no_other : (o : OtherByte) → None ≡ Some o → ⊥
no_other o h = cc

other_is : (x o : OtherByte) → Some x ≡ Some o → x ≡ o
other_is x o h = cc

list_is : (x o : List OtherByte) → Some x ≡ Some o → x ≡ o
list_is x o h = cc

other_same : (at b : ℕ) (o : OtherByte) → Some (record { at = at; byte = b }) ≡ Some o → Some b ≡ Some o.byte
other_same at b o h = ap (λ (x : OtherByte). Some x.byte) (other_is (record { at = at; byte = b }) o h)

-- zeros are segments
pub zeros_fit : (n : ℕ) → AllByRecursion IsSegment (replicate n zero_segment)
zeros_fit zero = tt
zeros_fit (suc n) = (record { selector = omega arith; attributes = omega arith; limit = omega arith; base = omega arith }, zeros_fit n)

pub all_set : {A : Type 0} (P : A → Type 0) (xs : List A) (k : ℕ) (x : A) → AllByRecursion P xs → P x → AllByRecursion P (set xs k x)
all_set P [] k x h good = h
all_set P (y ∷ xs) zero x h good = (good, h.1)
all_set P (y ∷ xs) (suc k) x h good = (h.0, all_set P xs k x h.1 good)

pub some_holds : {A : Type 0} (P : A → Type 0) (o : Option A) (x : A) → o ≡ Some x → IfSome o P → P x
some_holds P None x is h = absurd cc
some_holds P (Some y) x is h = let same : y ≡ x = cc in subst P same h

below_holds : (bound n m : ℕ) → below bound n ≡ Some m → m < bound
below_holds bound n m h = elim (cases_lt n bound) [
  | inl small ↦ let same : n ≡ m = number_same n m (sym (rw (lt-ltb n bound small) refl) ∙ h) in omega (arith, same, small)
  | inr large ↦ let test : nat_lt n bound ≡ false = grind (arith, nat_tests) in absurd (none_some m (sym (ap (λ b. cond b (Some n) None) test) ∙ h))
]

number_below_holds : (bound : ℕ) (o : Option ℕ) (m : ℕ) → option_and_then (below bound) o ≡ Some m → m < bound
number_below_holds bound None m h = absurd (none_some m h)
number_below_holds bound (Some n) m h = below_holds bound n m h

pair_holds : (at b : Option ℕ) (o : OtherByte) → pair_from at b ≡ Some o → b ≡ Some o.byte
pair_holds None b o h = absurd cc
pair_holds (Some at) None o h = absurd cc
pair_holds (Some at) (Some b) o h = other_same at b o h

byte_holds : (o : Option Data) (m : ℕ) → option_and_then byte o ≡ Some m → m < 256
byte_holds None m h = absurd (none_some m h)
byte_holds (Some d) m h = number_below_holds 256 (option_and_then as_u64 (as_number d)) m h

-- the byte of an entry is below 256
form_holds : (d : Data) (o : OtherByte) → other_form d ≡ Some o → o.byte < 256
unfolding other_form
form_holds d o h = elim (bool_cases (has_only (codes "at" ∷ codes "byte" ∷ []) d)) [
  | inl only ↦ byte_holds (get (codes "byte") d) o.byte (pair_holds (required short (codes "at") d) (required byte (codes "byte") d) o (sym (ap (λ b. cond b (pair_from (required short (codes "at") d) (required byte (codes "byte") d)) None) only) ∙ h))
  | inr more ↦ absurd (no_other o (sym (ap (λ b. cond b (pair_from (required short (codes "at") d) (required byte (codes "byte") d)) None) more) ∙ h))
]

from_holds : (low : ℕ) (f : Option OtherByte) (o : OtherByte) → option_and_then (λ x. cond (is_placed low x) (Some x) None) f ≡ Some o → (f ≡ Some o) × (is_placed low o ≡ true)
from_holds low None o h = absurd (no_other o h)
from_holds low (Some x) o h = elim (bool_cases (is_placed low x)) [
  | inl fits ↦ let same : x ≡ o = other_is x o (sym (ap (λ b. cond b (Some x) None) fits) ∙ h) in (ap (λ y. Some y) same, sym (ap (is_placed low) same) ∙ fits)
  | inr isnt ↦ absurd (no_other o (sym (ap (λ b. cond b (Some x) None) isnt) ∙ h))
]

rest_holds : (o : OtherByte) (r : Option (List OtherByte)) (os : List OtherByte) → and_rest o r ≡ Some os → (more : List OtherByte) × (r ≡ Some more) × (o ∷ more ≡ os)
rest_holds o None os h = absurd cc
rest_holds o (Some more) os h = (more, refl, list_is (o ∷ more) os h)

fits_parts : (low : ℕ) (o : OtherByte) → is_placed low o ≡ true → (low ≤ o.at) × (o.at < 4096) × (is_named o.at ≡ false) × (0 < o.byte)
fits_parts low o h =
    let a = and_parts (nat_le low o.at && nat_lt o.at 4096 && not (is_named o.at)) (nat_lt 0 o.byte) h in
    let b = and_parts (nat_le low o.at && nat_lt o.at 4096) (not (is_named o.at)) a.0 in
    let c = and_parts (nat_le low o.at) (nat_lt o.at 4096) b.0 in
    (leb-true low o.at c.0, ltb-true o.at 4096 c.1, not_true (is_named o.at) b.1, ltb-true 0 o.byte a.1)

others_one : (low : ℕ) (f : Option OtherByte) (json : Data) (entries : Items) (os : List OtherByte) → f ≡ other_from low json → option_and_then (λ x. and_rest x (others_in (x.at + 1) entries)) f ≡ Some os
    → ((o : OtherByte) (more : List OtherByte) → others_in (o.at + 1) entries ≡ Some more → AreOther (o.at + 1) more) → AreOther low os
others_one low None json entries os is h later = absurd cc
others_one low (Some o) json entries os is h later =
    let r = rest_holds o (others_in (o.at + 1) entries) os h in
    let f = from_holds low (other_form json) o (sym is) in
    let p = fits_parts low o f.1 in
    subst (AreOther low) r.2 (p.0, p.1, p.2, p.3, form_holds json o f.0, later o r.0 r.1)

-- what is read of entries is other bytes
pub others_hold : (low : ℕ) (entries : Items) (os : List OtherByte) → others_in low entries ≡ Some os → AreOther low os
others_hold low no_items os h = subst (AreOther low) (list_is [] os h) tt
others_hold low (item json entries) os h = others_one low (other_from low json) json entries os refl h (λ o more. others_hold (o.at + 1) entries more)

array_holds : (o : Option Items) (os : List OtherByte) → others_of o ≡ Some os → AreOther 0 os
array_holds None os h = absurd cc
array_holds (Some entries) os h = others_hold 0 entries os h

pub default_holds : (found : Option Data) (os : List OtherByte) → or_default others_form [] found ≡ Some os → AreOther 0 os
default_holds None os h = subst (AreOther 0) (list_is [] os h) tt
default_holds (Some json) os h = array_holds (as_array json) os h
