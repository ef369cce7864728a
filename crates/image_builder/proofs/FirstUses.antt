-- Each content stands once, where it is first used.
use Rattle.std.proofs.Common.{◌≡◌, ◌≢◌, ℕ, zero, suc, ◌+◌, ◌<◌, List, [], ◌∷◌, ◌++◌, length, take, fold, refl, sym, ◌∙◌, ap, arith, append-nil, append_assoc, Some, None, Bool, true, false, ◌||◌, bytes_eq}
use Rattle.std.specs.Prelude.{sum_by, if◌then◌else◌}
use Rattle.std.specs.Cmp.Lexicographic.{bytes_decides, nat_list_eq_equiv}
use Rattle.std.proofs.lemmas.Bool.{or_right}
use Rattle.std.proofs.lemmas.Grind.{flat_map-append}
use Rattle.std.proofs.lemmas.List.Folds.{list_any-append}
use Rattle.component_list.specs.declared.component.Component.{Component}
use Rattle.component_list.specs.declared.component.Content.{Content}
use Rattle.component_list.specs.declared.component.Content.TheVariants.{Nothing, Zero, Bytes}
use Rattle.component_list.specs.Lists.{ImageParts}
use Rattle.igvm_headers.specs.Fixed.{fixed_size}
use Rattle.image_builder.specs.DistinctContents.{stored, contents, distinct, place_of}
use Rattle.image_builder.specs.ContentIndex.{is_kept, kept_with}
use Rattle.image_builder.specs.FirstUse.{bytes_in, bytes_at, IsNew, IsFirst}
use Rattle.image_builder.specs.Layout.{data_start, kept_contents, offset_among, section_size}
use Rattle.image_builder.proofs.Distinct.{distinct-push, distinct-more}
use Rattle.image_builder.proofs.Kept.{kept_already, kept_more, place_behind}
use Rattle.image_builder.proofs.Places.{contents-push}
use Rattle.image_builder.proofs.ReadBackContents.{is_kept-distinct}

-- ---- which bytes are among the contents

kept_or : (bytes : List ℕ) (c : Component) (cs : List Component)
    → is_kept bytes (contents (c ∷ cs)) ≡ (is_kept bytes (stored c.content) || is_kept bytes (contents cs))
unfolding contents
kept_or bytes c cs = list_any-append (bytes_eq bytes) (stored c.content) (contents cs)

own_kept : (bytes : List ℕ) (content : Content) (others : Bool) → bytes_in content ≡ Some bytes → (is_kept bytes (stored content) || others) ≡ true
own_kept bytes Nothing others has = cc
own_kept bytes Zero others has = cc
own_kept bytes (Bytes own) others has =
    let inside : own ≡ bytes = cc in
    ap (λ b. (b || false) || others) (ap (bytes_eq bytes) inside ∙ nat_list_eq_equiv.refl bytes)

pub used_kept : (bytes : List ℕ) (parts : List Component) (k : ℕ) → bytes_at parts k ≡ Some bytes → is_kept bytes (contents parts) ≡ true
used_kept bytes [] k has = cc
used_kept bytes (c ∷ cs) zero has = kept_or bytes c cs ∙ own_kept bytes c.content (is_kept bytes (contents cs)) has
used_kept bytes (c ∷ cs) (suc k) has =
    kept_or bytes c cs ∙ or_right (is_kept bytes (stored c.content)) (is_kept bytes (contents cs)) (used_kept bytes cs k has)

own_new : (bytes : List ℕ) (content : Content) (others : Bool) → bytes_in content ≢ Some bytes → others ≡ false
    → (is_kept bytes (stored content) || others) ≡ false
own_new bytes Nothing others new none = none
own_new bytes Zero others new none = none
own_new bytes (Bytes own) others new none = cases (bytes_eq bytes own) refl
  where
    cases : (b : Bool) → bytes_eq bytes own ≡ b → ((b || false) || others) ≡ false
    cases true same = absurd (new (ap (λ xs. Some xs) (sym ((bytes_decides bytes own).0 same))))
    cases false other = none

pub new_kept : (bytes : List ℕ) (parts : List Component) → IsNew parts bytes → is_kept bytes (contents parts) ≡ false
unfolding contents
new_kept bytes [] new = refl
new_kept bytes (c ∷ cs) new =
    kept_or bytes c cs
    ∙ own_new bytes c.content (is_kept bytes (contents cs)) (new 0) (new_kept bytes cs (λ k has. new (suc k) has))

-- ---- one component more

without_bytes : (content : Content) → bytes_in content ≡ None → stored content ≡ []
without_bytes Nothing none = refl
without_bytes Zero none = refl
without_bytes (Bytes bytes) none = cc

with_bytes : (content : Content) (bytes : List ℕ) → bytes_in content ≡ Some bytes → stored content ≡ bytes ∷ []
with_bytes Nothing bytes has = cc
with_bytes Zero bytes has = cc
with_bytes (Bytes own) bytes has = let inside : own ≡ bytes = cc in ap (λ xs. xs ∷ []) inside

pub nothing_more : (parts : List Component) (c : Component) → bytes_in c.content ≡ None → kept_contents (parts ++ c ∷ []) ≡ kept_contents parts
nothing_more parts c none =
    ap distinct (contents-push parts c ∙ ap (λ xs. contents parts ++ xs) (without_bytes c.content none) ∙ append-nil (contents parts))

pushed : (parts : List Component) (c : Component) (bytes : List ℕ) → bytes_in c.content ≡ Some bytes
    → kept_contents (parts ++ c ∷ []) ≡ kept_with (kept_contents parts) bytes
pushed parts c bytes has =
    ap distinct (contents-push parts c ∙ ap (λ xs. contents parts ++ xs) (with_bytes c.content bytes has)) ∙ distinct-push (contents parts) bytes

pub used_again : (parts : List Component) (c : Component) (bytes : List ℕ) (k : ℕ) → bytes_in c.content ≡ Some bytes → bytes_at parts k ≡ Some bytes
    → kept_contents (parts ++ c ∷ []) ≡ kept_contents parts
used_again parts c bytes k has there =
    pushed parts c bytes has ∙ sym (kept_already bytes (kept_contents parts) (is_kept-distinct bytes (contents parts) ∙ used_kept bytes parts k there))

pub first_used : (parts : List Component) (c : Component) (bytes : List ℕ) → bytes_in c.content ≡ Some bytes → IsNew parts bytes
    → kept_contents (parts ++ c ∷ []) ≡ kept_contents parts ++ bytes ∷ []
first_used parts c bytes has new =
    pushed parts c bytes has ∙ sym (kept_more bytes (kept_contents parts) (is_kept-distinct bytes (contents parts) ∙ new_kept bytes parts new))

-- ---- where a content stands

-- a row that takes contents in only grows at its end
record Grows (old now : List (List ℕ)) : Type 0 where
  pub more : List (List ℕ)
  pub is : now ≡ old ++ more

grown : (kept : List (List ℕ)) (bytes : List ℕ) (b : Bool) → Grows kept (if b then kept else kept ++ bytes ∷ [])
grown kept bytes true = record { more = []; is = sym (append-nil kept) }
grown kept bytes false = record { more = bytes ∷ []; is = refl }

grows : (kept xs : List (List ℕ)) → Grows kept (fold kept_with kept xs)
grows kept [] = record { more = []; is = sym (append-nil kept) }
grows kept (x ∷ xs) =
    let first = grown kept x (is_kept x kept) in
    let later = grows (kept_with kept x) xs in
    record { more = first.more ++ later.more; is = later.is ∙ ap (λ ks. ks ++ later.more) first.is ∙ append_assoc kept first.more later.more }

-- a list around the component at a place
record Around (parts : List Component) (bytes : List ℕ) (place : ℕ) : Type 0 where
  pub c : Component
  pub rest : List Component
  pub all : parts ≡ (take place parts ++ c ∷ []) ++ rest
  pub has : bytes_in c.content ≡ Some bytes

around : (parts : List Component) (bytes : List ℕ) (place : ℕ) → bytes_at parts place ≡ Some bytes → Around parts bytes place
around [] bytes place has = cc
around (c ∷ cs) bytes zero has = record { c = c; rest = cs; all = refl; has = has }
around (c ∷ cs) bytes (suc place) has =
    let later = around cs bytes place has in
    record { c = later.c; rest = later.rest; all = ap (λ ps. c ∷ ps) later.all; has = later.has }

-- no component before the first has its bytes
new_before : (parts : List Component) (bytes : List ℕ) (place : ℕ) → ((k : ℕ) → k < place → bytes_at parts k ≢ Some bytes) → IsNew (take place parts) bytes
new_before [] bytes zero before k has = cc
new_before [] bytes (suc place) before k has = cc
new_before (c ∷ cs) bytes zero before k has = cc
new_before (c ∷ cs) bytes (suc place) before zero has = before 0 (omega arith) has
new_before (c ∷ cs) bytes (suc place) before (suc k) has =
    new_before cs bytes place (λ n less there. before (suc n) (omega arith) there) k has

contents_joined : (xs ys : List Component) → contents (xs ++ ys) ≡ contents xs ++ contents ys
unfolding contents
contents_joined xs ys = flat_map-append (λ (c : Component). stored c.content) xs ys

pub first_place : (parts : List Component) (bytes : List ℕ) (place : ℕ) → IsFirst parts bytes place
    → place_of bytes (kept_contents parts) ≡ sum_by length (kept_contents (take place parts))
first_place parts bytes place first =
    let before = take place parts in
    let kept = kept_contents before in
    let a = around parts bytes place first.has in
    let new = new_before parts bytes place first.before in
    let front : kept_contents (before ++ a.c ∷ []) ≡ kept ++ bytes ∷ [] = first_used before a.c bytes a.has new in
    let more = grows (kept ++ bytes ∷ []) (contents a.rest) in
    let split : contents parts ≡ contents (before ++ a.c ∷ []) ++ contents a.rest = ap contents a.all ∙ contents_joined (before ++ a.c ∷ []) a.rest in
    let all : kept_contents parts ≡ (kept ++ bytes ∷ []) ++ more.more =
    ap distinct split
    ∙ sym (distinct-more (contents (before ++ a.c ∷ [])) (contents a.rest))
    ∙ ap (λ ks. fold kept_with ks (contents a.rest)) front
    ∙ more.is in
    let none : is_kept bytes kept ≡ false = is_kept-distinct bytes (contents before) ∙ new_kept bytes before new in
    ap (place_of bytes) all ∙ place_behind bytes kept more.more none

pub first_offset : (list : ImageParts) (bytes : List ℕ) (place : ℕ) → IsFirst list.parts bytes place
    → offset_among (data_start list) (kept_contents list.parts) (Bytes bytes)
    ≡ fixed_size list.version + section_size list.parts + sum_by length (kept_contents (take place list.parts))
first_offset list bytes place first = ap (λ n. data_start list + n) (first_place list.parts bytes place first)
