-- Each content of a list is among those that are kept, and its bytes stand where its place says.
use Rattle.std.proofs.Common.{◌≡◌, ℕ, ◌+◌, ◌≤◌, List, [], ◌∷◌, ◌++◌, length, take, drop, refl, sym, ◌∙◌, ap, arith, Bool, true, false, not, ◌||◌, bytes_eq}
use Rattle.std.specs.Prelude.{if◌then◌else◌, filter, sum_by}
use Rattle.std.specs.List.{concat, AllByRecursion}
use Rattle.std.specs.Cmp.Lexicographic.{bytes_decides, nat_list_eq_equiv}
use Rattle.std.proofs.lemmas.Bool.{or_right}
use Rattle.std.proofs.lemmas.List.{take_at, drop_at, drop-drop, length-take, length-drop}
use Rattle.std.proofs.lemmas.List.Folds.{list_any-append}
use Rattle.component_list.specs.declared.component.Component.{Component}
use Rattle.component_list.specs.declared.component.Content.{Content}
use Rattle.component_list.specs.declared.component.Content.TheVariants.{Nothing, Zero, Bytes}
use Rattle.image_builder.specs.DistinctContents.{stored, contents, differs, distinct, place_of}
use Rattle.image_builder.specs.ContentIndex.{is_kept}
use Rattle.image_builder.specs.Layout.{kept_contents}
use Rattle.image_builder.proofs.Distinct.{kept_among}
use Rattle.image_builder.proofs.Kept.{place_within}
use Rattle.image_builder.proofs.Lengths.{length-concat}

-- what is taken out is equal to one that stays
distinct_step : (bytes x : List ℕ) (kept others : List (List ℕ)) (b : Bool) → bytes_eq bytes x ≡ b → is_kept bytes kept ≡ is_kept bytes others
    → (bytes_eq bytes x || is_kept bytes (filter (differs x) kept)) ≡ (bytes_eq bytes x || is_kept bytes others)
distinct_step bytes x kept others true told more =
    ap (λ c. c || is_kept bytes (filter (differs x) kept)) told ∙ sym (ap (λ c. c || is_kept bytes others) told)
distinct_step bytes x kept others false told more = ap (λ c. bytes_eq bytes x || c) (kept_among bytes x kept told ∙ more)

pub is_kept-distinct : (bytes : List ℕ) (xs : List (List ℕ)) → is_kept bytes (distinct xs) ≡ is_kept bytes xs
unfolding distinct
is_kept-distinct bytes [] = refl
is_kept-distinct bytes (x ∷ xs) = distinct_step bytes x (distinct xs) xs (bytes_eq bytes x) refl (is_kept-distinct bytes xs)

-- a content stands at its place
at_step : (bytes x : List ℕ) (kept : List (List ℕ)) (place : ℕ) (b : Bool) → bytes_eq bytes x ≡ b → (b || is_kept bytes kept) ≡ true
    → (is_kept bytes kept ≡ true → take (length bytes) (drop place (concat kept)) ≡ bytes)
    → take (length bytes) (drop (if not b then length x + place else 0) (x ++ concat kept)) ≡ bytes
at_step bytes x kept place true told is later =
    ap (λ y. take (length bytes) (y ++ concat kept)) (sym ((bytes_decides bytes x).0 told)) ∙ take_at bytes (concat kept) (length bytes) refl
at_step bytes x kept place false told is later =
    ap (take (length bytes)) (sym (drop-drop place (length x) (x ++ concat kept)) ∙ ap (drop place) (drop_at x (concat kept) (length x) refl))
    ∙ later is

pub content_at : (bytes : List ℕ) (kept : List (List ℕ)) → is_kept bytes kept ≡ true
    → take (length bytes) (drop (place_of bytes kept) (concat kept)) ≡ bytes
unfolding place_of
content_at bytes [] is = cc
content_at bytes (x ∷ kept) is = at_step bytes x kept (place_of bytes kept) (bytes_eq bytes x) refl is (content_at bytes kept)

-- and ends within the contents
pub content_ends : (bytes : List ℕ) (kept : List (List ℕ)) → is_kept bytes kept ≡ true → place_of bytes kept + length bytes ≤ sum_by length kept
content_ends bytes kept is =
    let taken = ap length (content_at bytes kept is) in
    omega (arith, taken, length-take (length bytes) (drop (place_of bytes kept) (concat kept)), length-drop (place_of bytes kept) (concat kept), length-concat kept, place_within bytes kept)

-- a content that a file holds is among these
abbrev pub IsAmong : List (List ℕ) → Content → Type 0
IsAmong kept Nothing = Unit {0}
IsAmong kept Zero = Unit {0}
IsAmong kept (Bytes bytes) = is_kept bytes kept ≡ true

among_first : (kept others : List (List ℕ)) (content : Content) → ((bytes : List ℕ) → is_kept bytes (stored content ++ others) ≡ true → is_kept bytes kept ≡ true)
    → IsAmong kept content
among_first kept others Nothing all = tt
among_first kept others Zero all = tt
among_first kept others (Bytes bytes) all = all bytes (ap (λ b. b || is_kept bytes others) (nat_list_eq_equiv.refl bytes))

among_later : (bytes : List ℕ) (others : List (List ℕ)) (content : Content) → is_kept bytes others ≡ true → is_kept bytes (stored content ++ others) ≡ true
among_later bytes others content is =
    list_any-append (bytes_eq bytes) (stored content) others ∙ or_right (is_kept bytes (stored content)) (is_kept bytes others) is

among_all : (kept : List (List ℕ)) (parts : List Component) → ((bytes : List ℕ) → is_kept bytes (contents parts) ≡ true → is_kept bytes kept ≡ true)
    → AllByRecursion (λ c. IsAmong kept c.content) parts
unfolding contents
among_all kept [] all = tt
among_all kept (c ∷ cs) all = (
  among_first kept (contents cs) c.content all,
  among_all kept cs (λ bytes is. all bytes (among_later bytes (contents cs) c.content is)),
)

pub contents_among : (parts : List Component) → AllByRecursion (λ c. IsAmong (kept_contents parts) c.content) parts
contents_among parts = among_all (kept_contents parts) parts (λ bytes is. is_kept-distinct bytes (contents parts) ∙ is)
