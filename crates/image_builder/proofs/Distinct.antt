-- Contents that are taken in one after the other are the distinct ones.
use Rattle.std.proofs.Common.{◌≡◌, ℕ, List, [], ◌∷◌, ◌++◌, refl, sym, ◌∙◌, ap, fold, append-nil, append_assoc, Bool, true, false, not, ◌||◌, bytes_eq}
use Rattle.std.specs.Prelude.{filter, if◌then◌else◌}
use Rattle.std.specs.Cmp.Lexicographic.{bytes_decides, nat_list_eq_equiv}
use Rattle.std.proofs.lemmas.List.Elements.{filter-append}
use Rattle.image_builder.specs.DistinctContents.{differs, distinct}
use Rattle.image_builder.specs.ContentIndex.{is_kept, kept_with}

same : (xs ys : List ℕ) → bytes_eq xs ys ≡ true → xs ≡ ys
same xs ys told = (bytes_decides xs ys).0 told

-- a content that is none of those taken out is among the others as before
among_step : (bytes xs ys : List ℕ) (kept rest : List (List ℕ)) (b : Bool) → bytes_eq xs ys ≡ b → bytes_eq bytes xs ≡ false
    → is_kept bytes rest ≡ is_kept bytes kept
    → is_kept bytes (if not b then ys ∷ rest else rest) ≡ (bytes_eq bytes ys || is_kept bytes kept)
among_step bytes xs ys kept rest true told other more =
    let apart : bytes_eq bytes ys ≡ false = ap (λ zs. bytes_eq bytes zs) (sym (same xs ys told)) ∙ other in
    more ∙ ap (λ c. c || is_kept bytes kept) (sym apart)
among_step bytes xs ys kept rest false told other more = ap (λ c. bytes_eq bytes ys || c) more

pub kept_among : (bytes xs : List ℕ) (kept : List (List ℕ)) → bytes_eq bytes xs ≡ false → is_kept bytes (filter (differs xs) kept) ≡ is_kept bytes kept
kept_among bytes xs [] other = refl
kept_among bytes xs (ys ∷ kept) other =
    among_step bytes xs ys kept (filter (differs xs) kept) (bytes_eq xs ys) refl other (kept_among bytes xs kept other)

-- one content behind the others, where it is equal to the first
behind_same : (xs bytes : List ℕ) (others : List (List ℕ)) (b : Bool) → bytes_eq bytes xs ≡ true
    → xs ∷ filter (differs xs) (if b then others else others ++ bytes ∷ [])
    ≡ kept_with (xs ∷ filter (differs xs) others) bytes
behind_same xs bytes others b told = taken_out b ∙ sym (ap (λ c. if c || is_kept bytes rest then xs ∷ rest else (xs ∷ rest) ++ bytes ∷ []) told)
  where
    rest : List (List ℕ)
    rest = filter (differs xs) others

    equal : bytes_eq xs bytes ≡ true
    equal = nat_list_eq_equiv.symm xs bytes ∙ told

    out : (rest : List (List ℕ)) → rest ++ filter (differs xs) (bytes ∷ []) ≡ rest ++ []
    out rest = ap (λ c. rest ++ (if not c then bytes ∷ [] else [])) equal

    taken_out : (b : Bool) → xs ∷ filter (differs xs) (if b then others else others ++ bytes ∷ []) ≡ xs ∷ rest
    taken_out true = refl
    taken_out false = ap (λ ks. xs ∷ ks) (filter-append (differs xs) others (bytes ∷ []) ∙ out rest ∙ append-nil rest)

-- and where it is another
behind_other : (xs bytes : List ℕ) (others : List (List ℕ)) (b : Bool) → is_kept bytes others ≡ b → bytes_eq bytes xs ≡ false
    → xs ∷ filter (differs xs) (if b then others else others ++ bytes ∷ [])
    ≡ kept_with (xs ∷ filter (differs xs) others) bytes
behind_other xs bytes others b is other =
    left b
    ∙ sym (ap (λ c. if c then xs ∷ rest else (xs ∷ rest) ++ bytes ∷ []) among)
  where
    rest : List (List ℕ)
    rest = filter (differs xs) others

    unequal : bytes_eq xs bytes ≡ false
    unequal = nat_list_eq_equiv.symm xs bytes ∙ other

    among : (bytes_eq bytes xs || is_kept bytes rest) ≡ b
    among = ap (λ c. c || is_kept bytes rest) other ∙ kept_among bytes xs others other ∙ is

    left : (b : Bool) → xs ∷ filter (differs xs) (if b then others else others ++ bytes ∷ []) ≡ (if b then xs ∷ rest else (xs ∷ rest) ++ bytes ∷ [])
    left true = refl
    left false = ap (λ ks. xs ∷ ks) (filter-append (differs xs) others (bytes ∷ []) ∙ ap (λ c. rest ++ (if not c then bytes ∷ [] else [])) unequal)

behind : (xs bytes : List ℕ) (others : List (List ℕ)) (b : Bool) → bytes_eq bytes xs ≡ b
    → xs ∷ filter (differs xs) (kept_with others bytes) ≡ kept_with (xs ∷ filter (differs xs) others) bytes
behind xs bytes others true told = behind_same xs bytes others (is_kept bytes others) told
behind xs bytes others false told = behind_other xs bytes others (is_kept bytes others) refl told

-- the distinct contents with one more behind
pub distinct-push : (xs : List (List ℕ)) (bytes : List ℕ) → distinct (xs ++ bytes ∷ []) ≡ kept_with (distinct xs) bytes
unfolding distinct
distinct-push [] bytes = refl
distinct-push (x ∷ xs) bytes =
    ap (λ ks. x ∷ filter (differs x) ks) (distinct-push xs bytes) ∙ behind x bytes (distinct xs) (bytes_eq bytes x) refl

-- taken in one after the other
pub distinct-more : (xs ys : List (List ℕ)) → fold kept_with (distinct xs) ys ≡ distinct (xs ++ ys)
distinct-more xs [] = ap distinct (sym (append-nil xs))
distinct-more xs (y ∷ ys) =
    ap (λ ks. fold kept_with ks ys) (sym (distinct-push xs y)) ∙ distinct-more (xs ++ y ∷ []) ys ∙ ap distinct (append_assoc xs (y ∷ []) ys)
