-- Contents that are kept one after the other are the distinct ones, and each stays where it is.
use Rattle.std.proofs.Common.{◌≡◌, ℕ, ◌+◌, ◌≤◌, List, [], ◌∷◌, ◌++◌, length, refl, sym, ◌∙◌, ap, arith, append-nil, Bool, true, false, not, ◌||◌, bytes_eq, Some, None, Bor}
use Rattle.std.specs.Prelude.{if◌then◌else◌, sum_by}
use Rattle.std.specs.Ordering.{nat_cmp}
use Rattle.std.specs.BTreeMap.{BTreeMap, get_by, UpdatesBy}
use Rattle.std.specs.Cmp.Lexicographic.{slice_cmp, bytes_decides, nat_list_eq_equiv}
use Rattle.std.proofs.lemmas.Map.Text.{btree_map_updates_str}
use Rattle.std.proofs.lemmas.List.Sums.{sum_by-cons, sum_by_push}
use Rattle.std.proofs.lemmas.List.Folds.{list_any-append}
use Rattle.image_builder.specs.DistinctContents.{place_of}
use Rattle.image_builder.specs.ContentIndex.{is_kept, kept_with, saturated, place_in, IsIndex}

-- the test of two contents, where it has told
same : (xs ys : List ℕ) → bytes_eq xs ys ≡ true → xs ≡ ys
same xs ys told = (bytes_decides xs ys).0 told

itself : (xs : List ℕ) → bytes_eq xs xs ≡ true
itself xs = nat_list_eq_equiv.refl xs

-- a content that stands among others has its place there, whatever follows
stays_step : (n p q : ℕ) (b c : Bool) → (c ≡ true → p ≡ q) → (b || c) ≡ true → (if not b then n + p else 0) ≡ (if not b then n + q else 0)
stays_step n p q true c more h = refl
stays_step n p q false c more h = ap (λ k. n + k) (more h)

pub place_stays : (bytes : List ℕ) (kept more : List (List ℕ)) → is_kept bytes kept ≡ true → place_of bytes (kept ++ more) ≡ place_of bytes kept
unfolding place_of
place_stays bytes [] more is = cc
place_stays bytes (xs ∷ kept) more is = stays_step _ _ _ (bytes_eq bytes xs) _ (place_stays bytes kept more) is

-- a content that is new stands behind all others, whatever follows
behind_step : (n p q : ℕ) (b c : Bool) → (c ≡ false → p ≡ q) → (b || c) ≡ false → (if not b then n + p else 0) ≡ n + q
behind_step n p q true c more h = cc
behind_step n p q false c more h = ap (λ k. n + k) (more h)

pub place_behind : (bytes : List ℕ) (kept more : List (List ℕ)) → is_kept bytes kept ≡ false
    → place_of bytes ((kept ++ bytes ∷ []) ++ more) ≡ sum_by length kept
unfolding place_of
place_behind bytes [] more new = ap (λ b. if not b then length bytes + place_of bytes more else 0) (itself bytes)
place_behind bytes (xs ∷ kept) more new =
    behind_step _ _ _ (bytes_eq bytes xs) _ (place_behind bytes kept more) new ∙ sym (sum_by-cons length xs kept)

-- a place is within the contents
within_step : (n p q : ℕ) (b : Bool) → p ≤ q → (if not b then n + p else 0) ≤ n + q
within_step n p q true h = omega arith
within_step n p q false h = omega arith

pub place_within : (bytes : List ℕ) (kept : List (List ℕ)) → place_of bytes kept ≤ sum_by length kept
unfolding place_of
place_within bytes [] = omega arith
place_within bytes (xs ∷ kept) =
    let step = within_step (length xs) _ _ (bytes_eq bytes xs) (place_within bytes kept) in
    omega (arith, step, sum_by-cons length xs kept)

-- one content behind the others
pub kept-push : (q bytes : List ℕ) (kept : List (List ℕ)) → is_kept q (kept ++ bytes ∷ []) ≡ (is_kept q kept || bytes_eq q bytes)
kept-push q bytes kept = list_any-append (bytes_eq q) kept (bytes ∷ []) ∙ ap (λ b. is_kept q kept || b) (or_false (bytes_eq q bytes))
  where
    or_false : (b : Bool) → (b || false) ≡ b
    or_false true = refl
    or_false false = refl

-- the place of a content in a row that grows by one that is new
pub place_in-same : (start : ℕ) (bytes : List ℕ) (kept : List (List ℕ)) → is_kept bytes kept ≡ false
    → Some (saturated (start + sum_by length kept)) ≡ place_in start (kept ++ bytes ∷ []) bytes
place_in-same start bytes kept new =
    let there : is_kept bytes (kept ++ bytes ∷ []) ≡ true = kept-push bytes bytes kept ∙ ap (λ b. b || bytes_eq bytes bytes) new ∙ itself bytes in
    let place : place_of bytes (kept ++ bytes ∷ []) ≡ sum_by length kept =
    ap (place_of bytes) (sym (append-nil (kept ++ bytes ∷ []))) ∙ place_behind bytes kept [] new in
    sym (ap (λ b. if b then Some (saturated (start + place_of bytes (kept ++ bytes ∷ []))) else None) there
    ∙ ap (λ n. Some (saturated (start + n))) place)

pub place_in-other : (start : ℕ) (q bytes : List ℕ) (kept : List (List ℕ)) → bytes_eq bytes q ≡ false
    → place_in start kept q ≡ place_in start (kept ++ bytes ∷ []) q
place_in-other start q bytes kept other = by (is_kept q kept) refl
  where
    turned : bytes_eq q bytes ≡ false
    turned = nat_list_eq_equiv.symm q bytes ∙ other

    still : is_kept q (kept ++ bytes ∷ []) ≡ is_kept q kept
    still = kept-push q bytes kept ∙ ap (λ b. is_kept q kept || b) turned ∙ or_false (is_kept q kept)
      where
        or_false : (b : Bool) → (b || false) ≡ b
        or_false true = refl
        or_false false = refl

    by : (b : Bool) → is_kept q kept ≡ b → place_in start kept q ≡ place_in start (kept ++ bytes ∷ []) q
    by true is = sym (ap (λ b. if b then Some (saturated (start + place_of q (kept ++ bytes ∷ []))) else None) still
        ∙ ap (λ n. if is_kept q kept then Some (saturated (start + n)) else None) (place_stays q kept (bytes ∷ []) is))
    by false is = ap (λ b. if b then Some (saturated (start + place_of q kept)) else None) is
        ∙ sym (ap (λ b. if b then Some (saturated (start + place_of q (kept ++ bytes ∷ []))) else None) (still ∙ is))

-- a map that takes in a content that is new, behind the others
pub index_more : (m n : BTreeMap (Bor (List ℕ)) ℕ) (start end : ℕ) (bytes : List ℕ) (kept : List (List ℕ)) → IsIndex m start kept
    → end ≡ saturated (start + sum_by length kept) → is_kept bytes kept ≡ false
    → UpdatesBy (λ x y. slice_cmp nat_cmp x.now y.now) (λ k. slice_cmp nat_cmp bytes k.now) m n (Some end)
    → IsIndex n start (kept ++ bytes ∷ [])
index_more m n start end bytes kept before behind new updates = record {
  each = λ q. btree_map_updates_str bytes m n _ updates q
      ∙ at q (bytes_eq bytes q) refl;
}
  where
    at : (q : List ℕ) (b : Bool) → bytes_eq bytes q ≡ b
        → (if b then Some end else get_by (λ k. slice_cmp nat_cmp q k.now) m) ≡ place_in start (kept ++ bytes ∷ []) q
    at q true told = ap Some behind ∙ place_in-same start bytes kept new ∙ ap (place_in start (kept ++ bytes ∷ [])) (same bytes q told)
    at q false told = before.each q ∙ place_in-other start q bytes kept told

-- the end of a row that grows by one
pub end_more : (start end n : ℕ) (bytes : List ℕ) (kept : List (List ℕ)) → end ≡ saturated (start + sum_by length kept) → n ≡ saturated (end + length bytes)
    → n ≡ saturated (start + sum_by length (kept ++ bytes ∷ []))
end_more start end n bytes kept before more = omega (arith, sum_by_push length kept bytes)

-- what a map finds in a row is there, and stays where it is
told : (start p : ℕ) (bytes : List ℕ) (kept : List (List ℕ)) (b : Bool) → is_kept bytes kept ≡ b
    → (if b then Some (saturated (start + place_of bytes kept)) else None) ≡ Some p
    → (is_kept bytes kept ≡ true) × (p ≡ saturated (start + place_of bytes kept))
told start p bytes kept true is found = (is, cc)
told start p bytes kept false is found = absurd (cc)

pub record IsFound (start p : ℕ) (bytes : List ℕ) (kept : List (List ℕ)) : Type 0 where
  pub among : is_kept bytes kept ≡ true
  pub place : (more : List (List ℕ)) → p ≡ saturated (start + place_of bytes (kept ++ more))

pub found_in : (start p : ℕ) (bytes : List ℕ) (kept : List (List ℕ)) → place_in start kept bytes ≡ Some p → IsFound start p bytes kept
found_in start p bytes kept is =
    let found = told start p bytes kept (is_kept bytes kept) refl is in
    record {
      among = found.0;
      place = λ more. found.1 ∙ ap (λ n. saturated (start + n)) (sym (place_stays bytes kept more found.0));
    }

pub missed_in : (start : ℕ) (bytes : List ℕ) (kept : List (List ℕ)) → place_in start kept bytes ≡ None → is_kept bytes kept ≡ false
missed_in start bytes kept is = by (is_kept bytes kept) refl is
  where
    by : (b : Bool) → is_kept bytes kept ≡ b → (if b then Some (saturated (start + place_of bytes kept)) else None) ≡ None
        → is_kept bytes kept ≡ false
    by true same none = absurd (cc)
    by false same none = same

-- a content that is there is not added, and one that is new is
pub kept_already : (bytes : List ℕ) (kept : List (List ℕ)) → is_kept bytes kept ≡ true → kept ≡ kept_with kept bytes
kept_already bytes kept is = sym (ap (λ b. if b then kept else kept ++ bytes ∷ []) is)

pub kept_more : (bytes : List ℕ) (kept : List (List ℕ)) → is_kept bytes kept ≡ false → kept ++ bytes ∷ [] ≡ kept_with kept bytes
kept_more bytes kept is = sym (ap (λ b. if b then kept else kept ++ bytes ∷ []) is)

-- a content that was added stays where the row ended
pub place_added : (start p : ℕ) (bytes : List ℕ) (kept now : List (List ℕ)) → is_kept bytes kept ≡ false
    → p ≡ saturated (start + sum_by length kept) → now ≡ kept ++ bytes ∷ []
    → (more : List (List ℕ)) → p ≡ saturated (start + place_of bytes (now ++ more))
place_added start p bytes kept now new is grown more =
    is ∙ ap (λ n. saturated (start + n)) (sym (place_behind bytes kept more new)) ∙ ap (λ ks. saturated (start + place_of bytes (ks ++ more))) (sym grown)
