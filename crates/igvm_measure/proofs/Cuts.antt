-- Lists of bytes that are cut at known lengths, and lists that are one or not.
use Rattle.std.proofs.Common.{◌≡◌, ◌≢◌, ◌⊎◌, ℕ, List, [], ◌∷◌, ◌++◌, length, refl, ap₂, arith, inl, inr, Bool, true, false}
use Rattle.std.specs.Prelude.{bytes_eq}
use Rattle.std.proofs.lemmas.Bool.Decides.{not_from_Decides}
use Rattle.std.proofs.lemmas.Slice.Eq.{bytes_eq-Decides}

-- two joins whose first parts have one length are cut in one way
pub cut_after : (a b c d : List ℕ) → length a ≡ length b → a ++ c ≡ b ++ d → (a ≡ b) × (c ≡ d)
cut_after [] [] c d size same = (refl, same)
cut_after [] (y ∷ b) c d size same = absurd (omega arith)
cut_after (x ∷ a) [] c d size same = absurd (omega arith)
cut_after (x ∷ a) (y ∷ b) c d size same =
    let head : x ≡ y = cc in
    let tail : a ++ c ≡ b ++ d = cc in
    let rest = cut_after a b c d (omega arith) tail in
    (ap₂ (λ (p : ℕ) (ps : List ℕ). p ∷ ps) head rest.0, rest.1)

-- two lists of bytes are one, or they are not
pub one_or_not : (a b : List ℕ) → (a ≡ b) ⊎ (a ≢ b)
one_or_not a b = cases (bytes_eq a b) refl
  where
    cases : (r : Bool) → bytes_eq a b ≡ r → (a ≡ b) ⊎ (a ≢ b)
    cases true is = inl ((bytes_eq-Decides a b).0 is)
    cases false is = inr (not_from_Decides (bytes_eq a b) (bytes_eq-Decides a b) is)
