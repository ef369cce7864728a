-- Clashes in longer lists, and the clash of two members.
use Rattle.std.proofs.Common.{◌≡◌, ◌≢◌, ◌⊎◌, ℕ, List, ◌++◌, replicate, Contains, inl, inr}
use Rattle.std.proofs.lemmas.List.Elements.{Contains-append_left, Contains-append_right, Contains-append_cases}
use Rattle.sha2.specs.Sha512.{sha384}
use Rattle.igvm_measure.specs.Hashed.{Collides, HitsZeros}
use Rattle.igvm_measure.proofs.Cuts.{one_or_not}

-- SHA-384 clashes at members of two lists, as on SEV-SNP
abbrev pub Clashes : List (List ℕ) → List (List ℕ) → Type 0
Clashes a b = Collides a b ⊎ HitsZeros a b

-- what stands in two lists stands in them with more behind each
longer : (a b c d : List (List ℕ)) (x : List ℕ) → Contains (a ++ b) x → Contains ((a ++ c) ++ (b ++ d)) x
longer a b c d x there = cases (Contains-append_cases a b x there)
  where
    cases : Contains a x ⊎ Contains b x → Contains ((a ++ c) ++ (b ++ d)) x
    cases (inl left) = Contains-append_left (a ++ c) (b ++ d) x (Contains-append_left a c x left)
    cases (inr right) = Contains-append_right (a ++ c) (b ++ d) x (Contains-append_left b d x right)

pub clashes_longer : (a b c d : List (List ℕ)) → Clashes a b → Clashes (a ++ c) (b ++ d)
clashes_longer a b c d (inl h) = inl (record {
  one = h.one;
  other = h.other;
  one_there = longer a b c d h.one h.one_there;
  other_there = longer a b c d h.other h.other_there;
  unequal = h.unequal;
  same = h.same;
})
clashes_longer a b c d (inr h) = inr (record { one = h.one; there = longer a b c d h.one h.there; zeros = h.zeros })

-- members of one digest are one, or collide
pub one_or_collide : (a b : List (List ℕ)) (x y : List ℕ) → Contains a x → Contains b y → sha384 x ≡ sha384 y → (x ≡ y) ⊎ Collides a b
one_or_collide a b x y in_a in_b same = cases (one_or_not x y)
  where
    cases : (x ≡ y) ⊎ (x ≢ y) → (x ≡ y) ⊎ Collides a b
    cases (inl is) = inl is
    cases (inr differ) = inr (record {
      one = x;
      other = y;
      one_there = Contains-append_left a b x in_a;
      other_there = Contains-append_right a b y in_b;
      unequal = differ;
      same = same;
    })

pub hits_left : (a b : List (List ℕ)) (x : List ℕ) → Contains a x → sha384 x ≡ replicate 48 0 → Clashes a b
hits_left a b x there zeros = inr (record { one = x; there = Contains-append_left a b x there; zeros = zeros })

pub hits_right : (a b : List (List ℕ)) (x : List ℕ) → Contains b x → sha384 x ≡ replicate 48 0 → Clashes a b
hits_right a b x there zeros = inr (record { one = x; there = Contains-append_right a b x there; zeros = zeros })
