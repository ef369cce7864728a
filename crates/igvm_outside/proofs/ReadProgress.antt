-- One read more, of a file that is read to its end.
use Rattle.std.proofs.Common.{◌≡◌, ℕ, ◌+◌, ◌≤◌, List, ◌++◌, length, take, drop, sym, ◌∙◌, ap, subst, arith, length-append, length-take}
use Rattle.std.specs.Prelude.{Option, Some, None, IfSome}
use Rattle.std.proofs.Math.Seq.{take-add}
use Rattle.igvm_outside.specs.Files.{Files, reading, content, IsThere}
use Rattle.igvm_outside.specs.declared.shelf.Shelf as shelves
use Rattle.igvm_outside.specs.ReadProgress.{IsFront, HasGiven}

length-taken : (n : ℕ) (bytes : List ℕ) → n ≤ length bytes → length (take n bytes) ≡ n
length-taken n bytes within = omega (arith, length-take {A = ℕ})

length-more : (bytes buffer : List ℕ) (n : ℕ) → n ≤ length buffer → length (bytes ++ take n buffer) ≡ length bytes + n
length-more bytes buffer n within = omega (arith, length-append bytes (take n buffer), length-taken n buffer within)

pub front_more : (told : Option Files) (name bytes buffer : List ℕ) (n : ℕ) → n ≤ length buffer → IsFront told name bytes
    → IfSome told (λ files. take n buffer ≡ take n (drop (length bytes) (content files name))) → IsFront told name (bytes ++ take n buffer)
front_more None name bytes buffer n within front more = tt
front_more (Some files) name bytes buffer n within front more =
    ap (λ (l : List ℕ). l ++ take n buffer) front
    ∙ ap (λ (l : List ℕ). take (length bytes) (content files name) ++ l) more
    ∙ sym (take-add (length bytes) n (content files name))
    ∙ ap (λ (k : ℕ). take k (content files name)) (sym (length-more bytes buffer n within))

pub given_more : {S : Type 0} (s : shelves.Ghosts S) (old new : S) (name bytes buffer longer : List ℕ) (n : ℕ) → HasGiven s old name bytes → n ≤ length buffer
    → IfSome (s.told old) (λ files. take n buffer ≡ take n (drop (length bytes) (content files name)))
    → s.state new ≡ reading (s.told new) name (length bytes + n) → s.given new ≡ s.given old + n → s.told new ≡ s.told old → longer ≡ bytes ++ take n buffer
    → HasGiven s new name longer
given_more s old new name bytes buffer longer n so_far within more moved counted kept grown =
    let size : length longer ≡ length bytes + n = ap length grown ∙ length-more bytes buffer n within in
    record {
      place = moved ∙ ap (reading (s.told new) name) (sym size);
      count = omega (arith, counted, so_far.count, size);
      there = subst (λ t. IsThere t name) (sym kept) so_far.there;
      front = subst (λ l. IsFront (s.told new) name l) (sym grown)
          (subst (λ t. IsFront t name (bytes ++ take n buffer)) (sym kept) (front_more (s.told old) name bytes buffer n within so_far.front more));
    }
