-- Fields at their places in a page.
use Rattle.std.proofs.Common.{◌≡◌, ◌≤◌, ◌<◌, ◌^◌, ◌+◌, ◌-◌, ◌&&◌, ◌==◌, ℕ, List, [], ◌∷◌, ◌++◌, Bool, true, false, cond, length, map, slice_index, nat_le, nat_lt, inl, inr, refl, sym, ap, ap₂, ◌∙◌, arith}
use Rattle.std.proofs.lemmas.Bool.{and_parts, and_from, le-leb, lt-ltb, leb-true, ltb-true}
use Rattle.std.proofs.lemmas.Bool.Decides.{nat_tests}
use Rattle.std.specs.List.{AllByRecursion}
use Rattle.byteorder.specs.Endian.{little_bytes, little_from}
use Rattle.byteorder.specs.Numbers.{little_number-reads_back}
use Rattle.vmsa_page.proofs.Booleans.{bool_cases, eqb_eq}
use Rattle.vmsa_page.specs.declared.segment.Segment.{Segment}
use Rattle.vmsa_page.specs.Fields.{Field, is_within, is_in}
use Rattle.vmsa_page.specs.Vmsas.{IsSegment}
use Rattle.vmsa_page.specs.Pages.{segment_bytes, byte_by, segment_of}
use Rattle.vmsa_page.proofs.LittleNumbers.{IsBytes, little_same, run, run_at, run_append, bytes_of_little}

-- the page holds these bytes in the field
abbrev IsThere : List ℕ → Field → List ℕ → Type 0
IsThere p f bytes = (k : ℕ) → k < f.width → (a : ℕ) → a ≡ f.offset + k → slice_index p a ≡ slice_index bytes k

-- and in each of these fields the bytes of the same place
abbrev pub AreThere : List ℕ → List Field → List (List ℕ) → Type 0
AreThere p [] more = Unit {0}
AreThere p (f ∷ fs) [] = Unit {0}
AreThere p (f ∷ fs) (bytes ∷ more) = IsThere p f bytes × AreThere p fs more

-- the fields rise, and end within the page
abbrev pub are_rising : ℕ → List Field → Bool
are_rising low [] = nat_le low 4096
are_rising low (f ∷ fs) = nat_le low f.offset && are_rising (f.offset + f.width) fs

rising_end : (low : ℕ) (fs : List Field) → are_rising low fs ≡ true → low ≤ 4096
rising_end low [] h = leb-true _ _ h
rising_end low (f ∷ fs) h =
    let p = and_parts (nat_le low f.offset) (are_rising (f.offset + f.width) fs) h in
    let from : low ≤ f.offset = leb-true low f.offset p.0 in
    omega (arith, from, rising_end (f.offset + f.width) fs p.1)

within : (f : Field) (k a : ℕ) → k < f.width → a ≡ f.offset + k → is_within f a ≡ true
within f k a below is = and_from _ _ (le-leb f.offset a (omega (arith, is))) (lt-ltb a (f.offset + f.width) (omega (arith, is, below)))

behind : (f : Field) (a : ℕ) → f.offset + f.width ≤ a → is_within f a ≡ false
behind f a h = grind (arith, nat_tests)

-- bytes that are those of the fields at each place from `low` on are there
pub found : (fs : List Field) (more : List (List ℕ)) (low : ℕ) (p : List ℕ) (d : ℕ → ℕ) → are_rising low fs ≡ true
    → ((i : ℕ) → low ≤ i → i < 4096 → slice_index p i ≡ byte_by fs more i (d i)) → AreThere p fs more
found [] more low p d rising same = tt
found (f ∷ fs) [] low p d rising same = tt
found (f ∷ fs) (bytes ∷ more) low p d rising same =
    let r = and_parts _ _ rising in
    let from : low ≤ f.offset = leb-true _ _ r.0 in
    let end : f.offset + f.width ≤ 4096 = rising_end (f.offset + f.width) fs r.1 in (
      λ k below a is.
          let back : a - f.offset ≡ k = omega (arith, is) in
          same a (omega (arith, is, from)) (omega (arith, is, end, below))
          ∙ ap (λ b. cond b (slice_index bytes (a - f.offset)) (byte_by fs more a (d a))) (within f k a below is)
          ∙ ap (slice_index bytes) back,
      found fs more (f.offset + f.width) p d r.1 (λ i low_ high. same i (omega (arith, from, low_)) high
          ∙ ap (λ b. cond b (slice_index bytes (i - f.offset)) (byte_by fs more i (d i))) (behind f i low_)),
    )

-- all are so wide
abbrev pub are_wide : ℕ → List Field → Bool
are_wide w [] = true
are_wide w (f ∷ fs) = (f.width == w) && are_wide w fs

-- the number that the bytes of a field hold from a place of it on
part : (p bytes : List ℕ) (f : Field) (k w i : ℕ) → IsThere p f bytes → k + w ≤ f.width → i ≡ f.offset + k → little_from i w p ≡ little_from k w bytes
part p bytes f k w i there fits is =
    little_same w i k p bytes (λ m below a b x y. let same : b ≡ k + m = y in there b (omega (arith, fits, below, y)) a (omega (arith, x, y, is)))

pub read_numbers : (fs : List Field) (ns : List ℕ) (p : List ℕ) → are_wide 8 fs ≡ true → length ns ≡ length fs → AllByRecursion (λ n. n < 2 ^ 64) ns
    → AreThere p fs (map (little_bytes 8) ns) → map (λ f. little_from f.offset 8 p) fs ≡ ns
read_numbers [] [] p wide count small there = refl
read_numbers [] (n ∷ ns) p wide count small there = absurd (omega (arith, count))
read_numbers (f ∷ fs) [] p wide count small there = absurd (omega (arith, count))
read_numbers (f ∷ fs) (n ∷ ns) p wide count small there =
    let w = and_parts (f.width == 8) (are_wide 8 fs) wide in
    let here : little_from f.offset 8 p ≡ n = part p (little_bytes 8 n) f 0 8 f.offset there.0 (omega (arith, eqb_eq f.width 8 w.0)) (omega arith) ∙ little_number-reads_back 8 n [] small.0 in
    ap₂ (λ (x : ℕ) (l : List ℕ). x ∷ l) here (read_numbers fs ns p w.1 (omega (arith, count)) small.1 there.1)

-- a segment of these four numbers
segment_by : ℕ → ℕ → ℕ → ℕ → Segment
segment_by a b c d = record { selector = a; attributes = b; limit = c; base = d }

pub same_segment : (a b c d : ℕ) (s : Segment) → a ≡ s.selector → b ≡ s.attributes → c ≡ s.limit → d ≡ s.base → record { selector = a; attributes = b; limit = c; base = d } ≡ s
unfolding segment_by
same_segment a b c d s x y z w = ap₂ (λ (e f : ℕ). segment_by e f c d) x y ∙ ap₂ (λ (e f : ℕ). segment_by s.selector s.attributes e f) z w

read_segment : (p : List ℕ) (f : Field) (s : Segment) → f.width ≡ 16 → IsSegment s → IsThere p f (segment_bytes s) → segment_of p f ≡ s
read_segment p f s wide small there =
    let bytes = segment_bytes s in
    let selector : little_from f.offset 2 p ≡ s.selector = part p bytes f 0 2 f.offset there (omega (arith, wide)) (omega arith) ∙ little_number-reads_back 2 s.selector [] small.selector in
    let attributes : little_from (f.offset + 2) 2 p ≡ s.attributes = part p bytes f 2 2 (f.offset + 2) there (omega (arith, wide)) (omega arith) ∙ little_number-reads_back 2 s.attributes [] small.attributes in
    let limit : little_from (f.offset + 4) 4 p ≡ s.limit = part p bytes f 4 4 (f.offset + 4) there (omega (arith, wide)) (omega arith) ∙ little_number-reads_back 4 s.limit [] small.limit in
    let base : little_from (f.offset + 8) 8 p ≡ s.base = part p bytes f 8 8 (f.offset + 8) there (omega (arith, wide)) (omega arith) ∙ little_number-reads_back 8 s.base [] small.base in
    same_segment (little_from f.offset 2 p) (little_from (f.offset + 2) 2 p) (little_from (f.offset + 4) 4 p) (little_from (f.offset + 8) 8 p) s selector attributes limit base

pub read_segments : (fs gs : List Field) (ss : List Segment) (more : List (List ℕ)) (p : List ℕ) → are_wide 16 fs ≡ true → length ss ≡ length fs → AllByRecursion IsSegment ss
    → AreThere p (fs ++ gs) (map segment_bytes ss ++ more) → (map (segment_of p) fs ≡ ss) × AreThere p gs more
read_segments [] gs [] more p wide count small there = (refl, there)
read_segments [] gs (s ∷ ss) more p wide count small there = absurd (omega (arith, count))
read_segments (f ∷ fs) gs [] more p wide count small there = absurd (omega (arith, count))
read_segments (f ∷ fs) gs (s ∷ ss) more p wide count small there =
    let w = and_parts (f.width == 16) (are_wide 16 fs) wide in
    let rest = read_segments fs gs ss more p w.1 (omega (arith, count)) small.1 there.1 in
    (ap₂ (λ (x : Segment) (l : List Segment). x ∷ l) (read_segment p f s (eqb_eq f.width 16 w.0) small.0 there.0) rest.0, rest.1)

-- ---- the fields' bytes, where they are a page's

inside : (f : Field) (a : ℕ) → is_within f a ≡ true → (f.offset ≤ a) × (a < f.offset + f.width)
inside f a is_so =
    let p = and_parts (nat_le f.offset a) (nat_lt a (f.offset + f.width)) is_so in
    (leb-true f.offset a p.0, ltb-true a (f.offset + f.width) p.1)

-- where they are there, the byte by the fields is that of the page
pub covered : (fs : List Field) (more : List (List ℕ)) (p : List ℕ) (a d : ℕ) → length more ≡ length fs → AreThere p fs more → byte_by fs more a d ≡ cond (is_in fs a) (slice_index p a) d
covered [] more p a d count there = refl
covered (f ∷ fs) [] p a d count there = absurd (omega (arith, count))
covered (f ∷ fs) (bytes ∷ more) p a d count there = elim (bool_cases (is_within f a)) [
  | inl is_so ↦
      let at : (f.offset ≤ a) × (a < f.offset + f.width) = inside f a is_so in
      rw is_so (sym (there.0 (a - f.offset) (omega (arith, at.0, at.1)) a (omega (arith, at.0))))
  | inr isnt ↦ rw isnt (covered fs more p a d (omega (arith, count)) there.1)
]

there_segment : (f : Field) (p : List ℕ) → f.width ≡ 16 → IsBytes p → IsThere p f (segment_bytes (segment_of p f))
there_segment f p wide bytes k below a is =
    let one = run_append 2 14 f.offset (f.offset + 2) 16 p (omega arith) (omega arith) in
    let two = run_append 2 12 (f.offset + 2) (f.offset + 4) 14 p (omega arith) (omega arith) in
    let four = run_append 4 8 (f.offset + 4) (f.offset + 8) 12 p (omega arith) (omega arith) in
    let whole : run f.offset 16 p ≡ segment_bytes (segment_of p f) =
    one ∙ ap (λ l. run f.offset 2 p ++ l) (two ∙ ap (λ l. run (f.offset + 2) 2 p ++ l) four)
    ∙ sym (ap₂ (λ (x y : List ℕ). x ++ y) (bytes_of_little 2 f.offset p bytes)
    (ap₂ (λ (x y : List ℕ). x ++ y) (bytes_of_little 2 (f.offset + 2) p bytes)
    (ap₂ (λ (x y : List ℕ). x ++ y) (bytes_of_little 4 (f.offset + 4) p bytes) (bytes_of_little 8 (f.offset + 8) p bytes)))) in
    run_at 16 f.offset p k (omega (arith, below, wide)) a is ∙ ap (λ l. slice_index l k) whole

there_number : (f : Field) (p : List ℕ) → f.width ≡ 8 → IsBytes p → IsThere p f (little_bytes 8 (little_from f.offset 8 p))
there_number f p wide bytes k below a is =
    run_at 8 f.offset p k (omega (arith, below, wide)) a is ∙ ap (λ l. slice_index l k) (sym (bytes_of_little 8 f.offset p bytes))

pub there_numbers : (fs : List Field) (p : List ℕ) → are_wide 8 fs ≡ true → IsBytes p → AreThere p fs (map (little_bytes 8) (map (λ f. little_from f.offset 8 p) fs))
there_numbers [] p wide bytes = tt
there_numbers (f ∷ fs) p wide bytes =
    let w = and_parts (f.width == 8) (are_wide 8 fs) wide in
    (there_number f p (eqb_eq f.width 8 w.0) bytes, there_numbers fs p w.1 bytes)

pub there_segments : (fs gs : List Field) (p : List ℕ) (more : List (List ℕ)) → are_wide 16 fs ≡ true → IsBytes p → AreThere p gs more → AreThere p (fs ++ gs) (map segment_bytes (map (segment_of p) fs) ++ more)
there_segments [] gs p more wide bytes rest = rest
there_segments (f ∷ fs) gs p more wide bytes rest =
    let w = and_parts (f.width == 16) (are_wide 16 fs) wide in
    (there_segment f p (eqb_eq f.width 16 w.0) bytes, there_segments fs gs p more w.1 bytes rest)
