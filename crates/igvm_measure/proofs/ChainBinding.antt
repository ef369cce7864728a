-- Two chains of one digest: their pages are one by one the same, from the last on backwards, or SHA-384 clashes.
use Rattle.std.proofs.Common.{◌≡◌, ◌⊎◌, ℕ, ◌<◌, ◌^◌, List, [], ◌∷◌, ◌++◌, length, map, fold, replicate, Contains, refl, sym, ap, ap₂, ◌∙◌, subst, append_assoc, append-nil, get_or, length-append, arith, inl, inr, Option, Some, None}
use Rattle.std.specs.Prelude.{◌==◌, if◌then◌else◌}
use Rattle.std.specs.List.{AllByRecursion}
use Rattle.std.proofs.lemmas.List.{map_push}
use Rattle.std.proofs.lemmas.List.Sums.{fold_push}
use Rattle.std.proofs.lemmas.List.Elements.{Contains-append_right}
use Rattle.sha2.specs.Sha512.{sha384}
use Rattle.sha2.proofs.Facts512.{length-sha384}
use Rattle.igvm_headers.specs.Endian.{little_bytes}
use Rattle.byteorder.specs.Endian.{little_from}
use Rattle.byteorder.specs.Numbers.{little_number-reads_back}
use Rattle.snp_chain.specs.declared.page.SnpPage.{SnpPage}
use Rattle.snp_chain.specs.declared.page.SnpPage.TheVariants.{Normal, Vmsa, Zero, Unmeasured, Secrets, Cpuid}
use Rattle.snp_chain.specs.Chain.{page_type, page_info, digest_after, snp}
use Rattle.igvm_measure.specs.Measured.{SnpMeasured}
use Rattle.igvm_measure.specs.Records.{contents_of, snp_record}
use Rattle.igvm_measure.specs.Hashed.{pages_of, snp_hashed_from, snp_hashed, Collides}
use Rattle.igvm_measure.proofs.Cuts.{cut_after}
use Rattle.igvm_measure.proofs.Clashes.{Clashes, clashes_longer, one_or_collide, hits_left, hits_right}

-- ---- lists from their last element

from_last : List SnpMeasured → List SnpMeasured
from_last [] = []
from_last (m ∷ ms) = from_last ms ++ m ∷ []

from_last-push : (ms : List SnpMeasured) (m : SnpMeasured) → from_last (ms ++ m ∷ []) ≡ m ∷ from_last ms
unfolding from_last
from_last-push [] m = refl
from_last-push (x ∷ ms) m = ap (λ (xs : List SnpMeasured). xs ++ x ∷ []) (from_last-push ms m)

-- each list is one from its last element
backwards : (ms : List SnpMeasured) → (rs : List SnpMeasured) × (from_last rs ≡ ms)
unfolding from_last
backwards [] = ([], refl)
backwards (m ∷ ms) =
    let b = backwards ms in
    (b.0 ++ m ∷ [], from_last-push b.0 m ∙ ap (λ (xs : List SnpMeasured). m ∷ xs) b.1)

-- ---- a page more

snp_push : (ms : List SnpMeasured) (m : SnpMeasured) → snp (map snp_record (ms ++ m ∷ [])) ≡ sha384 (page_info (snp (map snp_record ms)) (snp_record m))
unfolding snp
snp_push ms m = ap (fold digest_after (replicate 48 0)) (map_push snp_record ms m) ∙ fold_push digest_after (replicate 48 0) (map snp_record ms) (snp_record m)

hashed_from-push : (digest : List ℕ) (ms : List SnpMeasured) (m : SnpMeasured)
    → snp_hashed_from digest (ms ++ m ∷ []) ≡ snp_hashed_from digest ms ++ page_info (fold digest_after digest (map snp_record ms)) (snp_record m) ∷ pages_of m.bytes
hashed_from-push digest [] m = ap (λ (hs : List (List ℕ)). page_info digest (snp_record m) ∷ hs) (append-nil (pages_of m.bytes))
hashed_from-push digest (x ∷ ms) m =
    let next = digest_after digest (snp_record x) in
    let last = page_info (fold digest_after next (map snp_record ms)) (snp_record m) ∷ pages_of m.bytes in
    ap (λ (hs : List (List ℕ)). page_info digest (snp_record x) ∷ pages_of x.bytes ++ hs) (hashed_from-push next ms m)
    ∙ ap (λ (hs : List (List ℕ)). page_info digest (snp_record x) ∷ hs) (sym (append_assoc (pages_of x.bytes) (snp_hashed_from next ms) last))

-- what the last page adds to what is hashed
last_hashed : List SnpMeasured → SnpMeasured → List (List ℕ)
last_hashed ms m = page_info (snp (map snp_record ms)) (snp_record m) ∷ pages_of m.bytes

hashed_push : (ms : List SnpMeasured) (m : SnpMeasured) → snp_hashed (ms ++ m ∷ []) ≡ snp_hashed ms ++ last_hashed ms m
unfolding snp last_hashed
hashed_push ms m = hashed_from-push (replicate 48 0) ms m

length-snp : (rs : List SnpMeasured) → length (snp (map snp_record (from_last rs))) ≡ 48
unfolding from_last snp
length-snp [] = refl
length-snp (m ∷ rs) = ap length (snp_push (from_last rs) m) ∙ length-sha384 _

-- ---- what a PAGE_INFO tells

length-contents : (bytes : Option (List ℕ)) → length (contents_of bytes) ≡ 48
length-contents None = refl
length-contents (Some page) = length-sha384 page

kind_by : ℕ → SnpPage
kind_by n =
    if n == 1 then Normal else
    if n == 2 then Vmsa else
    if n == 3 then Zero else
    if n == 4 then Unmeasured else
    if n == 5 then Secrets else Cpuid

kind_by-type : (kind : SnpPage) → kind_by (page_type kind) ≡ kind
unfolding kind_by
kind_by-type Normal = refl
kind_by-type Vmsa = refl
kind_by-type Zero = refl
kind_by-type Unmeasured = refl
kind_by-type Secrets = refl
kind_by-type Cpuid = refl

pub address_read : (gpa other : ℕ) → gpa < 2 ^ 64 → other < 2 ^ 64 → little_bytes 8 gpa ≡ little_bytes 8 other → gpa ≡ other
address_read gpa other fits other_fits same =
    sym (little_number-reads_back 8 gpa [] fits)
    ∙ ap (λ (bytes : List ℕ). little_from 0 8 (bytes ++ [])) same
    ∙ little_number-reads_back 8 other [] other_fits

record Tells (d e : List ℕ) (m n : SnpMeasured) : Type 0 where
  pub before : d ≡ e
  pub contents : contents_of m.bytes ≡ contents_of n.bytes
  pub kind : m.kind ≡ n.kind
  pub gpa : m.gpa ≡ n.gpa

info_tells : (d e : List ℕ) (m n : SnpMeasured) → length d ≡ 48 → length e ≡ 48 → m.gpa < 2 ^ 64 → n.gpa < 2 ^ 64
    → page_info d (snp_record m) ≡ page_info e (snp_record n) → Tells d e m n
info_tells d e m n size other_size fits other_fits same =
    let fields = λ (p : SnpMeasured). 0x70 ∷ 0 ∷ page_type p.kind ∷ 0 ∷ 0 ∷ 0 ∷ 0 ∷ 0 ∷ [] in
    let a = contents_of m.bytes in
    let b = contents_of n.bytes in
    let a_size = length-contents m.bytes in
    let b_size = length-contents n.bytes in
    let two : length (d ++ a) ≡ length (e ++ b) = omega (arith, length-append d a, length-append e b) in
    let three : length (d ++ a ++ fields m) ≡ length (e ++ b ++ fields n) = omega (arith, length-append (d ++ a) (fields m), length-append (e ++ b) (fields n)) in
    let last = cut_after (d ++ a ++ fields m) (e ++ b ++ fields n) (little_bytes 8 m.gpa) (little_bytes 8 n.gpa) three same in
    let third = cut_after (d ++ a) (e ++ b) (fields m) (fields n) two last.0 in
    let first = cut_after d e a b (size ∙ sym other_size) third.0 in
    let type : page_type m.kind ≡ page_type n.kind = ap (λ (xs : List ℕ). get_or xs 2 0) third.1 in
    record {
      before = first.0;
      contents = first.1;
      kind = sym (kind_by-type m.kind) ∙ ap kind_by type ∙ kind_by-type n.kind;
      gpa = address_read m.gpa n.gpa fits other_fits last.1;
    }

-- bytes of one digest are one, or SHA-384 clashes
same_bytes : (a b : List (List ℕ)) (x y : Option (List ℕ)) → ((page : List ℕ) → x ≡ Some page → Contains a page) → ((page : List ℕ) → y ≡ Some page → Contains b page)
    → contents_of x ≡ contents_of y → (x ≡ y) ⊎ Clashes a b
same_bytes a b None None in_a in_b same = inl refl
same_bytes a b None (Some q) in_a in_b same = inr (hits_right a b q (in_b q refl) (sym same))
same_bytes a b (Some p) None in_a in_b same = inr (hits_left a b p (in_a p refl) same)
same_bytes a b (Some p) (Some q) in_a in_b same = cases (one_or_collide a b p q (in_a p refl) (in_b q refl) same)
  where
    cases : (p ≡ q) ⊎ Collides a b → (Some p ≡ Some q) ⊎ Clashes a b
    cases (inl is) = inl (ap (λ (page : List ℕ). Some page) is)
    cases (inr h) = inr (inl h)

-- ---- two chains

abbrev pub FitsAddress : SnpMeasured → Type 0
FitsAddress m = m.gpa < 2 ^ 64

in_last : (ms : List SnpMeasured) (m : SnpMeasured) → Contains (snp_hashed (ms ++ m ∷ [])) (page_info (snp (map snp_record ms)) (snp_record m))
unfolding last_hashed
in_last ms m =
    let x = page_info (snp (map snp_record ms)) (snp_record m) in
    subst (λ (hs : List (List ℕ)). Contains hs x) (sym (hashed_push ms m))
    (Contains-append_right (snp_hashed ms) (last_hashed ms m) x (0, omega arith, refl))

page_in_last : (ms : List SnpMeasured) (m : SnpMeasured) (page : List ℕ) → m.bytes ≡ Some page → Contains (snp_hashed (ms ++ m ∷ [])) page
unfolding last_hashed
page_in_last ms m page is =
    let x = page_info (snp (map snp_record ms)) (snp_record m) in
    let there : Contains (x ∷ pages_of m.bytes) page = subst (λ (bytes : Option (List ℕ)). Contains (x ∷ pages_of bytes) page) (sym is) (1, omega arith, refl) in
    subst (λ (hs : List (List ℕ)). Contains hs page) (sym (hashed_push ms m))
    (Contains-append_right (snp_hashed ms) (last_hashed ms m) page there)

-- the last pages tell, or clash, and so do the chains before them
joined : (rs ss : List SnpMeasured) (m n : SnpMeasured) → m.kind ≡ n.kind → m.gpa ≡ n.gpa
    → (m.bytes ≡ n.bytes) ⊎ Clashes (snp_hashed (rs ++ m ∷ [])) (snp_hashed (ss ++ n ∷ []))
    → (rs ≡ ss) ⊎ Clashes (snp_hashed rs) (snp_hashed ss)
    → (rs ++ m ∷ [] ≡ ss ++ n ∷ []) ⊎ Clashes (snp_hashed (rs ++ m ∷ [])) (snp_hashed (ss ++ n ∷ []))
joined rs ss m n kind gpa (inr clash) before = inr clash
joined rs ss m n kind gpa (inl bytes) (inr clash) =
    inr (subst (λ (hs : List (List ℕ)). Clashes hs (snp_hashed (ss ++ n ∷ []))) (sym (hashed_push rs m))
    (subst (λ (hs : List (List ℕ)). Clashes (snp_hashed rs ++ last_hashed rs m) hs) (sym (hashed_push ss n))
    (clashes_longer (snp_hashed rs) (snp_hashed ss) (last_hashed rs m) (last_hashed ss n) clash)))
joined rs ss m n kind gpa (inl bytes) (inl before) =
    let page : m ≡ n = ap₂ (λ (k : SnpPage) (p : ℕ × Option (List ℕ)). record { kind = k; gpa = p.0; bytes = p.1 }) kind (ap₂ (λ (g : ℕ) (b : Option (List ℕ)). (g, b)) gpa bytes) in
    inl (ap₂ (λ (xs : List SnpMeasured) (x : SnpMeasured). xs ++ x ∷ []) before page)

chains : (rs ss : List SnpMeasured) → AllByRecursion FitsAddress rs → AllByRecursion FitsAddress ss
    → snp (map snp_record (from_last rs)) ≡ snp (map snp_record (from_last ss))
    → (from_last rs ≡ from_last ss) ⊎ Clashes (snp_hashed (from_last rs)) (snp_hashed (from_last ss))
unfolding from_last snp
chains [] [] fits other_fits same = inl refl
chains [] (n ∷ ss) fits other_fits same =
    inr (hits_right [] (snp_hashed (from_last ss ++ n ∷ [])) _ (in_last (from_last ss) n) (sym (same ∙ snp_push (from_last ss) n)))
chains (m ∷ rs) [] fits other_fits same =
    inr (hits_left (snp_hashed (from_last rs ++ m ∷ [])) [] _ (in_last (from_last rs) m) (sym (snp_push (from_last rs) m) ∙ same))
chains (m ∷ rs) (n ∷ ss) fits other_fits same =
    cases (one_or_collide a b x y (in_last (from_last rs) m) (in_last (from_last ss) n) digests) (chains rs ss fits.1 other_fits.1)
  where
    a : List (List ℕ)
    a = snp_hashed (from_last rs ++ m ∷ [])

    b : List (List ℕ)
    b = snp_hashed (from_last ss ++ n ∷ [])

    x : List ℕ
    x = page_info (snp (map snp_record (from_last rs))) (snp_record m)

    y : List ℕ
    y = page_info (snp (map snp_record (from_last ss))) (snp_record n)

    digests : sha384 x ≡ sha384 y
    digests = sym (snp_push (from_last rs) m) ∙ same ∙ snp_push (from_last ss) n

    cases : (x ≡ y) ⊎ Collides a b
        → (snp (map snp_record (from_last rs)) ≡ snp (map snp_record (from_last ss)) → (from_last rs ≡ from_last ss) ⊎ Clashes (snp_hashed (from_last rs)) (snp_hashed (from_last ss)))
        → (from_last rs ++ m ∷ [] ≡ from_last ss ++ n ∷ []) ⊎ Clashes a b
    cases (inr clash) before = inr (inl clash)
    cases (inl is) before =
        let tells = info_tells _ _ m n (length-snp rs) (length-snp ss) fits.0 other_fits.0 is in
        joined (from_last rs) (from_last ss) m n tells.kind tells.gpa
        (same_bytes a b m.bytes n.bytes (page_in_last (from_last rs) m) (page_in_last (from_last ss) n) tells.contents)
        (before tells.before)

-- what holds of each holds from the last on
fits_push : (ms : List SnpMeasured) (m : SnpMeasured) → AllByRecursion FitsAddress (ms ++ m ∷ []) → FitsAddress m × AllByRecursion FitsAddress ms
fits_push [] m all = all
fits_push (x ∷ ms) m all = let rest = fits_push ms m all.1 in (rest.0, (all.0, rest.1))

fits_from_last : (rs : List SnpMeasured) → AllByRecursion FitsAddress (from_last rs) → AllByRecursion FitsAddress rs
unfolding from_last
fits_from_last [] all = tt
fits_from_last (m ∷ rs) all = let parts = fits_push (from_last rs) m all in (parts.0, fits_from_last rs parts.1)

-- pages of one digest are the same, or SHA-384 clashes
pub chain_binds : (ms ns : List SnpMeasured) → AllByRecursion FitsAddress ms → AllByRecursion FitsAddress ns
    → snp (map snp_record ms) ≡ snp (map snp_record ns) → (ms ≡ ns) ⊎ Clashes (snp_hashed ms) (snp_hashed ns)
chain_binds ms ns fits other_fits same =
    let b = backwards ms in
    let c = backwards ns in
    let all = fits_from_last b.0 (subst (AllByRecursion FitsAddress) (sym b.1) fits) in
    let others = fits_from_last c.0 (subst (AllByRecursion FitsAddress) (sym c.1) other_fits) in
    let digests : snp (map snp_record (from_last b.0)) ≡ snp (map snp_record (from_last c.0)) =
    ap (λ (xs : List SnpMeasured). snp (map snp_record xs)) b.1 ∙ same ∙ ap (λ (xs : List SnpMeasured). snp (map snp_record xs)) (sym c.1) in
    subst (λ (xs : List SnpMeasured). (xs ≡ ns) ⊎ Clashes (snp_hashed xs) (snp_hashed ns)) b.1
    (subst (λ (xs : List SnpMeasured). (from_last b.0 ≡ xs) ⊎ Clashes (snp_hashed (from_last b.0)) (snp_hashed xs)) c.1
    (chains b.0 c.0 all others digests))
