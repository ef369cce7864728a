-- The fault of a file's headers, in words.
use Rattle.std.proofs.Common.{◌≡◌, ℕ, zero, suc, ◌+◌, ◌<◌, List, [], ◌∷◌, ◌++◌, length, refl, sym, ◌∙◌, ap, ap₂, subst, arith, Option, Some, None, Result, Ok, Err, take, drop, append_assoc, append-nil, length-append, inl, inr, false}
use Rattle.std.specs.Prelude.{◌⊎◌, ◌↔◌, sum_by, ◌==◌, if◌then◌else◌}
use Rattle.std.specs.List.{slice_get}
use Rattle.std.proofs.lemmas.List.{take_at, take-append-le, take_all}
use Rattle.std.proofs.lemmas.List.Sums.{sum_by-cons, sum_by_push}
use Rattle.std.proofs.lemmas.Option.{slice_get_within}
use Rattle.std.proofs.Math.Dec.{eqb-suc-zero}
use Rattle.igvm_headers.specs.Fixed.{fixed_fields, fault_at}
use Rattle.igvm_headers.specs.declared.header.Header.{Header}
use Rattle.igvm_headers.specs.declared.fault.ReadFault.{ReadFault}
use Rattle.igvm_headers.specs.declared.fault.ReadWhat.{ReadWhat}
use Rattle.igvm_headers.specs.declared.fault.ReadWhat.TheVariants.{HeaderCut, NoPlatform}
use Rattle.platform_masks.specs.Platforms.{platforms_of}
use Rattle.platform_masks.specs.declared.platform.Platform as platform
use Rattle.igvm_image.specs.Pieces.{Piece, size_of}
use Rattle.igvm_image.specs.HeaderRules.{seen_of}
use Rattle.igvm_image.specs.FileFault.{fault_of, judged, headers_fault, unless_fault, end_fault}
use Rattle.igvm_image.specs.Headers.{IsAccepted, pieces_of}
use Rattle.igvm_image.specs.HeadersOfFile.{place_of}
use Rattle.igvm_image.specs.FirstFault.{KeepsFileRules, AllKept, HeaderFails, IsFirstFault, KeepsHeaderRules, cut_of}
use Rattle.igvm_image.proofs.HeadersLemmas.{fault_of-section}

-- an element of a list and one more
slice_get_push : {X : Type 0} (xs : List X) (y : X) (k : ℕ) (x : X) → slice_get (xs ++ y ∷ []) k ≡ Some x
    → (slice_get xs k ≡ Some x) ⊎ ((k ≡ length xs) × (y ≡ x))
slice_get_push [] y zero x h = inr (refl, cc)
slice_get_push [] y (suc k) x h = cc
slice_get_push (z ∷ xs) y zero x h = inl h
slice_get_push (z ∷ xs) y (suc k) x h =
    elim (slice_get_push xs y k x h) [ inl e ↦ inl e | inr e ↦ inr (ap suc e.0, e.1) ]

slice_get_at : {X : Type 0} (xs : List X) (y : X) (ys : List X) → slice_get (xs ++ y ∷ ys) (length xs) ≡ Some y
slice_get_at [] y ys = refl
slice_get_at (x ∷ xs) y ys = slice_get_at xs y ys

-- a list around its element k
split_at : {X : Type 0} (xs : List X) (k : ℕ) (x : X) → slice_get xs k ≡ Some x → xs ≡ take k xs ++ x ∷ drop (suc k) xs
split_at [] k x h = cc
split_at (y ∷ xs) zero x h = cc
split_at (y ∷ xs) (suc k) x h = ap (λ zs. y ∷ zs) (split_at xs k x h)

kept_none : (total : ℕ) → AllKept total [] []
kept_none total = record { as_many = refl; each = λ k p header h g. cc }

-- one header more that keeps the rules
kept_push : (total : ℕ) (qs : List Piece) (hs : List Header) (p : Piece) (h : Header) → AllKept total qs hs
    → judged total (seen_of hs) p ≡ Ok h → AllKept total (qs ++ p ∷ []) (hs ++ h ∷ [])
kept_push total qs hs p h kept good = record {
  as_many = (let same = kept.as_many in omega (arith, length-append hs (h ∷ []), length-append qs (p ∷ [])));
  each = λ k q g here there. cases k q g (slice_get_push qs p k q here) (slice_get_push hs h k g there);
}
  where
    cases : (k : ℕ) (q : Piece) (g : Header) → (slice_get qs k ≡ Some q) ⊎ ((k ≡ length qs) × (p ≡ q))
        → (slice_get hs k ≡ Some g) ⊎ ((k ≡ length hs) × (h ≡ g)) → judged total (seen_of (take k (hs ++ h ∷ []))) q ≡ Ok g
    cases k q g (inl here) (inl there) =
        let less : k < length hs = slice_get_within hs k g there in
        ap (λ before. judged total (seen_of before) q) (take-append-le k hs (h ∷ []) (omega arith)) ∙ kept.each k q g here there
    cases k q g (inl here) (inr there) = absurd (omega (arith, slice_get_within qs k q here, kept.as_many, there.0))
    cases k q g (inr here) (inl there) = absurd (omega (arith, slice_get_within hs k g there, kept.as_many, here.0))
    cases k q g (inr here) (inr there) =
        ap₂ (λ before r. judged total (seen_of before) r) (take_at hs (h ∷ []) k (sym there.0)) (sym here.1)
        ∙ good ∙ ap (λ f. Ok f) there.1

-- What a fault says, or its lack.
Outcome : List ℕ → Option ReadFault → Type 0
Outcome file (Some fault) = IsFirstFault file fault
Outcome file None = (headers : List Header) × KeepsHeaderRules file headers

-- behind the last whole header
no_platform : (file : List ℕ) (headers : List Header) → AllKept (fixed_fields file).total (pieces_of file) headers → cut_of file ≡ []
    → (platforms : List platform.Platform) → platforms_of headers ≡ platforms
    → Outcome file (if length platforms == 0 then Some (fault_at (fixed_fields file).var_offset NoPlatform) else None)
unfolding Outcome
no_platform file headers kept left [] same =
    inr (inr (headers, record { kept = kept; left = left; none = same; same = refl }))
no_platform file headers kept left (p ∷ ps) same =
    subst (λ b. Outcome file (if b then Some (fault_at (fixed_fields file).var_offset NoPlatform) else None))
    (sym (eqb-suc-zero (length ps))) (headers, record { kept = kept; left = left; platform = omega (arith, ap length same) })

end_outcome : (file : List ℕ) (headers : List Header) → AllKept (fixed_fields file).total (pieces_of file) headers → (rest : List ℕ) → cut_of file ≡ rest
    → Outcome file (end_fault (fixed_fields file).var_offset (place_of file (length headers)) headers rest)
unfolding Outcome
end_outcome file headers kept [] left = no_platform file headers kept left (platforms_of headers) refl
end_outcome file headers kept (byte ∷ rest) left =
    inr (inl (headers, record { kept = kept; left = omega (arith, ap length left); same = refl }))

-- the place behind the first pieces
place_behind : (file : List ℕ) (qs ps : List Piece) (hs : List Header) → qs ++ ps ≡ pieces_of file → length hs ≡ length qs
    → take (length hs) (pieces_of file) ≡ qs
place_behind file qs ps hs all same = ap (take (length hs)) (sym all) ∙ take_at qs ps (length hs) (sym same)

-- the reader's fault is what the words say, behind headers that keep the rules
walk : (file : List ℕ) (qs ps : List Piece) (hs : List Header) → qs ++ ps ≡ pieces_of file
    → AllKept (fixed_fields file).total qs hs
    → Outcome file (headers_fault (fixed_fields file).total (fixed_fields file).var_offset ((fixed_fields file).var_offset + sum_by size_of qs) hs ps (cut_of file))
unfolding Outcome headers_fault
walk file qs [] hs all kept =
    let total = (fixed_fields file).total in
    let start = (fixed_fields file).var_offset in
    let whole : qs ≡ pieces_of file = sym (append-nil qs) ∙ all in
    let front = place_behind file qs [] hs all kept.as_many in
    subst (λ at. Outcome file (end_fault start at hs (cut_of file))) (ap (λ ps. start + sum_by size_of ps) front)
    (end_outcome file hs (subst (λ ps. AllKept total ps hs) whole kept) (cut_of file) refl)
walk file qs (p ∷ ps) hs all kept =
    cases (judged (fixed_fields file).total (seen_of hs) p) refl
    (λ header good. walk file (qs ++ p ∷ []) ps (hs ++ header ∷ []) (append_assoc qs (p ∷ []) ps ∙ all)
    (kept_push (fixed_fields file).total qs hs p header kept good))
  where
    cases : (j : Result Header ReadWhat) → judged (fixed_fields file).total (seen_of hs) p ≡ j
        → ((header : Header) → judged (fixed_fields file).total (seen_of hs) p ≡ Ok header
        → Outcome file (headers_fault (fixed_fields file).total (fixed_fields file).var_offset ((fixed_fields file).var_offset + sum_by size_of (qs ++ p ∷ [])) (hs ++ header ∷ []) ps (cut_of file)))
        → Outcome file (unless_fault ((fixed_fields file).var_offset + sum_by size_of qs) j
        (λ header. headers_fault (fixed_fields file).total (fixed_fields file).var_offset ((fixed_fields file).var_offset + sum_by size_of qs + size_of p) (hs ++ header ∷ []) ps (cut_of file)))
    cases (Err what) same later =
        let front = place_behind file qs (p ∷ ps) hs all kept.as_many in
        inl (
          hs,
          p,
          record {
            kept = subst (λ ps. AllKept (fixed_fields file).total ps hs) (sym front) kept;
            next = ap (λ ps. slice_get ps (length hs)) (sym all) ∙ ap (slice_get (qs ++ p ∷ ps)) kept.as_many ∙ slice_get_at qs p ps;
            fails = same;
            place = ap (λ ps. (fixed_fields file).var_offset + sum_by size_of ps) (sym front);
          },
        )
    cases (Ok header) same later =
        let further : (fixed_fields file).var_offset + sum_by size_of (qs ++ p ∷ []) ≡ (fixed_fields file).var_offset + sum_by size_of qs + size_of p =
        omega (arith, sum_by_push size_of qs p) in
        subst (λ at. Outcome file (headers_fault (fixed_fields file).total (fixed_fields file).var_offset at (hs ++ header ∷ []) ps (cut_of file)))
        further (later header same)

-- headers that keep the rules are passed
passed : (total start at : ℕ) (done hs : List Header) (qs ps : List Piece) (rest : List ℕ) → length hs ≡ length qs
    → ((k : ℕ) (q : Piece) (h : Header) → slice_get qs k ≡ Some q → slice_get hs k ≡ Some h → judged total (seen_of (done ++ take k hs)) q ≡ Ok h)
    → headers_fault total start at done (qs ++ ps) rest ≡ headers_fault total start (at + sum_by size_of qs) (done ++ hs) ps rest
unfolding headers_fault
passed total start at done [] [] ps rest same each =
    ap₂ (λ a before. headers_fault total start a before ps rest) (omega arith) (sym (append-nil done))
passed total start at done [] (q ∷ qs) ps rest same each = absurd (omega (arith, same))
passed total start at done (h ∷ hs) [] ps rest same each = absurd (omega (arith, same))
passed total start at done (h ∷ hs) (q ∷ qs) ps rest same each =
    let good : judged total (seen_of done) q ≡ Ok h =
    ap (λ before. judged total (seen_of before) q) (sym (append-nil done)) ∙ each 0 q h refl refl in
    let later = passed total start (at + size_of q) (done ++ h ∷ []) hs qs ps rest (omega (arith, same))
    (λ k r g here there. ap (λ before. judged total (seen_of before) r) (append_assoc done (h ∷ []) (take k hs)) ∙ each (suc k) r g here there) in
    ap (λ j. unless_fault at j (λ header. headers_fault total start (at + size_of q) (done ++ header ∷ []) (qs ++ ps) rest)) good
    ∙ later
    ∙ ap₂ (λ a before. headers_fault total start a before ps rest) (omega (arith, sum_by-cons size_of q qs)) (append_assoc done (h ∷ []) hs)

-- the fault of a file's headers, behind those that keep the rules
passed_kept : (file : List ℕ) (qs ps : List Piece) (hs : List Header) → AllKept (fixed_fields file).total qs hs → pieces_of file ≡ qs ++ ps
    → headers_fault (fixed_fields file).total (fixed_fields file).var_offset (fixed_fields file).var_offset [] (pieces_of file) (cut_of file)
    ≡ headers_fault (fixed_fields file).total (fixed_fields file).var_offset ((fixed_fields file).var_offset + sum_by size_of qs) hs ps (cut_of file)
passed_kept file qs ps hs kept all =
    let total = (fixed_fields file).total in
    let start = (fixed_fields file).var_offset in
    ap (λ ps. headers_fault total start start [] ps (cut_of file)) all
    ∙ passed total start start [] hs qs ps (cut_of file) kept.as_many kept.each

-- where all headers keep the rules, what is left decides
passed_all : (file : List ℕ) (hs : List Header) → AllKept (fixed_fields file).total (pieces_of file) hs
    → headers_fault (fixed_fields file).total (fixed_fields file).var_offset (fixed_fields file).var_offset [] (pieces_of file) (cut_of file)
    ≡ end_fault (fixed_fields file).var_offset (place_of file (length hs)) hs (cut_of file)
unfolding headers_fault
passed_all file hs kept =
    passed_kept file (pieces_of file) [] hs kept (sym (append-nil (pieces_of file)))
    ∙ ap (λ ps. end_fault (fixed_fields file).var_offset ((fixed_fields file).var_offset + sum_by size_of ps) hs (cut_of file))
    (sym (take_all (length hs) (pieces_of file) (omega (arith, kept.as_many))))

-- what the words say is the reader's fault
header_back : (file : List ℕ) (fault : ReadFault) (hs : List Header) (p : Piece) → HeaderFails file fault hs p
    → headers_fault (fixed_fields file).total (fixed_fields file).var_offset (fixed_fields file).var_offset [] (pieces_of file) (cut_of file) ≡ Some fault
unfolding headers_fault
header_back file fault hs p h =
    let total = (fixed_fields file).total in
    let start = (fixed_fields file).var_offset in
    let at = start + sum_by size_of (take (length hs) (pieces_of file)) in
    let rest = drop (suc (length hs)) (pieces_of file) in
    passed_kept file (take (length hs) (pieces_of file)) (p ∷ rest) hs h.kept (split_at (pieces_of file) (length hs) p h.next)
    ∙ ap (λ j. unless_fault at j (λ (header : Header). headers_fault total start (at + size_of p) (hs ++ header ∷ []) rest (cut_of file))) h.fails
    ∙ ap (λ a. Some (fault_at a fault.what)) (sym h.place)

cut_back : (file : List ℕ) (start at : ℕ) (hs : List Header) (rest : List ℕ) → 0 < length rest → end_fault start at hs rest ≡ Some (fault_at at HeaderCut)
cut_back file start at hs [] some = absurd (omega arith)
cut_back file start at hs (byte ∷ rest) some = refl

some_platform : (platforms : List platform.Platform) → 0 < length platforms → (length platforms == 0) ≡ false
some_platform [] some = absurd (omega arith)
some_platform (p ∷ ps) some = eqb-suc-zero (length ps)

back : (file : List ℕ) (fault : Option ReadFault) → Outcome file fault
    → headers_fault (fixed_fields file).total (fixed_fields file).var_offset (fixed_fields file).var_offset [] (pieces_of file) (cut_of file) ≡ fault
unfolding Outcome
back file (Some fault) (inl h) = header_back file fault h.0 h.1 h.2
back file (Some fault) (inr (inl h)) =
    passed_all file h.0 h.1.kept
    ∙ cut_back file (fixed_fields file).var_offset (place_of file (length h.0)) h.0 (cut_of file) h.1.left
    ∙ ap (λ f. Some f) (sym h.1.same)
back file (Some fault) (inr (inr h)) =
    passed_all file h.0 h.1.kept
    ∙ ap (end_fault (fixed_fields file).var_offset (place_of file (length h.0)) h.0) h.1.left
    ∙ ap (λ (ps : List platform.Platform). if length ps == 0 then Some (fault_at (fixed_fields file).var_offset NoPlatform) else None) h.1.none
    ∙ ap (λ f. Some f) (sym h.1.same)
back file None h =
    passed_all file h.0 h.1.kept
    ∙ ap (end_fault (fixed_fields file).var_offset (place_of file (length h.0)) h.0) h.1.left
    ∙ ap (λ b. if b then Some (fault_at (fixed_fields file).var_offset NoPlatform) else None) (some_platform (platforms_of h.0) h.1.platform)

-- the fault of a file that keeps the rules on the whole file
headers_decide : (file : List ℕ) → KeepsFileRules file
    → fault_of file ≡ headers_fault (fixed_fields file).total (fixed_fields file).var_offset (fixed_fields file).var_offset [] (pieces_of file) (cut_of file)
headers_decide file keeps = fault_of-section file (fixed_fields file) keeps.read keeps.fields

there : (file : List ℕ) → KeepsFileRules file → Outcome file (fault_of file)
there file keeps =
    subst (Outcome file) (sym (headers_decide file keeps))
    (subst (λ at. Outcome file (headers_fault (fixed_fields file).total (fixed_fields file).var_offset at [] (pieces_of file) (cut_of file))) (omega arith)
    (walk file [] (pieces_of file) [] refl (kept_none (fixed_fields file).total)))

pub first_fault_said : (file : List ℕ) (fault : ReadFault) → KeepsFileRules file → ((fault_of file ≡ Some fault) ↔ IsFirstFault file fault)
unfolding Outcome
first_fault_said file fault keeps =
    (λ same. subst (Outcome file) same (there file keeps), λ said. headers_decide file keeps ∙ back file (Some fault) said)

pub no_fault_said : (file : List ℕ) → KeepsFileRules file → (IsAccepted file ↔ ((headers : List Header) × KeepsHeaderRules file headers))
unfolding Outcome
no_fault_said file keeps =
    (λ same. subst (Outcome file) same (there file keeps), λ said. headers_decide file keeps ∙ back file None said)
