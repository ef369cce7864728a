-- A file that is written a piece at a time.
use Rattle.std.proofs.Common.{◌≡◌, ℕ, ◌+◌, ◌-◌, ◌<◌, ◌≤◌, Bool, true, false, cond, List, [], ◌∷◌, ◌++◌, length, take, drop, get_or, refl, sym, ◌∙◌, ap, subst, arith, append-nil, append_assoc, length-append, Bor}
use Rattle.std.specs.Prelude.{Option, Some, None}
use Rattle.std.specs.Option.{unwrap_or}
use Rattle.std.specs.FinMap as map
use Rattle.std.specs.FinMap.{get-insert, same_map, slice_cmp-IsAntisymmetric, nat_cmp-IsAntisymmetric}
use Rattle.std.specs.Ordering.{nat_cmp, eq_by_cmp, is_eq}
use Rattle.std.specs.Cmp.Lexicographic.{slice_cmp}
use Rattle.std.proofs.lemmas.Cmp.{nat_list_cmp_total, tied_itself}
use Rattle.std.specs.List.{concat}
use Rattle.std.proofs.Math.Seq.{take-append-add}
use Rattle.std.proofs.lemmas.List.{take_more, take_all, take-append-drop, take-append-le, map-append}
use Rattle.std.proofs.lemmas.List.Folds.{concat-append}
use Rattle.igvm_outside.specs.Files.{Files, content, with_file, with_more}
use Rattle.igvm_outside.specs.JoinedBytes.{lent, joined, HoldsFront}
use Rattle.igvm_outside.proofs.Fronts.{take_on}

once : {A : Type 0} (t : Bool) (x y z : A) → cond t x (cond t y z) ≡ cond t x z
once true x y z = refl
once false x y z = refl

-- the later of two files of one name stays
insert-insert : (files : Files) (name first second : List ℕ) → map.insert (map.insert files name first) name second ≡ map.insert files name second
insert-insert files name first second =
    same_map nat_list_cmp_total (slice_cmp-IsAntisymmetric nat_cmp-IsAntisymmetric) _ _ (λ q.
    get-insert nat_list_cmp_total (map.insert files name first) name second q
    ∙ ap (cond (eq_by_cmp (slice_cmp nat_cmp) q name) (Some second)) (get-insert nat_list_cmp_total files name first q)
    ∙ once (eq_by_cmp (slice_cmp nat_cmp) q name) (Some second) (Some first) (map.get files q)
    ∙ sym (get-insert nat_list_cmp_total files name second q))

content-insert : (files : Files) (name bytes : List ℕ) → content (map.insert files name bytes) name ≡ bytes
content-insert files name bytes =
    ap (λ (o : Option (List ℕ)). unwrap_or o []) (get-insert nat_list_cmp_total files name bytes name
    ∙ ap (λ (t : Bool). cond t (Some bytes) (map.get files name)) (ap is_eq (tied_itself nat_list_cmp_total name)))

more_file : (told : Option Files) (name first second : List ℕ) → with_more (with_file told name first) name second ≡ with_file told name (first ++ second)
more_file None name first second = refl
more_file (Some files) name first second =
    ap Some (insert-insert files name first (content (map.insert files name first) name ++ second)
    ∙ ap (λ (l : List ℕ). map.insert files name (l ++ second)) (content-insert files name first))

-- a file that is written twice holds what was written last
pub with_file-with_file : (told : Option Files) (name first second : List ℕ) → with_file (with_file told name first) name second ≡ with_file told name second
with_file-with_file None name first second = refl
with_file-with_file (Some files) name first second = ap Some (insert-insert files name first second)

pub write_more : (old mid new : Option Files) (name text piece : List ℕ) (at n : ℕ) → mid ≡ with_file old name (text ++ take at piece)
    → new ≡ with_more mid name (take n (take (length piece - at) (drop at piece))) → new ≡ with_file old name (text ++ take (at + n) piece)
write_more old mid new name text piece at n before write =
    let more = take n (take (length piece - at) (drop at piece)) in
    write ∙ ap (λ (told : Option Files). with_more told name more) before
    ∙ more_file old name (text ++ take at piece) more
    ∙ ap (with_file old name) (append_assoc text (take at piece) more ∙ ap (λ (l : List ℕ). text ++ l) (take_on piece at n))

-- where a piece is broken off, the file holds a front of all that was to be in it
pub broken_off : (old new : Option Files) (name text piece : List ℕ) (at : ℕ) → at ≤ length piece
    → new ≡ with_file old name (text ++ take at piece) → HoldsFront old new name (text ++ piece)
broken_off old new name text piece at within is =
    (length text + at, omega (arith, length-append text piece), is ∙ ap (with_file old name) (sym (take-append-add text piece at)))

-- what holds a front of a text holds a front of a longer one
pub longer : (old new : Option Files) (name text more : List ℕ) → HoldsFront old new name text → HoldsFront old new name (text ++ more)
longer old new name text more h =
    (h.0, omega (arith, h.1, length-append text more), h.2 ∙ ap (with_file old name) (sym (take-append-le h.0 text more h.1)))

-- one piece more
pub joined_more : (front : List ℕ) (pieces : List (Bor (List ℕ))) (at : ℕ) (d : Bor (List ℕ)) → at < length pieces
    → joined front (lent (take (at + 1) pieces)) ≡ joined front (lent (take at pieces)) ++ (get_or pieces at d).now
joined_more front pieces at d within =
    let piece = get_or pieces at d in
    ap (λ ps. joined front (lent ps)) (take_more pieces at d within)
    ∙ ap (joined front) (map-append (λ (b : Bor (List ℕ)). b.now) (take at pieces) (piece ∷ []))
    ∙ ap (λ l. front ++ l) (concat-append (lent (take at pieces)) (piece.now ∷ []) ∙ ap (λ l. concat (lent (take at pieces)) ++ l) (append-nil piece.now))
    ∙ sym (append_assoc front (concat (lent (take at pieces))) piece.now)

joined_rest : (front : List ℕ) (pieces : List (Bor (List ℕ))) (at : ℕ)
    → joined front (lent pieces) ≡ joined front (lent (take at pieces)) ++ concat (lent (drop at pieces))
joined_rest front pieces at =
    ap (λ ps. joined front (lent ps)) (sym (take-append-drop at pieces))
    ∙ ap (joined front) (map-append (λ (b : Bor (List ℕ)). b.now) (take at pieces) (drop at pieces))
    ∙ ap (λ l. front ++ l) (concat-append (lent (take at pieces)) (lent (drop at pieces)))
    ∙ sym (append_assoc front (concat (lent (take at pieces))) (concat (lent (drop at pieces))))

-- a piece that is broken off leaves a front of all pieces
pub broken_piece : (old new : Option Files) (name front : List ℕ) (pieces : List (Bor (List ℕ))) (at : ℕ) (d : Bor (List ℕ)) → at < length pieces
    → HoldsFront old new name (joined front (lent (take at pieces)) ++ (get_or pieces at d).now) → HoldsFront old new name (joined front (lent pieces))
broken_piece old new name front pieces at d within h =
    let so_far = joined front (lent (take (at + 1) pieces)) in
    let held : HoldsFront old new name so_far = subst (HoldsFront old new name) (sym (joined_more front pieces at d within)) h in
    subst (HoldsFront old new name) (sym (joined_rest front pieces (at + 1)))
    (longer old new name so_far (concat (lent (drop (at + 1) pieces))) held)

-- all pieces are written
pub all_written : (old new : Option Files) (name front : List ℕ) (pieces : List (Bor (List ℕ))) (at : ℕ) → length pieces ≤ at
    → new ≡ with_file old name (joined front (lent (take at pieces))) → new ≡ with_file old name (joined front (lent pieces))
all_written old new name front pieces at past is =
    is ∙ ap (λ ps. with_file old name (joined front (lent ps))) (take_all at pieces past)

-- a text is a front of itself
pub all_held : (old new : Option Files) (name text : List ℕ) → new ≡ with_file old name text → HoldsFront old new name text
all_held old new name text is = (length text, omega arith, is ∙ ap (with_file old name) (sym (take_all (length text) text (omega arith))))
