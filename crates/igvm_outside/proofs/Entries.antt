-- A list of entries as a finite map: the first entry of a name is found, replaced in its place, or pushed.
use Rattle.std.proofs.Common.{◌≡◌, ◌≢◌, ℕ, zero, suc, ◌<◌, Bool, true, false, cond, List, [], ◌∷◌, ◌++◌, length, get_or, refl, sym, ◌∙◌, ap, subst, arith, length-append}
use Rattle.std.specs.Prelude.{Option, None, Some}
use Rattle.std.specs.Option.{unwrap_or}
use Rattle.std.proofs.Math.ListN.{set}
use Rattle.std.proofs.lemmas.List.{get_or-map, length-map, map-append, map-set, get_or-set_same, get_or-set_other, length-set, get_or_append_left}
use Rattle.std.proofs.Math.Seq.{get_or-append_seam, map-set_same}
use Rattle.std.specs.FinMap as finite
use Rattle.std.specs.FinMap.{find, get-from_entries, get-insert, same_map, from_entries_push, slice_cmp-IsAntisymmetric, nat_cmp-IsAntisymmetric, IsAntisymmetric}
use Rattle.std.specs.declared.cmp.Ordering.{Ordering}
use Rattle.std.specs.declared.cmp.Ordering.TheVariants.{Less, Equal, Greater}
use Rattle.std.specs.Ordering.{nat_cmp, eq_by_cmp, is_eq}
use Rattle.std.specs.Cmp.Lexicographic.{slice_cmp}
use Rattle.std.proofs.lemmas.Cmp.{nat_list_cmp_total, tied_itself}
use Rattle.igvm_outside.specs.Files.{content}
use Rattle.igvm_outside.specs.MemFiles.{entries, files_of, name_at, bytes_at, IsFileAt}
use Rattle.igvm_outside.specs.declared.fakes.mem_files.KeptFile.{KeptFile}

abbrev Entry : Type 0
Entry = List ℕ × List ℕ

abbrev order : List ℕ → List ℕ → Ordering
order = slice_cmp nat_cmp

exact : IsAntisymmetric order
exact = slice_cmp-IsAntisymmetric nat_cmp-IsAntisymmetric

-- whether two names are one
abbrev same : List ℕ → List ℕ → Bool
same = eq_by_cmp order

abbrev name : List Entry → ℕ → List ℕ
name es at = (get_or es at ([], [])).0

abbrev bytes : List Entry → ℕ → List ℕ
bytes es at = (get_or es at ([], [])).1

equal_of_test : (o : Ordering) → is_eq o ≡ true → o ≡ Equal
equal_of_test Less e = cc
equal_of_test Equal e = refl
equal_of_test Greater e = cc

same-true : (a b : List ℕ) → same a b ≡ true → a ≡ b
same-true a b e = exact a b (equal_of_test (order a b) e)

same-itself : (a : List ℕ) → same a a ≡ true
same-itself a = ap is_eq (tied_itself nat_list_cmp_total a)

same-other : (a b : List ℕ) (t : Bool) → same a b ≡ t → a ≢ b → t ≡ false
same-other a b true e apart = absurd (apart (same-true a b e))
same-other a b false e apart = refl

some_is_not_none : {A : Type 0} (x : A) → Some x ≡ None → ⊥
some_is_not_none x e = cc

shadow : {A : Type 0} (t : Bool) (x y z : A) → cond t x z ≡ cond t x (cond t y z)
shadow true x y z = refl
shadow false x y z = refl

swap : {A : Type 0} (s t : Bool) (x y z : A) → (s ≡ true → t ≡ true → ⊥) → cond s x (cond t y z) ≡ cond t y (cond s x z)
swap true true x y z apart = absurd (apart refl refl)
swap true false x y z apart = refl
swap false t x y z apart = refl

find_none : (es : List Entry) (q : List ℕ) → ((k : ℕ) → k < length es → name es k ≢ q) → find order q es ≡ None
find_none [] q none = refl
find_none (e ∷ es) q none =
    let apart : same q e.0 ≡ false = same-other q e.0 _ refl (λ is. none 0 (omega arith) (sym is)) in
    ap (λ (t : Bool). cond t (Some e.1) (find order q es)) apart ∙ find_none es q (λ k below. none (suc k) (omega arith))

none_found : (es : List Entry) (q : List ℕ) → find order q es ≡ None → (k : ℕ) → k < length es → name es k ≢ q
none_found [] q none k below = absurd (omega arith)
none_found (e ∷ es) q none zero below = λ is.
    let here : same q e.0 ≡ true = subst (λ n. same q n ≡ true) (sym is) (same-itself q) in
    some_is_not_none e.1 (sym (ap (λ (t : Bool). cond t (Some e.1) (find order q es)) here) ∙ none)
none_found (e ∷ es) q none (suc k) below = none_found es q (rest (same q e.0) refl) k (omega arith)
  where
    rest : (t : Bool) → same q e.0 ≡ t → find order q es ≡ None
    rest true is = absurd (some_is_not_none e.1 (sym (ap (λ (t : Bool). cond t (Some e.1) (find order q es)) is) ∙ none))
    rest false is = sym (ap (λ (t : Bool). cond t (Some e.1) (find order q es)) is) ∙ none

find_first : (es : List Entry) (q : List ℕ) (at : ℕ) → at < length es → name es at ≡ q → ((k : ℕ) → k < at → name es k ≢ q) → find order q es ≡ Some (bytes es at)
find_first [] q at below named first = absurd (omega arith)
find_first (e ∷ es) q zero below named first =
    let here : same q e.0 ≡ true = subst (λ n. same q n ≡ true) (sym named) (same-itself q) in
    ap (λ (t : Bool). cond t (Some e.1) (find order q es)) here
find_first (e ∷ es) q (suc at) below named first =
    let apart : same q e.0 ≡ false = same-other q e.0 _ refl (λ is. first 0 (omega arith) (sym is)) in
    ap (λ (t : Bool). cond t (Some e.1) (find order q es)) apart
    ∙ find_first es q at (omega arith) named (λ k less. first (suc k) (omega arith))

find_set : (es : List Entry) (q n b : List ℕ) (at : ℕ) → at < length es → name es at ≡ n → ((k : ℕ) → k < at → name es k ≢ n)
    → find order q (set es at (n, b)) ≡ cond (same q n) (Some b) (find order q es)
find_set [] q n b at below named first = absurd (omega arith)
find_set (e ∷ es) q n b zero below named first =
    shadow (same q n) (Some b) (Some e.1) (find order q es)
    ∙ ap (λ (k : List ℕ). cond (same q n) (Some b) (cond (same q k) (Some e.1) (find order q es))) (sym named)
find_set (e ∷ es) q n b (suc at) below named first =
    ap (λ (o : Option (List ℕ)). cond (same q e.0) (Some e.1) o) (find_set es q n b at (omega arith) named (λ k less. first (suc k) (omega arith)))
    ∙ swap (same q e.0) (same q n) (Some e.1) (Some b) (find order q es) (λ here there. first 0 (omega arith) (sym (same-true q e.0 here) ∙ same-true q n there))

-- what holds of the entries, over the files that are kept
length-entries : (files : List KeptFile) → length (entries files) ≡ length files
length-entries files = length-map files _

pub none_there : (files : List KeptFile) (q : List ℕ) → ((k : ℕ) → k < length files → name_at files k ≢ q) → finite.get (files_of files) q ≡ None
none_there files q none = get-from_entries nat_list_cmp_total (entries files) q ∙ find_none (entries files) q (λ k below. none k (omega (arith, length-entries files)))

pub is_there : (files : List KeptFile) (q : List ℕ) (at : ℕ) → IsFileAt files q at → finite.get (files_of files) q ≡ Some (bytes_at files at)
is_there files q at here =
    get-from_entries nat_list_cmp_total (entries files) q
    ∙ find_first (entries files) q at (omega (arith, length-entries files, here.within)) here.named here.first

pub content_there : (files : List KeptFile) (q : List ℕ) (at : ℕ) → IsFileAt files q at → content (files_of files) q ≡ bytes_at files at
content_there files q at here = ap (λ (o : Option (List ℕ)). unwrap_or o []) (is_there files q at here)

-- another file of this name in its place
pub replaced : (files : List KeptFile) (q : List ℕ) (at : ℕ) (file : KeptFile) → IsFileAt files q at → file.name.items ≡ q
    → files_of (set files at file) ≡ finite.insert (files_of files) q file.bytes.items
replaced files q at file here named =
    let es = entries files in
    let b = file.bytes.items in
    let put : entries (set files at file) ≡ set es at (q, b) = map-set _ files at file ∙ ap (λ (n : List ℕ). set es at (n, b)) named in
    ap finite.from_entries put
    ∙ same_map nat_list_cmp_total exact _ _ (λ k.
    get-from_entries nat_list_cmp_total (set es at (q, b)) k
    ∙ find_set es k q b at (omega (arith, length-entries files, here.within)) here.named here.first
    ∙ ap (cond (same k q) (Some b)) (sym (get-from_entries nat_list_cmp_total es k))
    ∙ sym (get-insert nat_list_cmp_total (files_of files) q b k))

pub replaced_there : (files : List KeptFile) (q : List ℕ) (at : ℕ) (file : KeptFile) → IsFileAt files q at → file.name.items ≡ q → IsFileAt (set files at file) q at
replaced_there files q at file here named =
    let es = entries files in
    let inside : at < length es = omega (arith, length-entries files, here.within) in
    let put : entries (set files at file) ≡ set es at (file.name.items, file.bytes.items) = map-set _ files at file in
    record {
      within = omega (arith, length-set files at file, here.within);
      named = ap (λ (l : List Entry). name l at) put ∙ ap (λ (e : Entry). e.0) (get_or-set_same es at _ _ inside) ∙ named;
      first = λ k less is.
          let other : k ≢ at = omega arith in
          here.first k less (sym (ap (λ (e : Entry). e.0) (get_or-set_other es at k (file.name.items, file.bytes.items) ([], []) other)) ∙ sym (ap (λ (l : List Entry). name l k) put) ∙ is);
    }

-- a file of a new name after the others
pub pushed : (files : List KeptFile) (q : List ℕ) (file : KeptFile) → finite.get (files_of files) q ≡ None → file.name.items ≡ q
    → files_of (files ++ file ∷ []) ≡ finite.insert (files_of files) q file.bytes.items
pushed files q file none named =
    ap finite.from_entries (map-append _ files (file ∷ []))
    ∙ ap (λ (n : List ℕ). finite.from_entries (entries files ++ (n, file.bytes.items) ∷ [])) named
    ∙ from_entries_push nat_list_cmp_total exact (entries files) q file.bytes.items (sym (get-from_entries nat_list_cmp_total (entries files) q) ∙ none)

pub pushed_there : (files : List KeptFile) (q : List ℕ) (file : KeptFile) → finite.get (files_of files) q ≡ None → file.name.items ≡ q
    → IsFileAt (files ++ file ∷ []) q (length files)
pushed_there files q file none named =
    let es = entries files in
    let more : entries (files ++ file ∷ []) ≡ es ++ (file.name.items, file.bytes.items) ∷ [] = map-append _ files (file ∷ []) in
    record {
      within = omega (arith, length-append files (file ∷ []));
      named =
          ap (λ (l : List Entry). name l (length files)) more
          ∙ ap (λ (k : ℕ). name (es ++ (file.name.items, file.bytes.items) ∷ []) k) (sym (length-entries files))
          ∙ ap (λ (e : Entry). e.0) (get_or-append_seam es (file.name.items, file.bytes.items) [] ([], []))
          ∙ named;
      first = λ k less is.
          none_found es q (sym (get-from_entries nat_list_cmp_total es q) ∙ none) k (omega (arith, length-entries files))
          (sym (ap (λ (e : Entry). e.0) (get_or_append_left es _ ([], []) k (omega (arith, length-entries files)))) ∙ sym (ap (λ (l : List Entry). name l k) more) ∙ is);
    }

-- a file as the code reads it
pub name_read : (files : List KeptFile) (at : ℕ) (d : KeptFile) → at < length files → name_at files at ≡ (get_or files at d).name.items
name_read files at d below = ap (λ (e : Entry). e.0) (get_or-map (λ (f : KeptFile). (f.name.items, f.bytes.items)) files at d ([], []) below)

pub bytes_read : (files : List KeptFile) (at : ℕ) (d : KeptFile) → at < length files → bytes_at files at ≡ (get_or files at d).bytes.items
bytes_read files at d below = ap (λ (e : Entry). e.1) (get_or-map (λ (f : KeptFile). (f.name.items, f.bytes.items)) files at d ([], []) below)

-- a file with the same name and bytes, in its place
pub entries_same : (files : List KeptFile) (at : ℕ) (file d : KeptFile) → file.name.items ≡ (get_or files at d).name.items → file.bytes.items ≡ (get_or files at d).bytes.items
    → entries (set files at file) ≡ entries files
entries_same files at file d names bytes = map-set_same (λ (f : KeptFile). (f.name.items, f.bytes.items)) files at file d (λ i. (names i, bytes i))
