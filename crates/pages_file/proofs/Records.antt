-- Records, and records in a row.
use Rattle.std.proofs.Common.{◌≡◌, ℕ, ◌+◌, ◌*◌, List, [], ◌∷◌, ◌++◌, length, take, drop, refl, sym, ◌∙◌, ap, arith, length-append, append-nil}
use Rattle.std.specs.Prelude.{Some, slice_get}
use Rattle.std.specs.List.{AllByRecursion, flat_map}
use Rattle.std.proofs.lemmas.List.{take_all, take_more, take-append-drop}
use Rattle.std.proofs.lemmas.List.Concat.{flat_map-append}
use Rattle.std.proofs.lemmas.Option.{slice_get_within, get_or_from_slice_get}
use Rattle.launch_platform.specs.Machine.{Entry, Context}
use Rattle.pages_file.specs.PagesFile.{record_bytes, entry_record, context_record, pages_file}

-- a field put at a place, behind what stands there
pub put_behind : (at size : ℕ) (old new bytes field : List ℕ) → bytes ≡ field → length field ≡ size
    → take (at + length bytes) new ≡ take at old ++ bytes → take (at + size) new ≡ take at old ++ field
put_behind at size old new bytes field is fits put =
    ap (λ n. take (at + n) new) (sym (ap length is ∙ fits)) ∙ put ∙ ap (λ l. take at old ++ l) is

-- a field put behind each one before makes the record of all five
pub in_a_row : (r1 r2 r3 r4 r5 address kind processor zeros page : List ℕ) → length r5 ≡ 4112
    → take 8 r1 ≡ address → take 10 r2 ≡ take 8 r1 ++ kind → take 12 r3 ≡ take 10 r2 ++ processor
    → take 16 r4 ≡ take 12 r3 ++ zeros → take 4112 r5 ≡ take 16 r4 ++ page
    → r5 ≡ address ++ kind ++ processor ++ zeros ++ page
in_a_row r1 r2 r3 r4 r5 address kind processor zeros page size first second third fourth fifth =
    sym (take_all 4112 r5 (omega arith)) ∙ fifth
    ∙ ap (λ l. l ++ page) (fourth ∙ ap (λ l. l ++ zeros) (third ∙ ap (λ l. l ++ processor) (second ∙ ap (λ l. l ++ kind) first)))

-- one item more, which was found at its place
pub row_more : {X : Type 0} (f : X → List ℕ) (xs : List X) (k : ℕ) (x : X) → Some x ≡ slice_get xs k
    → flat_map f (take (k + 1) xs) ≡ flat_map f (take k xs) ++ f x
row_more f xs k x there =
    let found : slice_get xs k ≡ Some x = sym there in
    ap (flat_map f) (take_more xs k x (slice_get_within xs k x found) ∙ ap (λ y. take k xs ++ y ∷ []) (get_or_from_slice_get xs k x x found))
    ∙ flat_map-append f (take k xs) (x ∷ [])
    ∙ ap (λ l. flat_map f (take k xs) ++ l) (append-nil (f x))

-- what stands behind the item at a place
pub row_rest : {X : Type 0} (f : X → List ℕ) (xs : List X) (k : ℕ) (x : X) → Some x ≡ slice_get xs k
    → flat_map f xs ≡ flat_map f (take k xs) ++ f x ++ flat_map f (drop (k + 1) xs)
row_rest f xs k x there =
    ap (flat_map f) (sym (take-append-drop (k + 1) xs))
    ∙ flat_map-append f (take (k + 1) xs) (drop (k + 1) xs)
    ∙ ap (λ l. l ++ flat_map f (drop (k + 1) xs)) (row_more f xs k x there)

record_size : (gpa kind vp : ℕ) (page : List ℕ) → length page ≡ 4096 → length (record_bytes gpa kind vp page) ≡ 4112
unfolding record_bytes
record_size gpa kind vp page whole = omega (arith, whole)

row_size : {X : Type 0} (page : X → List ℕ) (f : X → List ℕ) → ((x : X) → length (page x) ≡ 4096 → length (f x) ≡ 4112)
    → (xs : List X) → AllByRecursion (λ x. length (page x) ≡ 4096) xs → length (flat_map f xs) ≡ 4112 * length xs
row_size page f each [] all = refl
row_size page f each (x ∷ xs) all = omega (arith, length-append (f x) (flat_map f xs), each x all.0, row_size page f each xs all.1)

pub file_size : (entries : List Entry) (contexts : List Context) → AllByRecursion (λ entry. length entry.page ≡ 4096) entries
    → AllByRecursion (λ context. length context.page ≡ 4096) contexts
    → length (pages_file entries contexts) ≡ 4112 * (length entries + length contexts)
file_size entries contexts whole_entries whole_contexts =
    omega (
      arith,
      length-append (flat_map entry_record entries) (flat_map context_record contexts),
      row_size (λ entry. entry.page) entry_record (λ entry whole. record_size _ _ _ _ whole) entries whole_entries,
      row_size (λ context. context.page) context_record (λ context whole. record_size _ _ _ _ whole) contexts whole_contexts,
    )
