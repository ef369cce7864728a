-- Joined records of TDX are cut into records in one way only: each begins with its name, and the name tells its size.
use Rattle.std.proofs.Common.{◌≡◌, ℕ, zero, suc, ◌+◌, ◌*◌, ◌<◌, ◌≤◌, ◌^◌, List, [], ◌∷◌, ◌++◌, length, take, drop, map, replicate, get_or, refl, sym, ap, ap₂, ◌∙◌, append_assoc, append-nil, length-append, take_all, take-add, arith, Option, Some, None}
use Rattle.std.specs.Prelude.{IfSome}
use Rattle.std.specs.List.{AllByRecursion, concat, flat_map, range_with_len}
use Rattle.std.proofs.lemmas.List.{length-take, length-drop}
use Rattle.std.proofs.lemmas.List.Folds.{concat-append}
use Rattle.std.proofs.lemmas.List.FromFn.{map-range_with_len_more}
use Rattle.igvm_headers.specs.Endian.{little_bytes}
use Rattle.igvm_headers.specs.Numbers.{slice}
use Rattle.tdx_chain.specs.Stream.{record_front, page_add, mr_extend, page_add_record, extend_record, chunk_records, extend_records}
use Rattle.igvm_measure.specs.Measured.{TdxMeasured}
use Rattle.igvm_measure.specs.Records.{extended, tdx_records_of}
use Rattle.igvm_measure.specs.Hashed.{tdx_joined}
use Rattle.igvm_measure.proofs.Cuts.{cut_after}
use Rattle.igvm_measure.proofs.ChainBinding.{address_read}

-- ---- a record's front

length-front : (name : List ℕ) (gpa : ℕ) → length name ≡ 16 → length (record_front name gpa) ≡ 128
unfolding record_front
length-front name gpa size =
    let address : length (little_bytes 8 gpa) ≡ 8 = refl in
    let end : List ℕ = replicate 104 0 in
    let zeros : length end ≡ 104 = refl in
    omega (arith, length-append (name ++ little_bytes 8 gpa) end, length-append name (little_bytes 8 gpa))

record FrontTells (name other : List ℕ) (gpa place : ℕ) : Type 0 where
  pub same_name : name ≡ other
  pub address : little_bytes 8 gpa ≡ little_bytes 8 place

front_tells : (name other : List ℕ) (gpa place : ℕ) → length name ≡ 16 → length other ≡ 16
    → record_front name gpa ≡ record_front other place → FrontTells name other gpa place
unfolding record_front
front_tells name other gpa place size other_size same =
    let eight : length (little_bytes 8 gpa) ≡ 8 = refl in
    let other_eight : length (little_bytes 8 place) ≡ 8 = refl in
    let both : length (name ++ little_bytes 8 gpa) ≡ length (other ++ little_bytes 8 place) =
    omega (arith, length-append name (little_bytes 8 gpa), length-append other (little_bytes 8 place)) in
    let front = cut_after (name ++ little_bytes 8 gpa) (other ++ little_bytes 8 place) (replicate 104 0) (replicate 104 0) both same in
    let parts = cut_after name other (little_bytes 8 gpa) (little_bytes 8 place) (size ∙ sym other_size) front.0 in
    record { same_name = parts.0; address = parts.1 }

-- the two kinds of record have two names
names_differ : mr_extend ≡ page_add → ⊥
names_differ same = let letters : get_or mr_extend 1 0 ≡ get_or page_add 1 0 = ap (λ (xs : List ℕ). get_or xs 1 0) same in omega arith

-- ---- the chunks of a page

last_chunk : (gpa k : ℕ) (page : List ℕ) → concat (chunk_records gpa page (k + 1)) ≡ concat (chunk_records gpa page k) ++ extend_record (gpa + 256 * k) (slice page (256 * k) 256)
last_chunk gpa k page =
    let record_at = λ (n : ℕ). extend_record (gpa + 256 * n) (slice page (256 * n) 256) in
    let more : chunk_records gpa page (k + 1) ≡ chunk_records gpa page k ++ record_at k ∷ [] = map-range_with_len_more record_at 0 k k (omega arith) in
    ap concat more ∙ concat-append (chunk_records gpa page k) (record_at k ∷ []) ∙ ap (λ (end : List ℕ). concat (chunk_records gpa page k) ++ end) (append-nil (record_at k))

length-chunk : (page : List ℕ) (k : ℕ) → length page ≡ 4096 → k < 16 → length (slice page (256 * k) 256) ≡ 256
length-chunk page k size within = omega (arith, length-take 256 (drop (256 * k) page), length-drop (256 * k) page)

length-record : (gpa k : ℕ) (page : List ℕ) → length page ≡ 4096 → k < 16 → length (extend_record gpa (slice page (256 * k) 256)) ≡ 384
length-record gpa k page size within =
    omega (arith, length-append (record_front mr_extend gpa) (slice page (256 * k) 256), length-front mr_extend gpa refl, length-chunk page k size within)

length-chunks : (gpa n : ℕ) (page : List ℕ) → length page ≡ 4096 → n ≤ 16 → length (concat (chunk_records gpa page n)) ≡ 384 * n
length-chunks gpa zero page size within = refl
length-chunks gpa (suc n) page size within =
    let next : suc n ≡ n + 1 = omega arith in
    let more : length (concat (chunk_records gpa page (n + 1))) ≡ 384 * suc n =
    ap length (last_chunk gpa n page) ∙ omega (arith, length-append (concat (chunk_records gpa page n)) (extend_record (gpa + 256 * n) (slice page (256 * n) 256)), length-chunks gpa n page size (omega arith), length-record (gpa + 256 * n) n page size (omega arith)) in
    ap (λ (m : ℕ). length (concat (chunk_records gpa page m))) next ∙ more

chunks_tell : (gpa n : ℕ) (p q : List ℕ) → length p ≡ 4096 → length q ≡ 4096 → n ≤ 16
    → concat (chunk_records gpa p n) ≡ concat (chunk_records gpa q n) → take (256 * n) p ≡ take (256 * n) q
chunks_tell gpa zero p q size other_size within same = refl
chunks_tell gpa (suc n) p q size other_size within same =
    let one = λ (page : List ℕ). extend_record (gpa + 256 * n) (slice page (256 * n) 256) in
    let next : suc n ≡ n + 1 = omega arith in
    let here : concat (chunk_records gpa p (n + 1)) ≡ concat (chunk_records gpa q (n + 1)) =
    ap (λ (m : ℕ). concat (chunk_records gpa p m)) (sym next) ∙ same ∙ ap (λ (m : ℕ). concat (chunk_records gpa q m)) next in
    let cut = cut_after (concat (chunk_records gpa p n)) (concat (chunk_records gpa q n)) (one p) (one q)
    (length-chunks gpa n p size (omega arith) ∙ sym (length-chunks gpa n q other_size (omega arith)))
    (sym (last_chunk gpa n p) ∙ here ∙ last_chunk gpa n q) in
    let chunk = cut_after (record_front mr_extend (gpa + 256 * n)) (record_front mr_extend (gpa + 256 * n)) (slice p (256 * n) 256) (slice q (256 * n) 256) refl cut.1 in
    let before = chunks_tell gpa n p q size other_size (omega arith) cut.0 in
    let count : 256 * suc n ≡ 256 * n + 256 = omega arith in
    ap (λ (m : ℕ). take m p) count ∙ take-add (256 * n) 256 p
    ∙ ap₂ (λ (xs ys : List ℕ). xs ++ ys) before chunk.1
    ∙ sym (take-add (256 * n) 256 q) ∙ ap (λ (m : ℕ). take m q) (sym count)

length-extended : (gpa : ℕ) (page : List ℕ) → length page ≡ 4096 → length (concat (extend_records gpa page)) ≡ 6144
unfolding extend_records
length-extended gpa page size = length-chunks gpa 16 page size (omega arith)

page_told : (gpa : ℕ) (p q : List ℕ) → length p ≡ 4096 → length q ≡ 4096 → concat (extend_records gpa p) ≡ concat (extend_records gpa q) → p ≡ q
unfolding extend_records
page_told gpa p q size other_size same =
    sym (take_all 4096 p (omega arith)) ∙ chunks_tell gpa 16 p q size other_size (omega arith) same ∙ take_all 4096 q (omega arith)

-- ---- a page

-- the page's address fits its field, and its bytes are a page
pub record FitsStream (m : TdxMeasured) : Type 0 where
  pub address : m.gpa < 2 ^ 64
  pub size : IfSome m.bytes (λ page. length page ≡ 4096)

joined-cons : (m : TdxMeasured) (ms : List TdxMeasured) → tdx_joined (m ∷ ms) ≡ page_add_record m.gpa ++ (concat (extended m.gpa m.bytes) ++ tdx_joined ms)
joined-cons m ms = ap (λ (end : List ℕ). page_add_record m.gpa ++ end) (concat-append (extended m.gpa m.bytes) (flat_map tdx_records_of ms))

length-add : (gpa : ℕ) → length (page_add_record gpa) ≡ 128
length-add gpa = length-front page_add gpa refl

-- no records begin with a page's bytes
not_none : (front end : List ℕ) → 0 < length front → front ++ end ≡ [] → ⊥
not_none [] end some same = omega arith
not_none (x ∷ front) end some same = cc

extend_first : (gpa : ℕ) (page : List ℕ) → (rest : List ℕ) × (concat (extend_records gpa page) ≡ record_front mr_extend (gpa + 256 * 0) ++ rest)
unfolding extend_records
extend_first gpa page = (_, append_assoc (record_front mr_extend (gpa + 256 * 0)) (slice page 0 256) (concat (map (λ (k : ℕ). extend_record (gpa + 256 * k) (slice page (256 * k) 256)) (range_with_len 1 15))))

-- a page's bytes are not the place of another page, nor nothing
bytes_first : (gpa : ℕ) (page end : List ℕ) (ns : List TdxMeasured) → concat (extend_records gpa page) ++ end ≡ tdx_joined ns → ⊥
bytes_first gpa page end [] same =
    let first = extend_first gpa page in
    let whole = sym (append_assoc (record_front mr_extend (gpa + 256 * 0)) first.0 end) ∙ ap (λ (xs : List ℕ). xs ++ end) (sym first.1) ∙ same in
    not_none (record_front mr_extend (gpa + 256 * 0)) (first.0 ++ end) (omega (arith, length-front mr_extend (gpa + 256 * 0) refl)) whole
bytes_first gpa page end (n ∷ ns) same =
    let first = extend_first gpa page in
    let whole = sym (append_assoc (record_front mr_extend (gpa + 256 * 0)) first.0 end) ∙ ap (λ (xs : List ℕ). xs ++ end) (sym first.1) ∙ same ∙ joined-cons n ns in
    let fronts = cut_after (record_front mr_extend (gpa + 256 * 0)) (page_add_record n.gpa) (first.0 ++ end) (concat (extended n.gpa n.bytes) ++ tdx_joined ns)
    (length-front mr_extend (gpa + 256 * 0) refl ∙ sym (length-add n.gpa)) whole in
    names_differ (front_tells mr_extend page_add (gpa + 256 * 0) n.gpa refl refl fronts.0).same_name

-- behind a page's place: its bytes or none, and the pages that follow
behind_place : (gpa : ℕ) (x y : Option (List ℕ)) (ms ns : List TdxMeasured) → IfSome x (λ page. length page ≡ 4096) → IfSome y (λ page. length page ≡ 4096)
    → concat (extended gpa x) ++ tdx_joined ms ≡ concat (extended gpa y) ++ tdx_joined ns → (x ≡ y) × (tdx_joined ms ≡ tdx_joined ns)
behind_place gpa None None ms ns size other_size same = (refl, same)
behind_place gpa None (Some q) ms ns size other_size same = absurd (bytes_first gpa q (tdx_joined ns) ms (sym same))
behind_place gpa (Some p) None ms ns size other_size same = absurd (bytes_first gpa p (tdx_joined ms) ns same)
behind_place gpa (Some p) (Some q) ms ns size other_size same =
    let cut = cut_after (concat (extend_records gpa p)) (concat (extend_records gpa q)) (tdx_joined ms) (tdx_joined ns) (length-extended gpa p size ∙ sym (length-extended gpa q other_size)) same in
    (ap (λ (page : List ℕ). Some page) (page_told gpa p q size other_size cut.0), cut.1)

-- joined records are cut into records in one way only
pub stream_binds : (ms ns : List TdxMeasured) → AllByRecursion FitsStream ms → AllByRecursion FitsStream ns → tdx_joined ms ≡ tdx_joined ns → ms ≡ ns
stream_binds [] [] fits other_fits same = refl
stream_binds [] (n ∷ ns) fits other_fits same =
    absurd (not_none (page_add_record n.gpa) (concat (extended n.gpa n.bytes) ++ tdx_joined ns) (omega (arith, length-add n.gpa)) (sym (same ∙ joined-cons n ns)))
stream_binds (m ∷ ms) [] fits other_fits same =
    absurd (not_none (page_add_record m.gpa) (concat (extended m.gpa m.bytes) ++ tdx_joined ms) (omega (arith, length-add m.gpa)) (sym (joined-cons m ms) ∙ same))
stream_binds (m ∷ ms) (n ∷ ns) fits other_fits same =
    let cut = cut_after (page_add_record m.gpa) (page_add_record n.gpa) (concat (extended m.gpa m.bytes) ++ tdx_joined ms) (concat (extended n.gpa n.bytes) ++ tdx_joined ns)
    (length-add m.gpa ∙ sym (length-add n.gpa)) (sym (joined-cons m ms) ∙ same ∙ joined-cons n ns) in
    let place : m.gpa ≡ n.gpa = address_read m.gpa n.gpa fits.0.address other_fits.0.address (front_tells page_add page_add m.gpa n.gpa refl refl cut.0).address in
    let rest = behind_place m.gpa m.bytes n.bytes ms ns fits.0.size other_fits.0.size
    (cut.1 ∙ ap (λ (gpa : ℕ). concat (extended gpa n.bytes) ++ tdx_joined ns) (sym place)) in
    let page : m ≡ n = ap₂ (λ (g : ℕ) (b : Option (List ℕ)). record { gpa = g; bytes = b }) place rest.0 in
    ap₂ (λ (x : TdxMeasured) (xs : List TdxMeasured). x ∷ xs) page (stream_binds ms ns fits.1 other_fits.1 rest.1)
