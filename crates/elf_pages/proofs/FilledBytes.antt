-- The bytes of a page, segment by segment.
use Rattle.std.proofs.Common.{◌≡◌, ℕ, zero, suc, ◌+◌, ◌-◌, ◌<◌, ◌≤◌, true, false, cond, List, [], ◌∷◌, length, get_or, take, drop, max, min, length-drop, refl, sym, ap, ◌∙◌, arith, inl, inr}
use Rattle.std.proofs.lemmas.Bool.{cases_lt}
use Rattle.std.proofs.lemmas.Bool.Decides.{nat_tests}
use Rattle.std.proofs.lemmas.List.{get_or_default, get_or-take, get_or-drop, length-take}
use Rattle.elf_pages.specs.declared.segment.Segment.{Segment}
use Rattle.elf_pages.specs.GuestBytes.{byte_in, holds}
use Rattle.elf_pages.specs.SegmentTables.{AreSorted}
use Rattle.elf_pages.specs.Segments.{end_of}

pub byte_none : (file : List ℕ) (segments : List Segment) (x : ℕ) → ((place : ℕ) (d : Segment) → place < length segments → holds x (get_or segments place d) ≡ false) → byte_in file segments x ≡ 0
byte_none file [] x none = refl
byte_none file (s ∷ ss) x none =
    ap (λ b. cond b (get_or file (s.offset + (x - s.address)) 0) (byte_in file ss x)) (none 0 s (omega arith))
    ∙ byte_none file ss x (λ place d less. none (suc place) d (omega arith))

pub byte_at : (file : List ℕ) (segments : List Segment) (x place : ℕ) (d : Segment) → place < length segments
    → ((other : ℕ) (e : Segment) → other < place → holds x (get_or segments other e) ≡ false) → holds x (get_or segments place d) ≡ true
    → byte_in file segments x ≡ byte_in file (get_or segments place d ∷ []) x
byte_at file [] x place d less before here = absurd (omega arith)
byte_at file (s ∷ ss) x zero d less before here = rw here refl
byte_at file (s ∷ ss) x (suc place) d less before here =
    ap (λ b. cond b (get_or file (s.offset + (x - s.address)) 0) (byte_in file ss x)) (before 0 s (omega arith))
    ∙ byte_at file ss x place d (omega arith) (λ other e small. before (suc other) e (omega arith)) here

alone_none : (file : List ℕ) (s : Segment) (x : ℕ) → holds x s ≡ false → byte_in file (s ∷ []) x ≡ 0
alone_none file s x h = rw h refl

pub alone_here : (file : List ℕ) (s : Segment) (x : ℕ) → holds x s ≡ true → byte_in file (s ∷ []) x ≡ get_or file (s.offset + (x - s.address)) 0
alone_here file s x h = rw h refl

held_at : (x : ℕ) (s : Segment) → s.address ≤ x → x < s.address + s.file_bytes → holds x s ≡ true
held_at x s low high = grind (arith, nat_tests)

-- how far a page is filled by the first `count` segments: its first `done` bytes
pub record FillWalk (file : List ℕ) (segments : List Segment) (page : ℕ) (out : List ℕ) (done count : ℕ) : Type 0 where
  pub size : length out ≡ 4096
  pub within : done ≤ 4096
  pub bytes : (i : ℕ) → i < done → get_or out i 0 ≡ byte_in file segments (page + i)
  pub left : (place : ℕ) (d : Segment) (x : ℕ) → place < count → page + done ≤ x → x < page + 4096 → holds x (get_or segments place d) ≡ false

not_yet : (x : ℕ) (s : Segment) → x < s.address → holds x s ≡ false
not_yet x s h = grind (arith, nat_tests)

-- a byte that a segment's step puts
new_byte : (file : List ℕ) (segments : List Segment) (size page done next count i : ℕ) (d : Segment) (out : List ℕ) → AreSorted size segments → FillWalk file segments page out done count → count < length segments
    → next ≤ 4096 → (done < next → page + next ≤ (get_or segments count d).address + (get_or segments count d).file_bytes)
    → done ≤ i → i < next → byte_in file (get_or segments count d ∷ []) (page + i) ≡ byte_in file segments (page + i)
new_byte file segments size page done next count i d out sorted walk within few reach low high =
    let s = get_or segments count d in
    let sizes = (sorted.each count d within).sizes in
    elim (holds (page + i) s) as (λ b. holds (page + i) s ≡ b → byte_in file (s ∷ []) (page + i) ≡ byte_in file segments (page + i)) [
      | true ↦ λ is. sym (byte_at file segments (page + i) count d within (λ other e less. walk.left other e (page + i) less (omega arith) (omega arith)) is)
      | false ↦ λ is. alone_none file s (page + i) is ∙ sym (byte_none file segments (page + i) (λ place e less. elim (cases_lt place count) [
        | inl before ↦ walk.left place e (page + i) before (omega arith) (omega arith)
        | inr behind ↦ elim (cases_lt count place) [
          | inl after ↦ not_yet (page + i) (get_or segments place e)
              (omega (arith, reach (omega arith), sizes, ap end_of (get_or_default segments count d e within), sorted.order count place e after less))
          | inr more ↦
              let here : count ≡ place = omega arith in
              ap (holds (page + i)) (ap (λ n. get_or segments n e) (sym here) ∙ get_or_default segments count e d within) ∙ is
        ]
      ]))
    ] refl

-- the walk with one segment more
pub fill_step : (file : List ℕ) (segments : List Segment) (size page done next count : ℕ) (d : Segment) (out new : List ℕ) → AreSorted size segments → FillWalk file segments page out done count → count < length segments
    → length new ≡ 4096 → done ≤ next → next ≤ 4096
    → ((i : ℕ) → i < done → get_or new i 0 ≡ get_or out i 0)
    → ((i : ℕ) → done ≤ i → i < next → get_or new i 0 ≡ byte_in file (get_or segments count d ∷ []) (page + i))
    → (done < next → page + next ≤ (get_or segments count d).address + (get_or segments count d).file_bytes)
    → ((x : ℕ) → page + next ≤ x → x < page + 4096 → holds x (get_or segments count d) ≡ false)
    → FillWalk file segments page new next (count + 1)
fill_step file segments size page done next count d out new sorted walk within sized more few below bytes reach rest = record {
  size = sized;
  within = few;
  bytes = λ i less. elim (cases_lt i done) [
    | inl before ↦ below i before ∙ walk.bytes i before
    | inr behind ↦ bytes i behind less ∙ new_byte file segments size page done next count i d out sorted walk within few reach behind less
  ];
  left = λ place e x less from to. elim (cases_lt place count) [
    | inl before ↦ walk.left place e x before (omega arith) to
    | inr behind ↦
        let here : count ≡ place = omega arith in
        ap (holds x) (ap (λ n. get_or segments n e) (sym here) ∙ get_or_default segments count e d within) ∙ rest x from to
  ];
}

-- what is left after the last segment is zero
pub fill_last : (file : List ℕ) (segments : List Segment) (page done count i : ℕ) (out new : List ℕ) → FillWalk file segments page out done count → length segments ≤ count → i < 4096
    → ((n : ℕ) → n < done → get_or new n 0 ≡ get_or out n 0) → ((n : ℕ) → done ≤ n → n < 4096 → get_or new n 0 ≡ 0)
    → get_or new i 0 ≡ byte_in file segments (page + i)
fill_last file segments page done count i out new walk all few below zeros = elim (cases_lt i done) [
  | inl before ↦ below i before ∙ walk.bytes i before
  | inr behind ↦ zeros i behind few ∙ sym (byte_none file segments (page + i) (λ place d less. walk.left place d (page + i) (omega arith) (omega arith) (omega arith)))
]

-- ---- what one step puts

pub put_byte : (file : List ℕ) (s : Segment) (page done start end at to place n i : ℕ) (zeroed new : List ℕ) → start ≡ max s.address (page + done) → end ≡ min (s.address + s.file_bytes) (page + 4096) → start < end
    → at ≡ start - page → to ≡ end - page → place ≡ s.offset + (start - s.address) → n ≡ to - at → place + n ≤ length file
    → ((k : ℕ) → done ≤ k → k < at → get_or zeroed k 0 ≡ 0) → ((k : ℕ) → k < at → get_or new k 0 ≡ get_or zeroed k 0)
    → ((k : ℕ) → at ≤ k → k < at + length (take n (drop place file)) → get_or new k 0 ≡ get_or (take n (drop place file)) (k - at) 0)
    → done ≤ i → i < to → get_or new i 0 ≡ byte_in file (s ∷ []) (page + i)
put_byte file s page done start end at to place n i zeroed new starts ends some is_at is_to is_place is_n inside zeros below bytes low high = elim (cases_lt i at) [
  | inl before ↦ below i before ∙ zeros i low before ∙ sym (alone_none file s (page + i) (not_yet (page + i) s (omega arith)))
  | inr behind ↦
      let long : length (take n (drop place file)) ≡ n = omega (arith, length-take n (drop place file), length-drop place file) in
      let held = held_at (page + i) s (omega arith) (omega arith) in
      let same : place + (i - at) ≡ s.offset + ((page + i) - s.address) = omega arith in
      bytes i behind (omega arith)
      ∙ get_or-take n (drop place file) (i - at) 0 (omega arith)
      ∙ get_or-drop place file (i - at) 0
      ∙ ap (λ k. get_or file k 0) same
      ∙ sym (alone_here file s (page + i) held)
]
