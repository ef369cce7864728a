-- What the reader keeps while it walks a section's headers.
use Rattle.std.proofs.Common.{◌≡◌, ℕ, ◌+◌, ◌-◌, ◌*◌, ◌<◌, ◌≤◌, List, [], ◌∷◌, ◌++◌, length, refl, sym, ◌∙◌, ap, ap₂, drop, append_assoc, append-nil, length-append, arith, Some, None, Ok, Err}
use Rattle.std.specs.Prelude.{if◌then◌else◌, ◌==◌}
use Rattle.std.proofs.lemmas.List.{length-drop, length-take}
use Rattle.igvm_headers.specs.declared.header.Header.{Header}
use Rattle.igvm_headers.specs.declared.fault.ReadWhat.{ReadWhat}
use Rattle.igvm_headers.specs.declared.fault.ReadWhat.TheVariants.{HeaderCut, NoPlatform}
use Rattle.igvm_headers.specs.Fixed.{fault_at}
use Rattle.igvm_headers.specs.Numbers.{number_at}
use Rattle.igvm_image.specs.Pieces.{Piece, piece_at, pieces, cut, size_of, padded_size}
use Rattle.igvm_image.specs.HeaderRules.{Seen, seen_of, seen_after, MayFollow}
use Rattle.igvm_image.specs.FileFault.{judged, headers_fault, section_fault, end_fault, unless_fault}
use Rattle.igvm_image.specs.Headers.{decoded, decoded_before}
use Rattle.igvm_image.specs.AcceptedLaws.{judged_ok}
use Rattle.igvm_image.proofs.PiecesLemmas.{pieces-end, cut-end, pieces-step, cut-step, piece_at-shorter}
use Rattle.igvm_image.proofs.RulesLemmas.{seen_of-push}

-- The table is the summary of the headers before, and what is left is judged as the whole is.
pub record Walking (total start : ℕ) (table : Seen) (count : ℕ) (section rest : List ℕ) : Type 0 where
  pub before : List Header
  pub at : ℕ
  pub seen : table ≡ seen_of before
  pub counted : count ≡ length before
  pub same : headers_fault total start at before (pieces rest) (cut rest) ≡ section_fault total start section
  pub kept : before ++ decoded (pieces rest) ≡ decoded (pieces section)
  pub place : 0 < length rest → at + length rest ≡ start + length section
  pub within : length rest ≤ length section
  pub few : 8 * count + length rest ≤ length section

-- nothing is judged yet
pub walking_start : (total start : ℕ) (section : List ℕ) → Walking total start (seen_of []) 0 section section
walking_start total start section = record {
  before = [];
  at = start;
  seen = refl;
  counted = refl;
  same = refl;
  kept = refl;
  place = λ _. refl;
  within = omega arith;
  few = omega arith;
}

-- what stands behind a header, and its size
content_size : (s : List ℕ) (p : Piece) (r : List ℕ) → piece_at s ≡ Some (p, r) → length p.content ≡ number_at 4 4 s
unfolding piece_at
content_size s p r h = grind (arith, length-drop, length-take)

drops_header : (s : List ℕ) (p : Piece) (r : List ℕ) → piece_at s ≡ Some (p, r) → r ≡ drop (padded_size (number_at 4 4 s)) s
unfolding piece_at
drops_header s p r h = grind arith

pub piece_at-behind : (s : List ℕ) (p : Piece) (r : List ℕ) → piece_at s ≡ Some (p, r) → r ≡ drop (size_of p) s
piece_at-behind s p r h = drops_header s p r h ∙ ap (λ n. drop (padded_size n) s) (sym (content_size s p r h))

-- a fault's place
pub walking_at : (total start : ℕ) (table : Seen) (count : ℕ) (section rest : List ℕ) (w : Walking total start table count section rest)
    → 0 < length rest → w.at ≡ start + (length section - length rest)
walking_at total start table count section rest w some = let place = w.place some in let within = w.within in omega arith

-- a header that is not accepted is the fault
pub walking_fault : (total start : ℕ) (table : Seen) (count : ℕ) (section rest : List ℕ) (p : Piece) (r : List ℕ) (what : ReadWhat)
    → (w : Walking total start table count section rest) → piece_at rest ≡ Some (p, r) → judged total table p ≡ Err what
    → section_fault total start section ≡ Some (fault_at (start + (length section - length rest)) what)
unfolding headers_fault
walking_fault total start table count section rest p r what w found bad =
    let some : 0 < length rest = omega (arith, piece_at-shorter rest p r found) in
    let here : judged total (seen_of w.before) p ≡ Err what = ap (λ t. judged total t p) (sym w.seen) ∙ bad in
    let next = λ (header : Header). headers_fault total start (w.at + size_of p) (w.before ++ header ∷ []) (pieces r) (cut r) in
    sym w.same
    ∙ ap₂ (λ ps c. headers_fault total start w.at w.before ps c) (pieces-step rest p r found) (cut-step rest p r found)
    ∙ ap (λ j. unless_fault w.at j next) here
    ∙ ap (λ at. Some (fault_at at what)) (walking_at total start table count section rest w some)

-- one header more
pub walking_step : (total start : ℕ) (table : Seen) (count : ℕ) (section rest : List ℕ) (p : Piece) (r : List ℕ) (h : Header)
    → (w : Walking total start table count section rest) → piece_at rest ≡ Some (p, r) → judged total table p ≡ Ok h
    → Walking total start (seen_after table h) (count + 1) section r
unfolding headers_fault decoded
walking_step total start table count section rest p r h w found good =
    let here : judged total (seen_of w.before) p ≡ Ok h = ap (λ t. judged total t p) (sym w.seen) ∙ good in
    let accepted = judged_ok total (seen_of w.before) p h here in
    let shorter = piece_at-shorter rest p r found in
    let behind = ap length (piece_at-behind rest p r found) ∙ length-drop (size_of p) rest in
    let next = λ (header : Header). headers_fault total start (w.at + size_of p) (w.before ++ header ∷ []) (pieces r) (cut r) in
    let within = w.within in
    let few = w.few in
    record {
      before = w.before ++ h ∷ [];
      at = w.at + size_of p;
      seen = ap (λ t. seen_after t h) w.seen ∙ sym (seen_of-push w.before h);
      counted = ap (λ n. n + 1) w.counted ∙ sym (length-append w.before (h ∷ []));
      same = sym (ap₂ (λ ps c. headers_fault total start w.at w.before ps c) (pieces-step rest p r found) (cut-step rest p r found)
          ∙ ap (λ j. unless_fault w.at j next) here) ∙ w.same;
      kept = append_assoc w.before (h ∷ []) (decoded (pieces r))
          ∙ ap (λ hs. w.before ++ hs) (sym (ap decoded (pieces-step rest p r found) ∙ ap (λ f. decoded_before f (decoded (pieces r))) accepted.form))
          ∙ w.kept;
      place = λ some. (let place = w.place (omega arith) in omega arith);
      within = omega arith;
      few = omega arith;
    }

-- behind the last whole header
pub walking_end : (total start : ℕ) (table : Seen) (count : ℕ) (section rest : List ℕ) (w : Walking total start table count section rest)
    → piece_at rest ≡ None → section_fault total start section ≡ end_fault start w.at w.before rest
unfolding headers_fault
walking_end total start table count section rest w none =
    sym w.same
    ∙ ap₂ (λ ps c. headers_fault total start w.at w.before ps c) (pieces-end rest none) (cut-end rest none)

-- what is left is no whole header
pub walking_cut : (total start : ℕ) (table : Seen) (count : ℕ) (section rest : List ℕ) (w : Walking total start table count section rest)
    → piece_at rest ≡ None → 0 < length rest
    → section_fault total start section ≡ Some (fault_at (start + (length section - length rest)) HeaderCut)
walking_cut total start table count section [] w none some = absurd (omega arith)
walking_cut total start table count section (byte ∷ rest) w none some =
    walking_end total start table count section (byte ∷ rest) w none
    ∙ ap (λ at. Some (fault_at at HeaderCut)) (walking_at total start table count section (byte ∷ rest) w some)

-- the section ends, and no platform stands in it, or one does
pub walking_done : (total start : ℕ) (table : Seen) (count : ℕ) (section rest : List ℕ) (w : Walking total start table count section rest)
    → piece_at rest ≡ None → length rest ≡ 0
    → section_fault total start section ≡ (if length table.platforms == 0 then Some (fault_at start NoPlatform) else None)
walking_done total start table count section [] w none nothing =
    walking_end total start table count section [] w none
    ∙ ap (λ (t : Seen). if length t.platforms == 0 then Some (fault_at start NoPlatform) else None) (sym w.seen)
walking_done total start table count section (byte ∷ rest) w none nothing = absurd (omega arith)

-- the headers before are all
pub walking_all : (total start : ℕ) (table : Seen) (count : ℕ) (section rest : List ℕ) (w : Walking total start table count section rest)
    → piece_at rest ≡ None → w.before ≡ decoded (pieces section)
unfolding decoded
walking_all total start table count section rest w none =
    sym (append-nil w.before) ∙ ap (λ ps. w.before ++ decoded ps) (sym (pieces-end rest none)) ∙ w.kept

-- a header that is accepted may follow
pub walking_follows : (total : ℕ) (table : Seen) (p : Piece) (h : Header) → judged total table p ≡ Ok h → MayFollow table h
walking_follows total table p h good = (total, (judged_ok total table p h good).rules)

-- a content is no longer than the section
pub walking_content : (s : List ℕ) (p : Piece) (r : List ℕ) → piece_at s ≡ Some (p, r) → length p.content ≤ length s
unfolding piece_at
walking_content s p r h = grind (arith, length-drop, length-take)
