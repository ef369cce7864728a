-- How far a listing has come: what is put, what is gathered, and the headers left.
use Rattle.std.proofs.Common.{◌≡◌, ℕ, ◌+◌, ◌^◌, ◌<◌, ◌≤◌, List, [], ◌∷◌, ◌++◌, length, map, take, refl, sym, ap, ◌∙◌, append_assoc, append-nil, length-append, arith}
use Rattle.std.specs.Prelude.{Option, Some, None}
use Rattle.std.specs.List.{flat_map}
use Rattle.std.proofs.lemmas.List.{flat_map_more, map-append, take-append-le}
use Rattle.std.proofs.lemmas.Grind.{flat_map-append}
use Rattle.std.proofs.Math.Seq.{take-append-add}
use Rattle.igvm_headers.specs.declared.header.Header.{Header}
use Rattle.igvm_headers.specs.declared.header.Header.TheVariants.{Platform}
use Rattle.platform_masks.specs.Platforms.{platform_of, platforms_of}
use Rattle.igvm_outside.specs.Outputs.{gained}
use Rattle.igvm_image.specs.Headers.{PlacedHeader, placed_headers}
use Rattle.dump_text.specs.Listing.{first_line, numbered_line, line_of, platforms_before, print_text}
use Rattle.dump_text.proofs.Places.{lower_headers}

-- how many platforms these headers are
abbrev pub platforms_among : List PlacedHeader → ℕ
platforms_among ps = length (platforms_of (map (λ p. p.header) ps))

pub record Printing (file : List ℕ) (left : List PlacedHeader) (number : ℕ) (old now : Option (List ℕ)) (gathered : List ℕ) : Type 0 where
  pub before : List PlacedHeader
  pub put : List ℕ
  pub told : now ≡ gained old put
  pub text : put ++ gathered ≡ first_line file ++ flat_map (line_of file) before
  pub split : before ++ left ≡ placed_headers file
  pub number_is : number ≡ platforms_among before
  pub few : number ≤ length before

gained-nothing : (told : Option (List ℕ)) → told ≡ gained told []
gained-nothing None = refl
gained-nothing (Some bytes) = ap Some (sym (append-nil bytes))

gained-twice : (told : Option (List ℕ)) (first second : List ℕ) → gained (gained told first) second ≡ gained told (first ++ second)
gained-twice None first second = refl
gained-twice (Some bytes) first second = ap Some (append_assoc bytes first second)

-- the first line is gathered
pub printing_none : (file : List ℕ) (left : List PlacedHeader) (old : Option (List ℕ)) (gathered : List ℕ)
    → left ≡ placed_headers file → gathered ≡ first_line file → platforms_of [] ≡ [] → Printing file left 0 old old gathered
printing_none file left old gathered all first none = record {
  before = [];
  put = [];
  told = gained-nothing old;
  text = first ∙ sym (append-nil (first_line file));
  split = all;
  number_is = sym (ap (λ ps. length ps) none);
  few = omega arith;
}

-- a platform counts once, whatever its number
same_count : (n : ℕ) (h : Header) → length (platform_of n h) ≡ length (platform_of 0 h)
same_count n (Platform mask highest_vtl kind version shared_gpa) = refl
same_count n _ = refl

-- a header behind others adds its own platform
abbrev pub AddsItsOwn : Type 0
AddsItsOwn =
    (hs : List Header) (h : Header) → platforms_of (hs ++ h ∷ []) ≡ platforms_of hs ++ platform_of (length (platforms_of hs)) h

number_more : (before : List PlacedHeader) (p : PlacedHeader) (number found : ℕ) → AddsItsOwn
    → number ≡ platforms_among before → found ≡ length (platform_of 0 p.header)
    → number + found ≡ platforms_among (before ++ p ∷ [])
number_more before p number found law e f =
    let header : PlacedHeader → Header = λ q. q.header in
    let hs = map header before in
    ap (λ n. n + found) e ∙ ap (λ n. platforms_among before + n) (f ∙ sym (same_count (platforms_among before) p.header))
    ∙ sym (length-append (platforms_of hs) (platform_of (length (platforms_of hs)) p.header))
    ∙ ap (λ ps. length ps) (sym (law hs p.header))
    ∙ ap (λ all. length (platforms_of all)) (sym (map-append header before (p ∷ [])))

text_more : (f : PlacedHeader → List ℕ) (before : List PlacedHeader) (p : PlacedHeader) (start put front roomed gathered gathered' line : List ℕ)
    → put ++ gathered ≡ start ++ flat_map f before → front ++ roomed ≡ gathered → gathered' ≡ roomed ++ line → line ≡ f p
    → (put ++ front) ++ gathered' ≡ start ++ flat_map f (before ++ p ∷ [])
text_more f before p start put front roomed gathered gathered' line so room added same =
    ap (λ x. (put ++ front) ++ x) added ∙ append_assoc put front (roomed ++ line)
    ∙ ap (λ x. put ++ x) (sym (append_assoc front roomed line)) ∙ ap (λ x. put ++ (x ++ line)) room
    ∙ sym (append_assoc put gathered line) ∙ ap (λ x. x ++ line) so
    ∙ ap (λ x. (start ++ flat_map f before) ++ x) same ∙ flat_map_more f start before p

-- a header's line is gathered, where what was gathered before is put or is not
pub printing_more : (file : List ℕ) (all : List PlacedHeader) (p : PlacedHeader) (left : List PlacedHeader) (number found : ℕ)
    (old now now' : Option (List ℕ)) (gathered roomed gathered' : List ℕ)
    → Printing file all number old now gathered → all ≡ p ∷ left
    → ((front : List ℕ) × (now' ≡ gained now front) × (front ++ roomed ≡ gathered))
    → gathered' ≡ roomed ++ numbered_line number p → AddsItsOwn
    → found ≡ length (platform_of 0 p.header) → found ≤ 1
    → Printing file left (number + found) old now' gathered'
printing_more file all p left number found old now now' gathered roomed gathered' so next room line law count one =
    let split : so.before ++ p ∷ left ≡ placed_headers file = ap (λ ps. so.before ++ ps) (sym next) ∙ so.split in
    let number_is : number ≡ platforms_before file p.index =
    so.number_is ∙ ap (λ hs. length (platforms_of hs)) (sym (lower_headers file so.before p left split)) in
    record {
      before = so.before ++ p ∷ [];
      put = so.put ++ room.0;
      told = room.1 ∙ ap (λ told. gained told room.0) so.told ∙ gained-twice old so.put room.0;
      text = text_more (line_of file) so.before p (first_line file) so.put room.0 roomed gathered gathered' (numbered_line number p)
          so.text room.2 line (ap (λ n. numbered_line n p) number_is);
      split = append_assoc so.before (p ∷ []) left ∙ split;
      number_is = number_more so.before p number found law so.number_is count;
      few = let few : number ≤ length so.before = so.few in omega (arith, length-append so.before (p ∷ []));
    }

-- the number of platforms stays small where there are few headers
pub number_fits : (file : List ℕ) (all : List PlacedHeader) (p : PlacedHeader) (left : List PlacedHeader) (number found : ℕ)
    (old now : Option (List ℕ)) (gathered : List ℕ)
    → Printing file all number old now gathered → all ≡ p ∷ left → found ≤ 1 → length (placed_headers file) < 2 ^ 32
    → number + found < 2 ^ 32
number_fits file all p left number found old now gathered so next one few =
    let split : so.before ++ p ∷ left ≡ placed_headers file = ap (λ ps. so.before ++ ps) (sym next) ∙ so.split in
    let size : length (so.before ++ p ∷ left) ≡ length (placed_headers file) = ap (λ ps. length ps) split in
    let small : number ≤ length so.before = so.few in
    omega (arith, length-append so.before (p ∷ left))

-- all lines are put
pub printing_all : (file : List ℕ) (left : List PlacedHeader) (number : ℕ) (old now now' : Option (List ℕ)) (gathered : List ℕ)
    → Printing file left number old now gathered → left ≡ [] → now' ≡ gained now gathered → now' ≡ gained old (print_text file)
unfolding print_text
printing_all file left number old now now' gathered so ended put =
    let whole : so.before ≡ placed_headers file = sym (append-nil so.before) ∙ ap (λ ps. so.before ++ ps) (sym ended) ∙ so.split in
    put ∙ ap (λ told. gained told gathered) so.told ∙ gained-twice old so.put gathered ∙ ap (gained old) so.text
    ∙ ap (λ ps. gained old (first_line file ++ flat_map (line_of file) ps)) whole

front_of : (old now now' : Option (List ℕ)) (put gathered rest text : List ℕ) (n : ℕ) → text ≡ put ++ (gathered ++ rest)
    → now ≡ gained old put → n ≤ length gathered → now' ≡ gained now (take n gathered)
    → (m : ℕ) × (m ≤ length text) × (now' ≡ gained old (take m text))
front_of old now now' put gathered rest text n whole told within more = (
  length put + n,
  omega (arith, length-append put (gathered ++ rest), length-append gathered rest, ap (λ l. length l) whole),
  more ∙ ap (λ told. gained told (take n gathered)) told ∙ gained-twice old put (take n gathered)
      ∙ ap (λ l. gained old (put ++ l)) (sym (take-append-le n gathered rest within))
      ∙ ap (gained old) (sym (take-append-add put (gathered ++ rest) n))
      ∙ ap (λ l. gained old (take (length put + n) l)) (sym whole),
)

-- a front of what is gathered is put
pub printing_front : (file : List ℕ) (left : List PlacedHeader) (number : ℕ) (old now now' : Option (List ℕ)) (gathered : List ℕ)
    → Printing file left number old now gathered
    → ((n : ℕ) × (n ≤ length gathered) × (now' ≡ gained now (take n gathered)))
    → (n : ℕ) × (n ≤ length (print_text file)) × (now' ≡ gained old (take n (print_text file)))
unfolding print_text
printing_front file left number old now now' gathered so front =
    let lines : List PlacedHeader → List ℕ = flat_map (line_of file) in
    let start = first_line file in
    front_of old now now' so.put gathered (lines left) (start ++ lines (placed_headers file)) front.0
    (ap (λ ps. start ++ lines ps) (sym so.split) ∙ ap (λ l. start ++ l) (flat_map-append (line_of file) so.before left)
    ∙ sym (append_assoc start (lines so.before) (lines left)) ∙ ap (λ l. l ++ lines left) (sym so.text)
    ∙ append_assoc so.put gathered (lines left))
    so.told front.1 front.2
