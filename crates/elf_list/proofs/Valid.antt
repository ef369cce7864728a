-- A list with the pages of a file is a list: its components are those of their types, and break no rule.
use Rattle.std.proofs.Common.{◌≡◌, ℕ, zero, suc, ◌+◌, ◌^◌, ◌<◌, ◌≤◌, ◌↔◌, List, [], ◌∷◌, ◌++◌, length, map, get_or, refl, arith, length-append, Bool, true, false, None}
use Rattle.std.specs.Prelude.{if◌then◌else◌}
use Rattle.std.specs.List.{range_with_len, AllByRecursion}
use Rattle.std.proofs.lemmas.List.FromFn.{length-map-range_with_len}
use Rattle.igvm_headers.specs.SpellingConditions.{AreBytes}
use Rattle.elf_pages.specs.declared.segment.Segment.{Segment}
use Rattle.elf_pages.specs.AcceptedFile.{KeepsSegmentRules}
use Rattle.elf_pages.specs.Faults.{elf_fault, file_fault}
use Rattle.elf_pages.specs.GuestBytes.{byte_in, byte_of, elf_byte, holds}
use Rattle.elf_pages.specs.PageFacts.{IsPage}
use Rattle.elf_pages.specs.Pages.{is_filled, page_address, pages_of}
use Rattle.elf_pages.specs.Segments.{segments_of}
use Rattle.component_list.specs.declared.component.Component.{Component}
use Rattle.component_list.specs.declared.component.Content.TheVariants.{Zero, Bytes}
use Rattle.component_list.specs.FirstFault.{KeepsRules}
use Rattle.component_list.specs.Lists.{IsValid, list_fault}
use Rattle.component_list.specs.Ranges.{HoldsBytes, IsComponent}
use Rattle.elf_list.specs.ElfParts.{elf_page, elf_parts, page_bytes, page_content, pages_named}
use Rattle.elf_list.proofs.PagesKept.{list_kept}

-- the laws of the crates below that this stands on: what a list keeps that has no fault, what an accepted file keeps,
-- and what its pages are
pub record Laws : Type 0 where
  pub kept : (parts : List Component) → (list_fault parts ≡ None) ↔ KeepsRules parts
  pub accepted : (file : List ℕ) → (elf_fault file ≡ None) ↔ ((file_fault file ≡ None) × KeepsSegmentRules file)
  pub pages : (file : List ℕ) (k : ℕ) → k < length (pages_of file) → IsPage file (page_address file k)

-- the contents of a file's pages are bytes
abbrev pub HasBytes : List ℕ → Type 0
HasBytes file = (k : ℕ) → k < length (pages_of file) → HoldsBytes (page_content file k)

page_is_low : Laws → (file : List ℕ) (k : ℕ) → elf_fault file ≡ None → k < length (pages_of file) → page_address file k < 2 ^ 64
page_is_low laws file k fine less =
    let page = laws.pages file k less in
    let segment = ((laws.accepted file).0 fine).1.each page.n page.within in
    omega (arith, page.from, page.byte.high, segment.ends)

is_page : (file : List ℕ) (mask k : ℕ) → page_address file k < 2 ^ 64 → mask < 2 ^ 32 → HoldsBytes (page_content file k) → IsComponent (elf_page file mask k)
unfolding elf_page
is_page file mask k low small bytes =
    record { numbers = (low, small, omega arith); lists = tt; tail = tt; content = bytes; offset = refl }

are_pages : (file : List ℕ) (mask n first : ℕ) → ((k : ℕ) → k < first + n → IsComponent (elf_page file mask k))
    → AllByRecursion IsComponent (map (elf_page file mask) (range_with_len first n))
are_pages file mask zero first each = tt
are_pages file mask (suc n) first each =
    (each first (omega arith), are_pages file mask n (first + 1) (λ k less. each k (omega arith)))

all_append : (xs ys : List Component) → AllByRecursion IsComponent xs → AllByRecursion IsComponent ys → AllByRecursion IsComponent (xs ++ ys)
all_append [] ys first second = second
all_append (x ∷ xs) ys (one, first) second = (one, all_append xs ys first second)

pub valid_with_pages : Laws → (parts : List Component) (file : List ℕ) (mask : ℕ) → IsValid parts → elf_fault file ≡ None → mask < 2 ^ 32 → HasBytes file
    → pages_named parts + length (pages_of file) ≤ 4194304 → length parts + length (pages_of file) < 2 ^ 32 → IsValid (parts ++ elf_parts file mask)
valid_with_pages laws parts file mask valid fine small bytes named count =
    let n = length (pages_of file) in
    record {
      kept = list_kept file mask n parts valid.kept ((laws.kept parts).0 valid.kept).platform named (λ k less. (laws.pages file k less).whole);
      fits = record {
        few = omega (arith, length-append parts (elf_parts file mask), length-map-range_with_len (elf_page file mask) 0 n);
        each = all_append parts (elf_parts file mask) valid.fits.each
            (are_pages file mask n 0 (λ k less. is_page file mask k (page_is_low laws file k fine (omega arith)) small (bytes k (omega arith))));
      };
    }

-- ---- the bytes of a file of bytes

byte_small : (bytes : List ℕ) (i : ℕ) → AreBytes bytes → get_or bytes i 0 < 2 ^ 8
byte_small [] i are = omega arith
byte_small (b ∷ bs) zero are = are.0
byte_small (b ∷ bs) (suc i) are = byte_small bs i are.1

byte_in_small : (file : List ℕ) (segments : List Segment) (x : ℕ) → AreBytes file → byte_in file segments x < 2 ^ 8
byte_in_small file [] x are = omega arith
byte_in_small file (s ∷ ss) x are = cases (holds x s) (byte_in_small file ss x are)
  where
    cases : (b : Bool) → byte_in file ss x < 2 ^ 8 → (if b then byte_of file s x else byte_in file ss x) < 2 ^ 8
    cases true later = byte_small file _ are
    cases false later = later

bytes_map : (f : ℕ → ℕ) → ((i : ℕ) → f i < 2 ^ 8) → (a n : ℕ) → AreBytes (map f (range_with_len a n))
bytes_map f small a zero = tt
bytes_map f small a (suc n) = (small a, bytes_map f small (a + 1) n)

page_are_bytes : (file : List ℕ) (k : ℕ) → AreBytes file → AreBytes (page_bytes file k)
unfolding page_bytes
page_are_bytes file k are =
    bytes_map (λ (i : ℕ). elf_byte file (page_address file k + i)) (λ i. byte_in_small file (segments_of file) (page_address file k + i) are) 0 4096

pub has_bytes : (file : List ℕ) → AreBytes file → HasBytes file
has_bytes file are k less = cases (is_filled (segments_of file) (page_address file k))
  where
    cases : (b : Bool) → HoldsBytes (if b then Bytes (page_bytes file k) else Zero)
    cases true = page_are_bytes file k are
    cases false = tt
