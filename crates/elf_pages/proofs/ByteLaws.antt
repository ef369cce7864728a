-- The byte at an address is that of the segment that has it, else 0.
use Rattle.std.proofs.Common.{◌≡◌, ℕ, ◌+◌, ◌-◌, ◌<◌, true, false, List, length, get_or, refl, ap, ◌∙◌, arith, None}
use Rattle.std.proofs.lemmas.Bool.Decides.{nat_tests}
use Rattle.std.proofs.lemmas.List.{get_or_default}
use Rattle.elf_pages.specs.declared.segment.Segment.{Segment}
use Rattle.elf_pages.specs.Faults.{elf_fault}
use Rattle.elf_pages.specs.GuestBytes.{elf_byte, holds}
use Rattle.elf_pages.specs.SegmentFacts.{IsInFile, no_segment, segment_number}
use Rattle.elf_pages.specs.Segments.{segments_of}
use Rattle.elf_pages.proofs.TableMembers.{none_other}
use Rattle.elf_pages.proofs.FilledBytes.{byte_at, byte_none, alone_here}
use Rattle.elf_pages.proofs.AcceptedSegments.{accepted_apart}

holds_from : (x : ℕ) (s : Segment) → IsInFile x s → holds x s ≡ true
holds_from x s h = let low = h.low in let high = h.high in grind (arith, nat_tests)

in_file : (x : ℕ) (s : Segment) → holds x s ≡ true → IsInFile x s
in_file x s h = record { low = grind (arith, nat_tests); high = grind (arith, nat_tests) }

pub byte_held : (file : List ℕ) (n x : ℕ) → elf_fault file ≡ None → n < length (segments_of file) → IsInFile x (segment_number file n)
    → elf_byte file x ≡ get_or file ((segment_number file n).offset + (x - (segment_number file n).address)) 0
byte_held file n x none less here =
    let apart = accepted_apart file none in
    let held = holds_from x (segment_number file n) here in
    byte_at file (segments_of file) x n no_segment less
    (λ other e before. none_other x (length file) (get_or (segments_of file) n e) (get_or (segments_of file) other e)
    (ap (holds x) (get_or_default (segments_of file) n e no_segment less) ∙ held)
    (apart.each n e less) (apart.each other e (omega arith)) (apart.apart other n e before less))
    held
    ∙ alone_here file (segment_number file n) x held

pub byte_zero : (file : List ℕ) (x : ℕ) → ((n : ℕ) → n < length (segments_of file) → IsInFile x (segment_number file n) → ⊥) → elf_byte file x ≡ 0
byte_zero file x none = byte_none file (segments_of file) x (λ n d less.
    elim (holds x (get_or (segments_of file) n d)) as (λ b. holds x (get_or (segments_of file) n d) ≡ b → b ≡ false) [
      | true ↦ λ is. absurd (none n less (in_file x (segment_number file n) (ap (holds x) (get_or_default (segments_of file) n no_segment d less) ∙ is)))
      | false ↦ λ is. refl
    ] refl)
