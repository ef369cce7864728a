-- How the steps of `build-elf` end: LIST and ELF, which are read one after the other, and the image.
use Rattle.std.proofs.Common.{◌≡◌, ◌∙◌, ℕ, ◌+◌, ◌<◌, ◌≤◌, refl, sym, ap, subst, inl, inr, arith, List, [], length, replicate, true, false, Option, Some, None, Result, Ok, Err, IfSome, zero, suc}
use Rattle.std.specs.Prelude.{nat_lt, unwrap_or, option_and_then, if◌then◌else◌, IfErr, IsErrAnd}
use Rattle.std.specs.FinMap as map
use Rattle.std.proofs.lemmas.List.{length-replicate}
use Rattle.std.proofs.lemmas.Option.{IfSome_then}
use Rattle.igvm_headers.specs.SpellingConditions.{AreBytes}
use Rattle.igvm_outside.specs.Files.{Files, IsUnwritten}
use Rattle.igvm_outside.specs.ShelfCalls.{IsRead, IsLonger, OnlyReads}
use Rattle.igvm_outside.specs.declared.shelf.Shelf as shelves
use Rattle.igvm_outside.specs.declared.sink.Sink as sinks
use Rattle.component_list.specs.Lists.{ImageParts, IsList}
use Rattle.elf_pages.specs.declared.fault.ElfFault.{ElfFault}
use Rattle.elf_pages.specs.Faults.{elf_fault}
use Rattle.elf_pages.specs.Pages.{pages_of}
use Rattle.elf_list.specs.ElfParts.{with_elf_pages, pages_named}
use Rattle.further_words.specs.FurtherWords.{ElfWords}
use Rattle.igvm_jobs.specs.declared.status.Status.TheVariants as is
use Rattle.igvm_jobs.specs.declared.refusal.Ended.{Ended}
use Rattle.igvm_jobs.specs.declared.refusal.LimitOf.TheVariants as of
use Rattle.igvm_jobs.specs.declared.refusal.Refusal.{Refusal}
use Rattle.igvm_jobs.specs.Texts.{long_elf_text, many_pages_text}
use Rattle.igvm_jobs.specs.Outcome.{Outcome, refused}
use Rattle.igvm_jobs.specs.ListFiles.{list_part}
use Rattle.igvm_jobs.specs.BuildJob.{parts_outcome}
use Rattle.igvm_jobs.specs.Refusals.{Refuses}
use Rattle.igvm_jobs.specs.Endings.{Ends, Stops, IsNotRead, WriteEnds}
use Rattle.igvm_jobs.proofs.EndingLemmas.{Known, refused_stops, later_not_read, part_stops, write_ends}
use Rattle.igvm_jobs.proofs.BuildLemmas.{parts_named}
use Rattle.igvm_tool.specs.ElfTexts.{elf_text}
use Rattle.igvm_tool.specs.BuildElfJob.{elf_limit, pages_limit, elf_outcome, judged_outcome, joined_outcome, elf_file_outcome, LeadsOn, IsElf, build_elf_task}

passes : (a b : ℕ) → a < b → nat_lt a b ≡ true
passes a b h = grind arith

stays : (a b : ℕ) → b ≤ a → nat_lt a b ≡ false
stays a b h = grind (arith, h)

-- ---- LIST

-- what becomes of the components of LIST: the bytes of ELF decide, where the files are told
abbrev pub next_of : ElfWords → Option Files → ImageParts → Outcome
next_of words told = elf_file_outcome words (option_and_then (λ files. map.get files words.elf) told)

whole_same : (told : Option Files) (words : ElfWords) → IfSome told (λ files. (list_part words.list (next_of words told)).outcome files ≡ (build_elf_task words).outcome files)
whole_same None words = tt
whole_same (Some files) words = refl

-- LIST was refused
pub list_stops : {S : Type 0} {s : shelves.Ghosts S} (words : ElfWords) {r : Refusal} {shelf shelf' : S} → Stops s (list_part words.list (next_of words (s.told shelf))) r shelf shelf'
    → Stops s (build_elf_task words) r shelf shelf'
list_stops {s} words {shelf} h =
    part_stops (list_part words.list (next_of words (s.told shelf))) (build_elf_task words) (whole_same (s.told shelf) words) (λ given x can. inl can)
    (λ name reads. inl reads) (λ name writes. absurd writes) h

-- LIST was read, and it leads on to ELF with these components.
pub record IsListed {S : Type 0} (s : shelves.Ghosts S) (words : ElfWords) (parts : ImageParts) (shelf shelf' : S) : Type 0 where
  pub list : IsList parts
  pub leads : IfSome (s.told shelf) (λ files. LeadsOn files words.list parts)
  pub only : OnlyReads s shelf shelf'

pub is_listed : {S : Type 0} {s : shelves.Ghosts S} (words : ElfWords) {parts : ImageParts} {shelf shelf' : S} → IsList parts → IfSome (s.told shelf) (λ files. LeadsOn files words.list parts)
    → OnlyReads s shelf shelf' → IsListed s words parts shelf shelf'
is_listed words list leads only = record { list = list; leads = leads; only = only }

-- ---- ELF

elf_told : (told : Option Files) (words : ElfWords) (parts : ImageParts) (x : Outcome) → IfSome told (λ files. LeadsOn files words.list parts)
    → IfSome told (λ files. x ≡ elf_file_outcome words (map.get files words.elf) parts) → IfSome told (λ files. x ≡ (build_elf_task words).outcome files)
elf_told None words parts x leads same = tt
elf_told (Some files) words parts x leads same = same ∙ sym (leads (elf_file_outcome words (map.get files words.elf)))

-- ELF decides: it has these bytes, or as many
by_elf : {S : Type 0} {s : shelves.Ghosts S} (words : ElfWords) {parts : ImageParts} (x : Outcome) (file : List ℕ) {shelf mid shelf' : S} → IsListed s words parts shelf mid
    → IfSome (s.told mid) (λ files. x ≡ elf_file_outcome words (map.get files words.elf) parts) → AreBytes file → length file ≡ s.given shelf' → x ≡ elf_outcome words parts file
    → Known s (build_elf_task words) x shelf shelf'
by_elf {S} {s} words {parts} x file {shelf} {mid} h over bytes size same =
    record {
      told = elf_told (s.told shelf) words parts x h.leads
          (subst (λ told. IfSome told (λ files. x ≡ elf_file_outcome words (map.get files words.elf) parts)) h.only.kept over);
      can = inr (parts, file, h.list, bytes, size, same);
    }

zeros_are_bytes : (n : ℕ) → AreBytes (replicate n 0)
zeros_are_bytes zero = tt
zeros_are_bytes (suc n) = (omega arith, zeros_are_bytes n)

long_bytes : (words : ElfWords) (parts : ImageParts) (file : List ℕ) → elf_limit < length file → refused is.Limit long_elf_text ≡ elf_outcome words parts file
unfolding elf_outcome
long_bytes words parts file h =
    sym (ap (λ b. if b then refused is.Limit long_elf_text else judged_outcome words parts file (elf_fault file)) (passes elf_limit (length file) h))

long_found : (words : ElfWords) (parts : ImageParts) (found : Option (List ℕ)) → elf_limit < length (unwrap_or found []) → refused is.Limit long_elf_text ≡ elf_file_outcome words found parts
long_found words parts None h = absurd (omega arith)
long_found words parts (Some file) h = long_bytes words parts file h

-- what becomes of an ELF file that gave more than its limit
long_known : {S : Type 0} {s : shelves.Ghosts S} (words : ElfWords) {parts : ImageParts} {shelf mid shelf' : S} → IsListed s words parts shelf mid → IsLonger s words.elf elf_limit mid shelf'
    → Known s (build_elf_task words) (refused is.Limit long_elf_text) shelf shelf'
long_known {S} {s} words {parts} {shelf} {mid} {shelf'} h long =
    let same = length-replicate (s.given shelf') 0 in
    by_elf words _ (replicate (s.given shelf') 0) h (IfSome_then (s.told mid) long.file (λ files longer. long_found words parts (map.get files words.elf) longer))
    (zeros_are_bytes (s.given shelf')) same (long_bytes words parts _ (subst (λ n. elf_limit < n) (sym same) long.given))

elf_named : (told : Option Files) (words : ElfWords) (parts : ImageParts) → IfSome told (λ files. LeadsOn files words.list parts) → IsElf words told words.elf
elf_named told words parts leads = (refl, IfSome_then told leads (λ files h. (parts, h)))

-- ELF was not read
pub elf_stops : {S : Type 0} {s : shelves.Ghosts S} (words : ElfWords) (r : Refusal) {parts : ImageParts} {shelf mid shelf' : S} → IsListed s words parts shelf mid
    → IsNotRead s words.elf elf_limit of.Elf r mid shelf' → OnlyReads s mid shelf' → IsUnwritten (s.state shelf') → Stops s (build_elf_task words) r shelf shelf'
elf_stops {S} {s} words r {parts} {shelf} h not_read k unwritten =
    later_not_read (build_elf_task words) words.elf elf_limit of.Elf r (inr (elf_named (s.told shelf) words parts h.leads)) (long_known words h) h.only not_read k unwritten

-- what a list and the bytes of ELF give, as they were read
elf_known : {S : Type 0} {s : shelves.Ghosts S} (words : ElfWords) {parts : ImageParts} (x : Outcome) (file : List ℕ) {shelf mid shelf' : S} → IsListed s words parts shelf mid
    → IsRead s words.elf elf_limit file mid shelf' → AreBytes file → x ≡ elf_outcome words parts file → Known s (build_elf_task words) x shelf shelf'
elf_known {S} {s} words {parts} x file {shelf} {mid} h read bytes same =
    by_elf words x file h (IfSome_then (s.told mid) read.whole (λ files found. same ∙ ap (λ o. elf_file_outcome words o parts) (sym found))) bytes (sym read.given) same

-- ELF is refused, or the list has no room for its pages
pub file_stops : {S : Type 0} {s : shelves.Ghosts S} (words : ElfWords) (r : Refusal) {parts : ImageParts} {file : List ℕ} {shelf mid shelf' : S} → IsListed s words parts shelf mid
    → IsRead s words.elf elf_limit file mid shelf' → AreBytes file → Refuses (elf_outcome words parts file) r → Stops s (build_elf_task words) r shelf shelf'
file_stops words r {parts} {file} h read bytes refuses =
    refused_stops (build_elf_task words) (elf_outcome words parts file) r refuses (elf_known words _ file h read bytes refl) (read.only.kept ∙ h.only.kept) read.unwritten

-- the image with the pages of ELF was written, or not
pub image_ends : {S O : Type 0} {s : shelves.Ghosts S} {o : sinks.Ghosts O} (words : ElfWords) {parts : ImageParts} (joined : ImageParts) {file : List ℕ} {ending : Result Ended Refusal} {shelf first second shelf' : S} {out out' : O}
    → ((first second third : S) → OnlyReads s first second → OnlyReads s second third → OnlyReads s first third) → IsListed s words parts shelf first → IsRead s words.elf elf_limit file first second
    → AreBytes file → elf_outcome words parts file ≡ parts_outcome words.target joined → WriteEnds s o (parts_outcome words.target joined) ending second shelf' out out'
    → Ends s o (build_elf_task words) ending shelf shelf' out out'
image_ends words joined {file} {shelf} {first} {second} compose h read bytes same written =
    write_ends (build_elf_task words) (parts_outcome words.target joined) (elf_known words _ file h read bytes (sym same)) (compose shelf first second h.only read.only) read.unwritten
    (parts_named words.target joined) written

-- ---- a refusal behind `?`

pub refuses_on : {A : Type 0} (ending : Result A Refusal) (x : Outcome) (r : Refusal) → IsErrAnd ending (λ q. q ≡ r) → Refuses x r → IfErr ending (Refuses x)
refuses_on (Ok a) x r same h = absurd same
refuses_on (Err q) x r same h = subst (λ (p : Refusal). Refuses x p) (sym same) h

-- ---- the bytes of ELF

judged : (words : ElfWords) (parts : ImageParts) (file : List ℕ) (fault : Option ElfFault) → length file ≤ elf_limit → elf_fault file ≡ fault
    → elf_outcome words parts file ≡ judged_outcome words parts file fault
unfolding elf_outcome
judged words parts file fault h same =
    ap (λ b. if b then refused is.Limit long_elf_text else judged_outcome words parts file (elf_fault file)) (stays elf_limit (length file) h)
    ∙ ap (judged_outcome words parts file) same

-- a file that breaks no rule
pub accepted : (words : ElfWords) (parts : ImageParts) (file : List ℕ) → length file ≤ elf_limit → elf_fault file ≡ None → elf_outcome words parts file ≡ joined_outcome words parts file
accepted words parts file h same = judged words parts file None h same

-- a file that breaks one
pub broken : (words : ElfWords) (parts : ImageParts) (file : List ℕ) (fault : ElfFault) → length file ≤ elf_limit → elf_fault file ≡ Some fault
    → elf_outcome words parts file ≡ refused is.File (elf_text fault)
broken words parts file fault h same = judged words parts file (Some fault) h same

-- ---- the pages of ELF

-- there is room for them
pub few_pages : (words : ElfWords) (parts : ImageParts) (file : List ℕ) → pages_named parts.parts + length (pages_of file) ≤ pages_limit
    → joined_outcome words parts file ≡ parts_outcome words.target (with_elf_pages parts file words.mask)
few_pages words parts file h =
    ap (λ b. if b then refused is.Limit many_pages_text else parts_outcome words.target (with_elf_pages parts file words.mask))
    (stays pages_limit (pages_named parts.parts + length (pages_of file)) h)

-- there is none
pub many_pages : (words : ElfWords) (parts : ImageParts) (file : List ℕ) → pages_limit < pages_named parts.parts + length (pages_of file)
    → joined_outcome words parts file ≡ refused is.Limit many_pages_text
many_pages words parts file h =
    ap (λ b. if b then refused is.Limit many_pages_text else parts_outcome words.target (with_elf_pages parts file words.mask))
    (passes pages_limit (pages_named parts.parts + length (pages_of file)) h)
