-- How a job on one file of a VMSA ends.
use Rattle.std.proofs.Common.{◌≡◌, ◌∙◌, ℕ, ◌<◌, ◌≤◌, arith, refl, sym, ap, ap₂, subst, inl, List, [], length, replicate, true, false, Option, Some, None, Result, IfSome}
use Rattle.std.specs.Prelude.{nat_lt, unwrap_or, if◌then◌else◌}
use Rattle.std.specs.FinMap as map
use Rattle.std.specs.Option.{option_map}
use Rattle.std.proofs.lemmas.List.{length-replicate}
use Rattle.igvm_outside.specs.Files.{Files, IsUnwritten, content}
use Rattle.igvm_outside.specs.ShelfCalls.{IsRead, IsLonger, OnlyReads}
use Rattle.igvm_outside.specs.declared.shelf.Shelf as shelves
use Rattle.igvm_outside.specs.declared.sink.Sink as sinks
use Rattle.igvm_jobs.specs.declared.status.Status.TheVariants as is
use Rattle.igvm_jobs.specs.declared.refusal.Refusal.{Refusal}
use Rattle.igvm_jobs.specs.declared.refusal.Refusal.TheVariants.{Memory}
use Rattle.igvm_jobs.specs.declared.refusal.LimitOf.TheVariants as of
use Rattle.igvm_jobs.specs.declared.refusal.Ended.{Ended}
use Rattle.igvm_jobs.specs.declared.refusal.Ended.TheVariants as end
use Rattle.igvm_jobs.specs.Texts.{long_vmsa_text}
use Rattle.igvm_jobs.specs.Outcome.{Outcome, Written, refused, done, done_writing}
use Rattle.igvm_jobs.specs.Refusals.{Refuses}
use Rattle.igvm_jobs.specs.Clauses.{with_written}
use Rattle.igvm_jobs.specs.Endings.{IsNotRead, Ends, Stops, PutsEnd, WriteEnds}
use Rattle.igvm_jobs.proofs.EndingLemmas.{Known, refused_stops, memory_stops, not_read_stops, text_ends, write_ends}
use Rattle.igvm_tool.specs.ShortFiles.{short_outcome, short_file_outcome, short_file_task}

passes : (a b : ℕ) → a < b → nat_lt a b ≡ true
passes a b h = grind arith

stays : (a b : ℕ) → b ≤ a → nat_lt a b ≡ false
stays a b h = grind (arith, h)

-- ---- a file that is too long

long_bytes : (limit : ℕ) (next : List ℕ → Outcome) (bytes : List ℕ) → limit < length bytes → refused is.Limit long_vmsa_text ≡ short_outcome limit next bytes
unfolding short_outcome
long_bytes limit next bytes h = sym (ap (λ b. if b then refused is.Limit long_vmsa_text else next bytes) (passes limit (length bytes) h))

long_found : (limit : ℕ) (next : List ℕ → Outcome) (found : Option (List ℕ)) → limit < length (unwrap_or found []) → refused is.Limit long_vmsa_text ≡ short_file_outcome limit next found
long_found limit next None h = absurd (omega arith)
long_found limit next (Some bytes) h = long_bytes limit next bytes h

long_told : (limit : ℕ) (next : List ℕ → Outcome) (told : Option Files) (file : List ℕ) → IfSome told (λ files. limit < length (content files file))
    → IfSome told (λ files. refused is.Limit long_vmsa_text ≡ short_file_outcome limit next (map.get files file))
long_told limit next None file h = tt
long_told limit next (Some files) file h = long_found limit next (map.get files file) h

-- what becomes of a file that gave more than its limit
long_known : {S : Type 0} {s : shelves.Ghosts S} (file : List ℕ) (limit : ℕ) (next : List ℕ → Outcome) (writes : List ℕ → Type 0) {shelf shelf' : S} → IsLonger s file limit shelf shelf'
    → Known s (short_file_task file limit next writes) (refused is.Limit long_vmsa_text) shelf shelf'
long_known {S} {s} file limit next writes {shelf} {shelf'} long =
    let same = length-replicate (s.given shelf') 0 in
    record {
      told = long_told limit next (s.told shelf) file long.file;
      can = (replicate (s.given shelf') 0, same, long_bytes limit next _ (subst (λ n. limit < n) (sym same) long.given));
    }

-- a file was not read
pub file_stops : {S : Type 0} {s : shelves.Ghosts S} (file : List ℕ) (limit : ℕ) (next : List ℕ → Outcome) (writes : List ℕ → Type 0) (r : Refusal) {shelf shelf' : S}
    → IsNotRead s file limit of.Vmsa r shelf shelf' → OnlyReads s shelf shelf' → IsUnwritten (s.state shelf') → Stops s (short_file_task file limit next writes) r shelf shelf'
file_stops file limit next writes r h k unwritten =
    not_read_stops (short_file_task file limit next writes) file limit of.Vmsa r refl (long_known file limit next writes) h k unwritten

-- ---- a file that was read

pub short_bytes : (limit : ℕ) (next : List ℕ → Outcome) (bytes : List ℕ) → length bytes ≤ limit → next bytes ≡ short_outcome limit next bytes
unfolding short_outcome
short_bytes limit next bytes h = sym (ap (λ b. if b then refused is.Limit long_vmsa_text else next bytes) (stays limit (length bytes) h))

found_told : (limit : ℕ) (next : List ℕ → Outcome) (told : Option Files) (file bytes : List ℕ) (x : Outcome) → x ≡ short_outcome limit next bytes → IfSome told (λ files. map.get files file ≡ Some bytes)
    → IfSome told (λ files. x ≡ short_file_outcome limit next (map.get files file))
found_told limit next None file bytes x same h = tt
found_told limit next (Some files) file bytes x same h = same ∙ ap (short_file_outcome limit next) (sym h)

-- what becomes of a file that was read
pub read_known : {S : Type 0} {s : shelves.Ghosts S} (file : List ℕ) (limit : ℕ) (next : List ℕ → Outcome) (writes : List ℕ → Type 0) (x : Outcome) {shelf shelf' : S} {items : List ℕ} (bytes : List ℕ) → bytes ≡ items
    → IsRead s file limit items shelf shelf' → next bytes ≡ x → Known s (short_file_task file limit next writes) x shelf shelf'
read_known {S} {s} file limit next writes x {shelf} {shelf'} {items} bytes lent h gives =
    let same = sym gives ∙ ap next lent ∙ short_bytes limit next items h.within in
    record { told = found_told limit next (s.told shelf) file items x same h.whole; can = (items, sym h.given, same) }

-- the bytes that were read are refused
pub judged_stops : {S : Type 0} {s : shelves.Ghosts S} (file : List ℕ) (limit : ℕ) (next : List ℕ → Outcome) (writes : List ℕ → Type 0) (r : Refusal) {shelf shelf' : S} {items : List ℕ} (bytes : List ℕ) → bytes ≡ items
    → IsRead s file limit items shelf shelf' → Refuses (next bytes) r → Stops s (short_file_task file limit next writes) r shelf shelf'
judged_stops file limit next writes r bytes lent h refuses =
    refused_stops (short_file_task file limit next writes) (next bytes) r refuses (read_known file limit next writes (next bytes) bytes lent h refl) h.only.kept h.unwritten

-- there was no memory for what is made of them
pub wanting_stops : {S : Type 0} {s : shelves.Ghosts S} (file : List ℕ) (limit : ℕ) (next : List ℕ → Outcome) (writes : List ℕ → Type 0) {shelf shelf' : S} {items : List ℕ}
    → IsRead s file limit items shelf shelf' → Stops s (short_file_task file limit next writes) Memory shelf shelf'
wanting_stops file limit next writes h = memory_stops (short_file_task file limit next writes) h.only.kept h.unwritten

-- ---- what is made of it

kept_files : (told : Option Files) → told ≡ option_map (with_written None) told
kept_files None = refl
kept_files (Some files) = refl

-- a text is put
pub put_ends : {S O : Type 0} {s : shelves.Ghosts S} {o : sinks.Ghosts O} (file : List ℕ) (limit : ℕ) (next : List ℕ → Outcome) (writes : List ℕ → Type 0) {ending : Result Ended Refusal} {shelf shelf' : S} {out out' : O} {items : List ℕ} (bytes text : List ℕ)
    → bytes ≡ items → IsRead s file limit items shelf shelf' → next bytes ≡ done text → PutsEnd o end.Done text ending out out' → Ends s o (short_file_task file limit next writes) ending shelf shelf' out out'
put_ends {S} {O} {s} file limit next writes {ending} {shelf} bytes text lent h gives put =
    text_ends (done text) end.Done text (read_known file limit next writes (done text) bytes lent h gives) refl refl (h.only.kept ∙ kept_files (s.told shelf)) (inl h.only.kept) h.unwritten put

name_of : (target bytes text : List ℕ) (written : Written) → (done_writing target bytes text).written ≡ Some written → written.name ≡ target
name_of target bytes text written same = cc

-- a file is written, and a text is put
pub written_ends : {S O : Type 0} {s : shelves.Ghosts S} {o : sinks.Ghosts O} (file target : List ℕ) (limit : ℕ) (next : List ℕ → Outcome) {ending : Result Ended Refusal} {shelf mid shelf' : S} {out out' : O} {items : List ℕ} (bytes page text pieces line : List ℕ)
    → bytes ≡ items → IsRead s file limit items shelf mid → next bytes ≡ done_writing target page text → pieces ≡ page → line ≡ text → WriteEnds s o (done_writing target pieces line) ending mid shelf' out out'
    → Ends s o (short_file_task file limit next (λ name. name ≡ target)) ending shelf shelf' out out'
written_ends file target limit next bytes page text pieces line lent h gives same same_text wrote =
    write_ends (short_file_task file limit next (λ name. name ≡ target)) (done_writing target pieces line)
    (read_known file limit next (λ name. name ≡ target) (done_writing target pieces line) bytes lent h (gives ∙ ap₂ (done_writing target) (sym same) (sym same_text))) h.only h.unwritten
    (name_of target pieces line) wrote
