-- How a job on one image file ends.
use Rattle.std.proofs.Common.{◌≡◌, ◌∙◌, ℕ, ◌<◌, arith, [], replicate, refl, sym, ap, subst, inl, List, length, true, Option, Some, None, Result, IfSome}
use Rattle.std.specs.Prelude.{nat_lt, unwrap_or, if◌then◌else◌}
use Rattle.std.specs.FinMap as map
use Rattle.std.specs.Option.{option_map}
use Rattle.std.proofs.lemmas.List.{length-replicate}
use Rattle.igvm_image.specs.FileFault.{fault_of}
use Rattle.igvm_outside.specs.Files.{Files, IsUnwritten, content}
use Rattle.igvm_outside.specs.ShelfCalls.{IsRead, IsLonger, OnlyReads}
use Rattle.igvm_outside.specs.declared.shelf.Shelf as shelves
use Rattle.igvm_outside.specs.declared.sink.Sink as sinks
use Rattle.igvm_jobs.specs.declared.status.Status.TheVariants as is
use Rattle.igvm_jobs.specs.declared.refusal.Refusal.{Refusal}
use Rattle.igvm_jobs.specs.declared.refusal.LimitOf.TheVariants as of
use Rattle.igvm_jobs.specs.declared.refusal.Ended.{Ended}
use Rattle.igvm_jobs.specs.declared.refusal.Ended.TheVariants as end
use Rattle.igvm_jobs.specs.Texts.{long_file_text}
use Rattle.igvm_jobs.specs.Outcome.{Outcome, refused}
use Rattle.igvm_jobs.specs.ImageFiles.{bytes_outcome, image_outcome, file_outcome, file_limit, file_task}
use Rattle.igvm_jobs.specs.Refusals.{Refuses, ended_outcome, ended_status}
use Rattle.igvm_jobs.specs.Clauses.{with_written, FilesAreKept}
use Rattle.igvm_jobs.specs.Endings.{IsNotRead, Ends, Stops, PutsEnd}
use Rattle.igvm_jobs.proofs.EndingLemmas.{Known, refused_stops, not_read_stops, text_ends}

passes : (a b : ℕ) → a < b → nat_lt a b ≡ true
passes a b h = grind arith

pub long_bytes : (next : List ℕ → Outcome) (bytes : List ℕ) → file_limit < length bytes → refused is.Limit long_file_text ≡ bytes_outcome next bytes
unfolding bytes_outcome
long_bytes next bytes h =
    sym (ap (λ b. if b then refused is.Limit long_file_text else image_outcome next bytes (fault_of bytes)) (passes file_limit (length bytes) h))

pub long_found : (next : List ℕ → Outcome) (found : Option (List ℕ)) → file_limit < length (unwrap_or found []) → refused is.Limit long_file_text ≡ file_outcome next found
long_found next None h = absurd (omega arith)
long_found next (Some bytes) h = long_bytes next bytes h

long_told : (next : List ℕ → Outcome) (told : Option Files) (file : List ℕ) → IfSome told (λ files. file_limit < length (content files file))
    → IfSome told (λ files. refused is.Limit long_file_text ≡ file_outcome next (map.get files file))
long_told next None file h = tt
long_told next (Some files) file h = long_found next (map.get files file) h

-- what becomes of a file that gave more than its limit
long_known : {S : Type 0} {s : shelves.Ghosts S} (next : List ℕ → Outcome) (file : List ℕ) {shelf shelf' : S} → IsLonger s file file_limit shelf shelf'
    → Known s (file_task file next) (refused is.Limit long_file_text) shelf shelf'
long_known {S} {s} next file {shelf} {shelf'} long =
    let same = length-replicate (s.given shelf') 0 in
    record { told = long_told next (s.told shelf) file long.file; can = (replicate (s.given shelf') 0, same, long_bytes next _ (subst (λ n. file_limit < n) (sym same) long.given)) }

-- a file was not read
pub image_stops : {S : Type 0} {s : shelves.Ghosts S} (next : List ℕ → Outcome) (file : List ℕ) (r : Refusal) {shelf shelf' : S}
    → IsNotRead s file file_limit of.File r shelf shelf' → OnlyReads s shelf shelf' → IsUnwritten (s.state shelf') → Stops s (file_task file next) r shelf shelf'
image_stops next file r h k unwritten = not_read_stops (file_task file next) file file_limit of.File r refl (long_known next file) h k unwritten

found_told : (next : List ℕ → Outcome) (told : Option Files) (file bytes : List ℕ) → IfSome told (λ files. map.get files file ≡ Some bytes)
    → IfSome told (λ files. bytes_outcome next bytes ≡ file_outcome next (map.get files file))
found_told next None file bytes h = tt
found_told next (Some files) file bytes h = ap (file_outcome next) (sym h)

-- the bytes that were read are refused
pub judged_stops : {S : Type 0} {s : shelves.Ghosts S} (next : List ℕ → Outcome) (r : Refusal) (file bytes : List ℕ) {shelf shelf' : S}
    → IsRead s file file_limit bytes shelf shelf' → Refuses (bytes_outcome next bytes) r → Stops s (file_task file next) r shelf shelf'
judged_stops {S} {s} next r file bytes {shelf} h refuses =
    refused_stops (file_task file next) (bytes_outcome next bytes) r refuses
    (record { told = found_told next (s.told shelf) file bytes h.whole; can = (bytes, sym h.given, refl) }) h.only.kept h.unwritten

-- the image that was accepted is refused
pub refused_image : (next : List ℕ → Outcome) (r : Refusal) (bytes image : List ℕ) → image ≡ bytes → bytes_outcome next bytes ≡ next bytes → Refuses (next image) r
    → Refuses (bytes_outcome next bytes) r
refused_image next r bytes image same accepted refuses = subst (λ (x : Outcome). Refuses x r) (sym (accepted ∙ ap next (sym same))) refuses

-- what was read, as it is lent
pub read_as : {S : Type 0} {s : shelves.Ghosts S} {file : List ℕ} {limit : ℕ} {shelf shelf' : S} {items bytes : List ℕ} → bytes ≡ items → IsRead s file limit items shelf shelf' → IsRead s file limit bytes shelf shelf'
read_as {S} {s} {file} {limit} {shelf} {shelf'} same h = subst (λ b. IsRead s file limit b shelf shelf') (sym same) h

kept_files : (told : Option Files) → told ≡ option_map (with_written None) told
kept_files None = refl
kept_files (Some files) = refl

ended_files : (ended : Ended) (text : List ℕ) (told told' : Option Files) → told' ≡ told → FilesAreKept (ended_outcome ended text) (ended_status ended) told told'
ended_files end.Done text told told' same = same ∙ kept_files told
ended_files end.NotFit text told told' same = same

ended_told : (next : List ℕ → Outcome) (told : Option Files) (file bytes : List ℕ) (x : Outcome) → IfSome told (λ files. map.get files file ≡ Some bytes) → x ≡ bytes_outcome next bytes
    → IfSome told (λ files. x ≡ file_outcome next (map.get files file))
ended_told next told file bytes x found same = subst (λ (y : Outcome). IfSome told (λ files. y ≡ file_outcome next (map.get files file))) (sym same) (found_told next told file bytes found)

-- the text of a file's image is put
pub put_ends : {S O : Type 0} {s : shelves.Ghosts S} {o : sinks.Ghosts O} (next : List ℕ → Outcome) (ended : Ended) {file : List ℕ} {ending : Result Ended Refusal} {shelf shelf' : S} {out out' : O} (bytes text : List ℕ)
    → IsRead s file file_limit bytes shelf shelf' → ended_outcome ended text ≡ bytes_outcome next bytes → PutsEnd o ended text ending out out' → Ends s o (file_task file next) ending shelf shelf' out out'
put_ends {S} {O} {s} {o} next ended {file} {ending} {shelf} {shelf'} bytes text h same put =
    text_ends (ended_outcome ended text) ended text
    (record { told = ended_told next (s.told shelf) file bytes (ended_outcome ended text) h.whole same; can = (bytes, sym h.given, same) }) refl refl
    (ended_files ended text (s.told shelf) (s.told shelf') h.only.kept) (inl h.only.kept) h.unwritten put
