-- How a job ends that reads one image file and writes another.
use Rattle.std.proofs.Common.{◌≡◌, ◌∙◌, ℕ, ◌<◌, refl, sym, ap, subst, List, replicate, Result}
use Rattle.std.specs.FinMap as map
use Rattle.std.proofs.lemmas.List.{length-replicate}
use Rattle.std.proofs.lemmas.Option.{IfSome_then}
use Rattle.igvm_outside.specs.Files.{IsUnwritten}
use Rattle.igvm_outside.specs.ShelfCalls.{IsRead, IsLonger, OnlyReads}
use Rattle.igvm_outside.specs.declared.shelf.Shelf as shelves
use Rattle.igvm_outside.specs.declared.sink.Sink as sinks
use Rattle.component_list.specs.ImageList.{list_of}
use Rattle.component_list.specs.Lists.{ImageParts, IsList}
use Rattle.igvm_jobs.specs.declared.status.Status.TheVariants as is
use Rattle.igvm_jobs.specs.declared.refusal.Ended.{Ended}
use Rattle.igvm_jobs.specs.declared.refusal.LimitOf.TheVariants as of
use Rattle.igvm_jobs.specs.declared.refusal.Refusal.{Refusal}
use Rattle.igvm_jobs.specs.Texts.{long_file_text}
use Rattle.igvm_jobs.specs.Outcome.{Outcome, refused}
use Rattle.igvm_jobs.specs.ImageFiles.{bytes_outcome, file_outcome, file_limit}
use Rattle.igvm_jobs.specs.BuildJob.{parts_outcome}
use Rattle.igvm_jobs.specs.Refusals.{Refuses}
use Rattle.igvm_jobs.specs.Endings.{Ends, IsNotRead, Stops, WriteEnds}
use Rattle.igvm_jobs.proofs.EndingLemmas.{Known, not_read_stops, write_ends}
use Rattle.igvm_jobs.proofs.BuildLemmas.{parts_named}
use Rattle.igvm_jobs.proofs.ImageFileLemmas.{long_bytes, long_found}
use Rattle.operation_jobs.specs.StoredData.{image_task}
use Rattle.operation_jobs.proofs.Steps.{stops_undone}

-- ---- the file

limit_undone : is.Limit ≡ is.Done → ⊥
limit_undone h = cc

long_known : {S : Type 0} {s : shelves.Ghosts S} (file target : List ℕ) (next : List ℕ → Outcome) {shelf shelf' : S} → IsLonger s file file_limit shelf shelf'
    → Known s (image_task file target next) (refused is.Limit long_file_text) shelf shelf'
long_known {S} {s} file target next {shelf} {shelf'} long =
    let same = length-replicate (s.given shelf') 0 in
    record {
      told = IfSome_then (s.told shelf) long.file (λ files longer. long_found next (map.get files file) longer);
      can = (
        replicate (s.given shelf') 0,
        same,
        long_bytes next _ (subst (λ n. file_limit < n) (sym same) long.given),
        λ done. absurd (limit_undone done),
      );
    }

-- it was not read
pub file_stops : {S : Type 0} {s : shelves.Ghosts S} (file target : List ℕ) (next : List ℕ → Outcome) (r : Refusal) {shelf shelf' : S} → IsNotRead s file file_limit of.File r shelf shelf'
    → OnlyReads s shelf shelf' → IsUnwritten (s.state shelf') → Stops s (image_task file target next) r shelf shelf'
file_stops file target next r h k unwritten = not_read_stops (image_task file target next) file file_limit of.File r refl (long_known file target next) h k unwritten

-- what its bytes give
known_by : {S : Type 0} {s : shelves.Ghosts S} (file target : List ℕ) (next : List ℕ → Outcome) (x : Outcome) {bytes : List ℕ} {shelf shelf' : S} → IsRead s file file_limit bytes shelf shelf'
    → x ≡ bytes_outcome next bytes → (x.status ≡ is.Done → IsList (list_of bytes)) → Known s (image_task file target next) x shelf shelf'
known_by {s} file target next x {bytes} {shelf} read same list =
    record { told = IfSome_then (s.told shelf) read.whole (λ files found. same ∙ ap (file_outcome next) (sym found)); can = (bytes, sym read.given, same, list) }

-- its bytes are refused
pub bytes_stop : {S : Type 0} {s : shelves.Ghosts S} (file target : List ℕ) (next : List ℕ → Outcome) (r : Refusal) (bytes : List ℕ) {shelf shelf' : S} → IsRead s file file_limit bytes shelf shelf'
    → Refuses (bytes_outcome next bytes) r → Stops s (image_task file target next) r shelf shelf'
bytes_stop file target next r bytes read refuses =
    stops_undone (image_task file target next) (bytes_outcome next bytes) r refuses (λ undone. known_by file target next (bytes_outcome next bytes) read refl (λ done. absurd (undone done)))
    read.only.kept read.unwritten

-- ---- the image

-- the image of a list was written, or not
pub written_ends : {S O : Type 0} {s : shelves.Ghosts S} {o : sinks.Ghosts O} (file target : List ℕ) (next : List ℕ → Outcome) (list : ImageParts) {bytes image : List ℕ} {ending : Result Ended Refusal}
    {shelf mid shelf' : S} {out out' : O} → IsRead s file file_limit bytes shelf mid → image ≡ bytes → bytes_outcome next bytes ≡ next bytes → next image ≡ parts_outcome target list → IsList (list_of image)
    → WriteEnds s o (parts_outcome target list) ending mid shelf' out out' → Ends s o (image_task file target next) ending shelf shelf' out out'
written_ends file target next list {bytes} {image} read lent accepted gives valid wrote =
    write_ends (image_task file target next) (parts_outcome target list)
    (known_by file target next (parts_outcome target list) read (sym (accepted ∙ ap next (sym lent) ∙ gives)) (λ done. subst (λ b. IsList (list_of b)) lent valid))
    read.only read.unwritten (parts_named target list) wrote
