use Rattle.further_words.specs.FurtherView.{seal_view}
use Rattle.igvm_jobs.proofs.EndingLemmas.{stopped}
use Rattle.igvm_jobs.proofs.ImageFileLemmas.{read_as, refused_image}
use Rattle.operation_jobs.specs.SealJob.{sealed_outcome}
use Rattle.operation_jobs.proofs.ImageTaskLemmas.{bytes_stop, file_stops, written_ends}
use Rattle.operation_jobs.proofs.sealing.seal_file.Goals as goal

-- FILE was not read
pub returns-in_err-bytes : goal.returns-in_err-bytes
returns-in_err-bytes g c =
    let words = seal_view c.args.words in
    stopped _ c.from_residual.ensures.1
    (file_stops words.file words.target (sealed_outcome words) _ c.in_err-bytes.ensures.refused c.read_image.ensures.only_reads c.read_image.ensures.unwritten)

-- its bytes are no image
pub returns-in_err-view : goal.returns-in_err-view
returns-in_err-view g c =
    let words = seal_view c.args.words in
    stopped _ c.from_residual-in_err-view.ensures.1
    (bytes_stop words.file words.target (sealed_outcome words) _ _ (read_as c.as_slice.ensures.value c.in_ok-bytes.ensures.read) (c.in_err-view.ensures.refused (sealed_outcome words)))

-- there is no sealed list
pub returns-in_err-list : goal.returns-in_err-list
returns-in_err-list g c =
    let words = seal_view c.args.words in
    let next = sealed_outcome words in
    stopped _ c.from_residual-in_err-list.ensures.1
    (bytes_stop words.file words.target next _ _ (read_as c.as_slice.ensures.value c.in_ok-bytes.ensures.read)
    (refused_image next _ _ _ c.in_ok-view.ensures.file (c.in_ok-view.ensures.accepted next) c.in_err-list.ensures.refused))

-- its image was written, or not
pub returns : goal.returns
returns g c =
    let words = seal_view c.args.words in
    let next = sealed_outcome words in
    written_ends words.file words.target next c.in_ok-list.list (read_as c.as_slice.ensures.value c.in_ok-bytes.ensures.read) c.in_ok-view.ensures.file (c.in_ok-view.ensures.accepted next)
    c.in_ok-list.ensures.list c.in_ok-list.ensures.valid c.write_image.ensures
