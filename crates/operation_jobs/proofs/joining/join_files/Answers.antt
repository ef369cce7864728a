use Rattle.std.proofs.Common.{◌∙◌, ◌≤◌, length, subst, sym}
use Rattle.further_words.specs.FurtherView.{join_view}
use Rattle.igvm_jobs.specs.ImageFiles.{file_limit}
use Rattle.igvm_jobs.proofs.EndingLemmas.{stopped}
use Rattle.igvm_jobs.proofs.ImageFileLemmas.{read_as, refused_image}
use Rattle.operation_jobs.specs.JoinJob.{joined_outcome}
use Rattle.operation_jobs.proofs.JoinLemmas.{both_stop, bytes_stop, first_stops, image_ends, is_first, second_stops}
use Rattle.operation_jobs.proofs.joining.join_files.Goals as goal

-- the first file was not read
pub returns-in_err-first : goal.returns-in_err-first
returns-in_err-first g c =
    let words = join_view c.args.words in
    stopped _ c.from_residual.ensures.1 (first_stops words _ c.in_err-first.ensures.refused c.read_image.ensures.only_reads c.read_image.ensures.unwritten)

-- its bytes are no image
pub returns-in_err-first_view : goal.returns-in_err-first_view
returns-in_err-first_view g c =
    let words = join_view c.args.words in
    stopped _ c.from_residual-in_err-first_view.ensures.1
    (bytes_stop words _ _ (read_as c.as_slice.ensures.value c.in_ok-first.ensures.read) c.in_err-first_view.ensures.refused)

-- the second was not read
pub returns-in_err-second : goal.returns-in_err-second
returns-in_err-second g c =
    let words = join_view c.args.words in
    let h = is_first words (read_as c.as_slice.ensures.value c.in_ok-first.ensures.read) c.in_ok-first_view.ensures.file c.in_ok-first_view.ensures.accepted in
    stopped _ c.from_residual-in_err-second.ensures.1 (second_stops words _ h c.in_err-second.ensures.refused c.read_image-2.ensures.only_reads c.read_image-2.ensures.unwritten)

-- its bytes are no image
pub returns-in_err-second_view : goal.returns-in_err-second_view
returns-in_err-second_view g c =
    let words = join_view c.args.words in
    let h = is_first words (read_as c.as_slice.ensures.value c.in_ok-first.ensures.read) c.in_ok-first_view.ensures.file c.in_ok-first_view.ensures.accepted in
    stopped _ c.from_residual-in_err-second_view.ensures.1
    (both_stop words _ h (read_as c.as_slice-2.ensures.value c.in_ok-second.ensures.read) (c.in_err-second_view.ensures.refused (joined_outcome words.target c.in_ok-first_view.first_view)))

-- the lists are not joined
pub returns-in_err-list : goal.returns-in_err-list
returns-in_err-list g c =
    let words = join_view c.args.words in
    let h = is_first words (read_as c.as_slice.ensures.value c.in_ok-first.ensures.read) c.in_ok-first_view.ensures.file c.in_ok-first_view.ensures.accepted in
    let next = joined_outcome words.target c.in_ok-first_view.first_view in
    stopped _ c.from_residual-in_err-list.ensures.1
    (both_stop words _ h (read_as c.as_slice-2.ensures.value c.in_ok-second.ensures.read)
    (refused_image next _ _ _ c.in_ok-second_view.ensures.file (c.in_ok-second_view.ensures.accepted next) (c.in_err-list.ensures.refused words.target)))

pub joined_list-requires-clause-first : goal.joined_list-requires-clause-first
joined_list-requires-clause-first g c =
    subst (λ b. length b ≤ file_limit) (sym (c.in_ok-first_view.ensures.file ∙ c.as_slice.ensures.value)) c.in_ok-first.ensures.read.within

pub joined_list-requires-clause-second : goal.joined_list-requires-clause-second
joined_list-requires-clause-second g c =
    subst (λ b. length b ≤ file_limit) (sym (c.in_ok-second_view.ensures.file ∙ c.as_slice-2.ensures.value)) c.in_ok-second.ensures.read.within

-- the image was written, or not
pub returns : goal.returns
returns g c =
    let words = join_view c.args.words in
    let h = is_first words (read_as c.as_slice.ensures.value c.in_ok-first.ensures.read) c.in_ok-first_view.ensures.file c.in_ok-first_view.ensures.accepted in
    let next = joined_outcome words.target c.in_ok-first_view.first_view in
    image_ends words c.in_ok-list.list c.reads_compose.ensures h (read_as c.as_slice-2.ensures.value c.in_ok-second.ensures.read) c.in_ok-second_view.ensures.file
    (c.in_ok-second_view.ensures.accepted next) (c.in_ok-list.ensures.list words.target) c.in_ok-list.ensures.valid c.write_image.ensures
