use Rattle.further_words.specs.FurtherView.{sev_load_view}
use Rattle.igvm_jobs.proofs.ImageFileLemmas.{read_as, refused_image}
use Rattle.igvm_tool.specs.SevLoadJob.{sev_set}
use Rattle.igvm_tool.proofs.SevLoadLemmas.{load_words, stopped_on, file_stops, bytes_stop, is_set, host_stops, text_stops, launch_ends}
use Rattle.igvm_tool.proofs.sev_loading.sev_load_file.Goals as goal

-- FILE was not read
pub returns-in_err-bytes : goal.returns-in_err-bytes
returns-in_err-bytes g c =
    let words = sev_load_view c.args.words in
    stopped_on words _ c.from_residual.ensures.1 (file_stops words _ c.in_err-bytes.ensures.refused c.read_image.ensures.only_reads c.read_image.ensures.unwritten)

-- its bytes are no image
pub returns-in_err-view : goal.returns-in_err-view
returns-in_err-view g c =
    let words = sev_load_view c.args.words in
    stopped_on words _ c.from_residual-in_err-view.ensures.1
    (bytes_stop words _ _ (read_as c.as_slice.ensures.value c.in_ok-bytes.ensures.read) (λ next. c.in_err-view.ensures.refused (sev_set words.wanted next)))

-- the image has no such platform, or its kind no such digest
pub returns-in_err-platform : goal.returns-in_err-platform
returns-in_err-platform g c =
    let words = sev_load_view c.args.words in
    stopped_on words _ c.from_residual-in_err-platform.ensures.1
    (bytes_stop words _ _ (read_as c.as_slice.ensures.value c.in_ok-bytes.ensures.read)
    (λ next. refused_image (sev_set words.wanted next) _ _ _ c.in_ok-view.ensures.file (c.in_ok-view.ensures.accepted (sev_set words.wanted next)) (c.in_err-platform.ensures.refused next)))

-- HOST was not read
pub returns-in_err-text : goal.returns-in_err-text
returns-in_err-text g c =
    let words = sev_load_view c.args.words in
    let file = read_as c.as_slice.ensures.value c.in_ok-bytes.ensures.read in
    let h = is_set words file c.in_ok-view.ensures.file c.in_ok-view.ensures.accepted c.in_ok-platform.ensures.found c.in_ok-platform.ensures.digest in
    stopped_on words _ c.from_residual-in_err-text.ensures.1 (host_stops words _ h c.in_err-text.ensures.refused c.read_description.ensures.only_reads c.read_description.ensures.unwritten)

-- its text describes no host
pub returns-in_err-plan : goal.returns-in_err-plan
returns-in_err-plan g c =
    let words = sev_load_view c.args.words in
    let file = read_as c.as_slice.ensures.value c.in_ok-bytes.ensures.read in
    let h = is_set words file c.in_ok-view.ensures.file c.in_ok-view.ensures.accepted c.in_ok-platform.ensures.found c.in_ok-platform.ensures.digest in
    stopped_on words _ c.from_residual-in_err-plan.ensures.1
    (text_stops words _ h (read_as c.as_slice-2.ensures.value c.in_ok-text.ensures.read) (c.in_err-plan.ensures.refused (load_words words) _))

-- the image was launched on the host
pub returns : goal.returns
returns g c =
    let words = sev_load_view c.args.words in
    let file = read_as c.as_slice.ensures.value c.in_ok-bytes.ensures.read in
    let h = is_set words file c.in_ok-view.ensures.file c.in_ok-view.ensures.accepted c.in_ok-platform.ensures.found c.in_ok-platform.ensures.digest in
    launch_ends words c.reads_compose.ensures h (read_as c.as_slice-2.ensures.value c.in_ok-text.ensures.read) c.in_ok-plan.ensures.host (c.launch.ensures _ h.digest)
