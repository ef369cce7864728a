use Rattle.std.proofs.Common.{◌≡◌, ◌∙◌, ℕ, List}
use Rattle.igvm_jobs.proofs.EndingLemmas.{stopped}
use Rattle.igvm_tool.specs.VmsaJobs.{text_limit, text_outcome}
use Rattle.igvm_tool.proofs.ShortFileLemmas.{file_stops, judged_stops, wanting_stops, written_ends}
use Rattle.igvm_tool.proofs.vmsa_building.build_vmsa_file.Goals as goal

-- JSON was not read
pub returns-in_err-text : goal.returns-in_err-text
returns-in_err-text g c =
    let target = c.args.target.now in
    stopped _ c.from_residual.ensures.1
    (file_stops c.args.json.now text_limit (text_outcome target) (λ name. name ≡ target) _ c.in_err-text.ensures.refused c.read_file.ensures.only_reads c.read_file.ensures.unwritten)

-- its text describes no VMSA
pub returns-in_err-vmsa : goal.returns-in_err-vmsa
returns-in_err-vmsa g c =
    let target = c.args.target.now in
    stopped _ c.from_residual-in_err-vmsa.ensures.1
    (judged_stops c.args.json.now text_limit (text_outcome target) (λ name. name ≡ target) _ _ c.as_slice.ensures.value c.in_ok-text.ensures.read (c.in_err-vmsa.ensures.refused target))

-- there was no memory for the line
pub returns-in_err-line : goal.returns-in_err-line
returns-in_err-line g c =
    let target = c.args.target.now in
    stopped _ c.from_residual-in_err-line.ensures.1 (wanting_stops c.args.json.now text_limit (text_outcome target) (λ name. name ≡ target) c.in_ok-text.ensures.read)

-- the page was written, or not
pub returns : goal.returns
returns g c =
    let target = c.args.target.now in
    written_ends c.args.json.now target text_limit (text_outcome target) _ _ _ _ _ c.as_slice.ensures.value c.in_ok-text.ensures.read (c.in_ok-vmsa.ensures.vmsa target) c.write_page.ensures
    (c.as_bytes.ensures.value ∙ c.in_ok-line.ensures) c.write_whole.ensures
