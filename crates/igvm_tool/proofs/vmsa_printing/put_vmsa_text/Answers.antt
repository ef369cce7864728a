use Rattle.std.proofs.Common.{◌∙◌, refl, sym, ap}
use Rattle.vmsa_page.specs.Texts.{vmsa_json}
use Rattle.igvm_jobs.specs.declared.refusal.Refusal.TheVariants.{Memory}
use Rattle.igvm_jobs.specs.Outcome.{done}
use Rattle.igvm_jobs.proofs.EndingLemmas.{stopped}
use Rattle.igvm_tool.specs.VmsaJobs.{page_limit, page_outcome}
use Rattle.igvm_tool.proofs.ShortFileLemmas.{file_stops, wanting_stops, put_ends}
use Rattle.igvm_tool.proofs.VmsaTextLemmas.{page_text}
use Rattle.igvm_tool.proofs.vmsa_printing.put_vmsa_text.Goals as goal

-- FILE was not read
pub returns-in_err-page : goal.returns-in_err-page
returns-in_err-page g c =
    stopped _ c.from_residual.ensures.1
    (file_stops c.args.file.now page_limit page_outcome (λ name. ⊥) _ c.in_err-page.ensures.refused c.read_file.ensures.only_reads c.read_file.ensures.unwritten)

-- there was no memory for the VMSA
pub returns-in_default : goal.returns-in_default
returns-in_default g c = stopped Memory refl (wanting_stops c.args.file.now page_limit page_outcome (λ name. ⊥) c.in_ok-page.ensures.read)

-- there was no memory for its text
pub returns-in_default-vmsa_text : goal.returns-in_default-vmsa_text
returns-in_default-vmsa_text g c = stopped Memory refl (wanting_stops c.args.file.now page_limit page_outcome (λ name. ⊥) c.in_ok-page.ensures.read)

-- the text is put
pub returns : goal.returns
returns g c =
    put_ends c.args.file.now page_limit page_outcome (λ name. ⊥) _ _ c.as_slice.ensures.value c.in_ok-page.ensures.read
    (page_text _ ∙ ap done (sym (c.as_slice-2.ensures.value ∙ c.in-Ok-vmsa_text.ensures ∙ ap vmsa_json c.in-Ok.ensures.read))) c.put_end.ensures
