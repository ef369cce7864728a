use Rattle.std.proofs.Common.{refl, sym, ap}
use Rattle.further_words.specs.declared.job.FurtherJob.{FurtherJob}
use Rattle.further_words.specs.FurtherView.{further_view}
use Rattle.igvm_tool.proofs.FurtherTaskLemmas.{job_ends}
use Rattle.igvm_tool.proofs.further.do_further.Goals as goal

pub returns-in-SevMeasure : goal.returns-in-SevMeasure
returns-in-SevMeasure g c = job_ends (ap (λ (job : FurtherJob). further_view job) (sym c.in-SevMeasure.is)) (record { by_command = (c.put_sev_digest.ensures, refl) })

pub returns-in-SevLoad : goal.returns-in-SevLoad
returns-in-SevLoad g c = job_ends (ap (λ (job : FurtherJob). further_view job) (sym c.in-SevLoad.is)) (record { by_command = c.sev_load_file.ensures })

pub returns-in-VmsaBuild : goal.returns-in-VmsaBuild
returns-in-VmsaBuild g c = job_ends (ap (λ (job : FurtherJob). further_view job) (sym c.in-VmsaBuild.is)) (record { by_command = (c.build_vmsa_file.ensures, refl) })

pub returns-in-VmsaPrint : goal.returns-in-VmsaPrint
returns-in-VmsaPrint g c = job_ends (ap (λ (job : FurtherJob). further_view job) (sym c.in-VmsaPrint.is)) (record { by_command = (c.put_vmsa_text.ensures, refl) })

pub returns-in-BuildElf : goal.returns-in-BuildElf
returns-in-BuildElf g c = job_ends (ap (λ (job : FurtherJob). further_view job) (sym c.in-BuildElf.is)) (record { by_command = (c.build_elf_file.ensures, refl) })
