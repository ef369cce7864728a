use Rattle.std.proofs.Common.{refl, sym, ap}
use Rattle.igvm_words.specs.declared.job.Job.{Job}
use Rattle.igvm_words.specs.JobView.{job_view}
use Rattle.igvm_jobs.specs.Jobs.{task_of}
use Rattle.igvm_jobs.proofs.EndingLemmas.{without, task_meant}
use Rattle.igvm_jobs.proofs.running.do_job.Goals as goal

pub returns-in-Build : goal.returns-in-Build
returns-in-Build g c = task_meant (ap (λ (j : Job). task_of (job_view j)) (sym c.in-Build.is)) (without refl c.build_file.ensures)

pub returns-in-Print : goal.returns-in-Print
returns-in-Print g c = task_meant (ap (λ (j : Job). task_of (job_view j)) (sym c.in-Print.is)) (without refl c.put_listing.ensures)

pub returns-in-Measure : goal.returns-in-Measure
returns-in-Measure g c = task_meant (ap (λ (j : Job). task_of (job_view j)) (sym c.in-Measure.is)) (without refl c.put_digest.ensures)

pub returns-in-Load : goal.returns-in-Load
returns-in-Load g c = task_meant (ap (λ (j : Job). task_of (job_view j)) (sym c.in-Load.is)) c.load_file.ensures

pub returns-in-Make : goal.returns-in-Make
returns-in-Make g c = task_meant (ap (λ (j : Job). task_of (job_view j)) (sym c.in-Make.is)) c.make_file.ensures
