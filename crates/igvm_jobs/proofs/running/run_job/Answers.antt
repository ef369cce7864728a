use Rattle.igvm_jobs.proofs.EndingLemmas.{keeps}
use Rattle.igvm_jobs.proofs.JobLemmas.{is_meant}
use Rattle.igvm_jobs.proofs.running.run_job.Goals as goal

-- the job's end and its line
pub returns : goal.returns
returns g c = keeps c.do_job-end.result (is_meant _) c.do_job-end.ensures c.finish.ensures.status c.finish.ensures.text
