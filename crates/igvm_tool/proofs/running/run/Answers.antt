use Rattle.std.proofs.Common.{ap}
use Rattle.igvm_jobs.proofs.EndingLemmas.{keeps_no_job}
use Rattle.igvm_tool.specs.AllJobs.{words_task}
use Rattle.igvm_tool.proofs.FurtherTaskLemmas.{promised}
use Rattle.igvm_tool.proofs.running.run.Goals as goal

-- the job is done
pub returns-in-Some : goal.returns-in-Some
returns-in-Some g c = promised (ap words_task c.in-Some.ensures.meant) c.run_job.ensures

-- words that mean no job
pub returns-in-None : goal.returns-in-None
returns-in-None g c = promised (ap words_task c.in-None.ensures.meant) (keeps_no_job c.put_text.ensures)
