use Rattle.igvm_tool.proofs.FurtherTaskLemmas.{all_promised, job_of_further, job_of_first, further_keeps, first_keeps}
use Rattle.igvm_tool.proofs.running.run_all.Goals as goal

-- a further job's end and its line
pub returns-in-Some : goal.returns-in-Some
returns-in-Some g c =
    all_promised g.S.Shelf g.O.Sink g.E.Sink g.L.Launch g.M.SevLaunch _ _ _ _ _ _ _ _ _ _ _ _ _ (job_of_further _ _ c.in-Some.ensures.meant)
    (further_keeps g.S.Shelf g.O.Sink g.E.Sink g.L.Launch g.M.SevLaunch _ c.do_further-end.result _ _ _ _ _ _ _ _ _ _ c.do_further-end.ensures c.finish.ensures.status c.finish.ensures.text)

-- the words of another command, or of none
pub returns-in-None : goal.returns-in-None
returns-in-None g c =
    all_promised g.S.Shelf g.O.Sink g.E.Sink g.L.Launch g.M.SevLaunch _ _ _ _ _ _ _ _ _ _ _ _ _ (job_of_first _ c.in-None.ensures.meant)
    (first_keeps g.S.Shelf g.O.Sink g.E.Sink g.L.Launch g.M.SevLaunch _ _ _ _ _ _ _ _ _ _ _ c.run.ensures)
