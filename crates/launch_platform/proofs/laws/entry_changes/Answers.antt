use Rattle.launch_platform.proofs.ChangedEntries.{change_at-changed, change_at-other, length-change_at}
use Rattle.launch_platform.proofs.laws.entry_changes.Goals as goal

pub returns-clause-changed : goal.returns-clause-changed
returns-clause-changed c = change_at-changed

pub returns-clause-others : goal.returns-clause-others
returns-clause-others c = change_at-other

pub returns-clause-size : goal.returns-clause-size
returns-clause-size c = length-change_at
