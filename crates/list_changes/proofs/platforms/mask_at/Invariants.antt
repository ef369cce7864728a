use Rattle.list_changes.proofs.Numbered.{IsLeft}
use Rattle.list_changes.proofs.platforms.mask_at.Given as goal

abbrev pub invariant-parts : goal.invariant-parts
invariant-parts l = IsLeft l.fn.parts l.fn.number l.component-index l.left
