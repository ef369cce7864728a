use Rattle.igvm_image.specs.Headers.{placed_headers}
use Rattle.directive_rules.specs.FirstMisfit.{setting_of}
use Rattle.directive_rules.proofs.HeaderWalk.{Walk}
use Rattle.directive_rules.proofs.first_misfit.check.Given as goal

abbrev pub invariant-headers : goal.invariant-headers
invariant-headers l = Walk (setting_of l.view l.platform l.plan l.host) l.platform.mask l.earlier (placed_headers l.view) l.placed-iterator
