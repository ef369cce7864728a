use Rattle.image_loader.specs.Sources.{load_in}
use Rattle.image_loader.specs.Carrying.{Carries}
use Rattle.image_loader.proofs.headers.carry_all.Given as goal

-- the machine is on its way, and these headers are left
abbrev pub invariant-headers : goal.invariant-headers
invariant-headers g l = Carries g.C.Carrier (load_in l.source) l.placed-iterator l.areas l.fn.machine l.machine
