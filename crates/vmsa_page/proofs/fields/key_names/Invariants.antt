use Rattle.std.proofs.Common.{◌≡◌, ◌++◌, ◌-◌, codes, map, replicate, take}
use Rattle.vmsa_page.specs.Fields.{key_names}
use Rattle.vmsa_page.proofs.fields.key_names.Given as goal

abbrev pub invariant-steps : goal.invariant-steps
invariant-steps l = map (λ name. name.now) l.names ≡ take l.number key_names ++ replicate (24 - l.number) (codes "other")
