use Rattle.std.proofs.Common.{◌∙◌, sym, ap, length, rules}
use Rattle.igvm_image.proofs.HeadersLemmas.{placed_end, placed_nothing, placed_stop, placed_step}
use Rattle.igvm_image.proofs.headers.HeadersIterator.next.Goals as goal

-- no header is left
pub returns-in_default-clause-steps : goal.returns-in_default-clause-steps
returns-in_default-clause-steps c =
    let none = sym c.self.view_is ∙ placed_end _ _ _ _ (sym c.in_default.ensures.found) in
    (none, none)

-- what stands there is no header
pub returns-in_default-decode_header-clause-steps : goal.returns-in_default-decode_header-clause-steps
returns-in_default-decode_header-clause-steps c =
    let none = sym c.self.view_is ∙ placed_stop _ _ _ _ _ _ _ (sym c.in-Some.ensures.found) (sym c.decode_header.ensures ∙ c.in_default-decode_header.is) in
    (none, placed_nothing _ _ _)

-- one header, and those behind it
pub returns-clause-steps : goal.returns-clause-steps
returns-clause-steps c =
    rw c.of.ensures (sym c.self.view_is ∙ placed_step _ _ _ _ _ _ _ (sym c.in-Some.ensures.found) (sym c.in-Ok.ensures))

pub returns-clause-goes : goal.returns-clause-goes
returns-clause-goes c =
    let step = sym c.self.view_is ∙ placed_step _ _ _ _ _ _ _ (sym c.in-Some.ensures.found) (sym c.in-Ok.ensures) in
    let shorter = ap length step in
    search rules
