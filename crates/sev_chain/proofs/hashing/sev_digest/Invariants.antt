use Rattle.igvm_image.specs.Headers.{placed_headers}
use Rattle.sev_chain.proofs.HashedHeaders.{Hashing}
use Rattle.sev_chain.proofs.hashing.sev_digest.Given as goal

abbrev pub invariant-headers : goal.invariant-headers
invariant-headers l = Hashing l.platform.kind l.platform.mask (placed_headers l.view) l.placed-iterator l.hasher
