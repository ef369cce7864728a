use Rattle.std.proofs.Common.{◌++◌, ℕ, List}
use Rattle.sha2.specs.Hashers.{Holds256}
use Rattle.sev_chain.proofs.PageBytes.{first_pages}
use Rattle.sev_chain.proofs.hashing.add_pages.Given as goal

-- the pages so far are added
abbrev pub invariant-pages : goal.invariant-pages
invariant-pages l = (m : List ℕ) → Holds256 l.fn.hasher m → Holds256 l.hasher (m ++ first_pages l.content l.k)
