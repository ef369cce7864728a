use Rattle.std.proofs.Common.{take}
use Rattle.std.specs.List.{flat_map}
use Rattle.pages_file.specs.Added.{IsAdded}
use Rattle.pages_file.specs.PagesFile.{context_record}
use Rattle.pages_file.proofs.writing.write_contexts.Given as goal

-- the records so far are added
abbrev pub invariant-contexts : goal.invariant-contexts
invariant-contexts g l =
    IsAdded g.S.Shelf l.name (flat_map context_record (take l.k (g.L.Launch.state l.machine).contexts)) l.fn.shelf l.shelf
