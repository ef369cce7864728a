use Rattle.std.proofs.Common.{take}
use Rattle.std.specs.List.{flat_map}
use Rattle.pages_file.specs.Added.{IsAdded}
use Rattle.pages_file.specs.PagesFile.{entry_record}
use Rattle.pages_file.proofs.writing.write_entries.Given as goal

-- the records so far are added
abbrev pub invariant-entries : goal.invariant-entries
invariant-entries g l =
    IsAdded g.S.Shelf l.name (flat_map entry_record (take l.k (g.L.Launch.state l.machine).entries)) l.fn.shelf l.shelf
