use Rattle.std.proofs.Common.{◌≡◌, ◌∙◌, ap, arith, length, take, ◌<◌, ◌≤◌}
use Rattle.std.specs.List.{insert}
use Rattle.std.proofs.lemmas.List.{length-take}
use Rattle.elf_pages.proofs.SortedTables.{inserted}
use Rattle.elf_pages.proofs.segment_table.SegmentTable.insert.Goals as goal

pub returns : goal.returns
returns c =
    let seen : length (take c.self.inside.count c.self.inside.room) ≡ length c.args.self.now = ap length c.self.view_is in
    let size = length-take c.self.inside.count c.self.inside.room in
    let place = c.requires.place in
    let room = c.requires.room in
    let fits : c.args.at ≤ c.self.inside.count = omega arith in
    let within : c.self.inside.count < length c.self.inside.room = omega arith in
    inserted c.self.inside.room c.copy_within.new.self c.args.at c.self.inside.count c.args.segment c.copy_within.ensures.len within fits c.copy_within.ensures.by_index.0 c.copy_within.ensures.by_index.1
    ∙ ap (λ t. insert t c.args.at c.args.segment) c.self.view_is
