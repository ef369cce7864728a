use Rattle.std.proofs.Common.{◌≡◌, ◌++◌, take, arith}
use Rattle.igvm_outside.proofs.ReadProgress.{given_more}
use Rattle.igvm_outside.proofs.reading.read_more.Goals as goal

pub returns-clause-given : goal.returns-clause-given
returns-clause-given g c =
    let place = c.requires.given.place in
    let grown : c.extend_from_slice.new.self.items ≡ c.args.bytes.now.items ++ take c.in_ok-count.count c.read.new.buf = grind arith in
    given_more g.S.Shelf _ _ _ _ _ _ _ c.requires.given c.in_ok-count.ensures.within
    (c.in_ok-count.ensures.bytes _ place)
    (c.in_ok-count.ensures.moved _ place)
    c.in_ok-count.ensures.given c.read.ensures.kept grown
