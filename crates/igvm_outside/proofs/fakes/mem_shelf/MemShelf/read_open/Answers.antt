use Rattle.std.proofs.Common.{◌≡◌, ◌∙◌, ap, length, arith}
use Rattle.igvm_outside.specs.Files.{content}
use Rattle.igvm_outside.proofs.MemReads.{is_read}
use Rattle.igvm_outside.proofs.fakes.mem_shelf.MemShelf.read_open.Goals as goal

pub returns-clause-bytes : goal.returns-clause-bytes
returns-clause-bytes c = λ name at is.
    let read = is_read c.self.inside.files.items _ _ c.self.inside.turn _ c.in-Read.file c.in-Read.place at c.index.result.now
    (ap (λ s. s.files) c.self.view_is) (ap (λ s. s.state) c.self.view_is) c.self.invariant c.in-Read.is is in
    let lent = ap (λ f. f.bytes.items) c.index.ensures in
    cc (read.held, read.same_place, lent)

pub returns-clause-end : goal.returns-clause-end
returns-clause-end c = λ name at is none.
    let read = is_read c.self.inside.files.items _ _ c.self.inside.turn _ c.in-Read.file c.in-Read.place at c.index.result.now
    (ap (λ s. s.files) c.self.view_is) (ap (λ s. s.state) c.self.view_is) c.self.invariant c.in-Read.is is in
    let lent = ap (λ f. f.bytes.items) c.index.ensures in
    let whole : c.deref.result.now ≡ content c.args.self.now.files name = cc (read.held, lent) in
    omega (arith, ap length whole, read.same_place, c.give-count.ensures.end none c.requires.room)

pub returns-clause-exact : goal.returns-clause-exact
returns-clause-exact c = λ name at is.
    let read = is_read c.self.inside.files.items _ _ c.self.inside.turn _ c.in-Read.file c.in-Read.place at c.index.result.now
    (ap (λ s. s.files) c.self.view_is) (ap (λ s. s.state) c.self.view_is) c.self.invariant c.in-Read.is is in
    let lent = ap (λ f. f.bytes.items) c.index.ensures in
    let whole : c.deref.result.now ≡ content c.args.self.now.files name = cc (read.held, lent) in
    let piece = c.in_ok-call.ensures.called.piece ∙ ap (λ s. s.script.piece) c.self.view_is in
    cc (c.give-count.ensures.count, whole, read.same_place, piece)
