-- what the index finds stays where it is
use Rattle.std.proofs.Common.{sym}
use Rattle.image_builder.proofs.Kept.{found_in, kept_already}
use Rattle.image_builder.proofs.contents.Contents.place.Goals as goal

pub returns-in-Some-clause-kept : goal.returns-in-Some-clause-kept
returns-in-Some-clause-kept c =
    let kept = c.args.self.now.kept in
    kept_already c.args.bytes.now kept (found_in c.args.self.now.start c.in-Some.place c.args.bytes.now kept (sym c.in-Some.ensures)).among

pub returns-in-Some-clause-place : goal.returns-in-Some-clause-place
returns-in-Some-clause-place c =
    (found_in c.args.self.now.start c.in-Some.place c.args.bytes.now c.args.self.now.kept (sym c.in-Some.ensures)).place
