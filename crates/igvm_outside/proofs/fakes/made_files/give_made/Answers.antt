use Rattle.std.proofs.Common.{◌≡◌, ℕ, ◌∙◌, length, drop, arith, length-take}
use Rattle.std.proofs.lemmas.List.{take_at}
use Rattle.igvm_outside.proofs.MadeBytes.{made_part}
use Rattle.igvm_outside.proofs.fakes.made_files.give_made.Goals as goal

pub returns-clause-bytes : goal.returns-clause-bytes
returns-clause-bytes c =
    let long : length c.fill.new.part ≡ c.min-count.result = omega (arith, length-take {A = ℕ}, c.min-count.ensures) in
    take_at c.fill.new.part (drop c.min-count.result c.args.buf.now) c.min-count.result long
    ∙ made_part c.fill.new.part c.args.size c.args.place c.min-count.result long (omega (arith, c.min-count.ensures)) c.fill.ensures
