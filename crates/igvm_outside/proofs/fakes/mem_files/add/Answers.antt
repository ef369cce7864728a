use Rattle.std.proofs.Common.{◌≡◌, length, sym, ◌∙◌, ap, subst, arith}
use Rattle.igvm_outside.specs.MemFiles.{files_of, IsFileAt}
use Rattle.igvm_outside.proofs.Entries.{pushed, pushed_there}
use Rattle.igvm_outside.proofs.fakes.mem_files.add.Goals as goal

pub returns-clause-place : goal.returns-clause-place
returns-clause-place c =
    let named : c.extend_from_slice.new.self.items ≡ c.args.name.now = grind arith in
    let at : length c.args.files.now.items ≡ c.len-at.result = omega arith in
    subst (λ k. IsFileAt c.push.new.self.items c.args.name.now k) at
    (subst (λ files. IsFileAt files c.args.name.now (length c.args.files.now.items)) (sym c.in_ok-push.ensures.items) (pushed_there c.args.files.now.items c.args.name.now _ c.requires named))

pub returns-clause-kept : goal.returns-clause-kept
returns-clause-kept c =
    let named : c.extend_from_slice.new.self.items ≡ c.args.name.now = grind arith in
    ap files_of c.in_ok-push.ensures.items ∙ pushed c.args.files.now.items c.args.name.now _ c.requires named
