use Rattle.std.proofs.Common.{sym, ◌∙◌, ap, subst}
use Rattle.igvm_outside.specs.MemFiles.{IsFileAt}
use Rattle.igvm_outside.proofs.Entries.{name_read, replaced, replaced_there}
use Rattle.igvm_outside.proofs.fakes.mem_files.keep.Goals as goal

pub returns-in-Some-clause-place : goal.returns-in-Some-clause-place
returns-in-Some-clause-place c =
    let here = subst (λ files. IsFileAt files c.args.name.now c.in-Some.at) c.deref.ensures.value c.in-Some.ensures in
    replaced_there c.args.files.now.items c.args.name.now c.in-Some.at _ here
    (ap (λ file. file.name.items) c.index_mut.ensures.value ∙ sym (name_read c.args.files.now.items c.in-Some.at c.index_mut.result.now here.within) ∙ here.named)

pub returns-in-Some-clause-kept : goal.returns-in-Some-clause-kept
returns-in-Some-clause-kept c =
    let here = subst (λ files. IsFileAt files c.args.name.now c.in-Some.at) c.deref.ensures.value c.in-Some.ensures in
    replaced c.args.files.now.items c.args.name.now c.in-Some.at _ here
    (ap (λ file. file.name.items) c.index_mut.ensures.value ∙ sym (name_read c.args.files.now.items c.in-Some.at c.index_mut.result.now here.within) ∙ here.named)
