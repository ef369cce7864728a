use Rattle.std.proofs.Common.{◌≡◌, ◌++◌, get_or, refl, sym, ◌∙◌, ap}
use Rattle.std.specs.FinMap as map
use Rattle.igvm_outside.specs.Files.{content}
use Rattle.igvm_outside.specs.MemFiles.{files_of, name_at}
use Rattle.igvm_outside.proofs.Entries.{name_read, bytes_read, content_there, replaced, replaced_there, entries_same}
use Rattle.igvm_outside.proofs.Refused.{on_err}
use Rattle.igvm_outside.proofs.fakes.mem_files.append.Goals as goal

pub returns-in_err-extend_from_slice-clause-place : goal.returns-in_err-extend_from_slice-clause-place
returns-in_err-extend_from_slice-clause-place c =
    replaced_there c.args.files.now (name_at c.args.files.now c.args.at) c.args.at _ c.requires
    (sym (name_read c.args.files.now c.args.at c.index-files-at.result c.requires.within) ∙ c.requires.named)

pub returns-in_err-extend_from_slice-clause-refused : goal.returns-in_err-extend_from_slice-clause-refused
returns-in_err-extend_from_slice-clause-refused c =
    on_err c.from_residual.result
    (entries_same c.args.files.now c.args.at _ c.index-files-at.result refl c.in_err-extend_from_slice.ensures.items)

pub returns-clause-place : goal.returns-clause-place
returns-clause-place c =
    replaced_there c.args.files.now (name_at c.args.files.now c.args.at) c.args.at _ c.requires
    (sym (name_read c.args.files.now c.args.at c.index-files-at.result c.requires.within) ∙ c.requires.named)

pub returns-clause-longer : goal.returns-clause-longer
returns-clause-longer c =
    let was : content (files_of c.args.files.now) (name_at c.args.files.now c.args.at) ≡ (get_or c.args.files.now c.args.at c.index-files-at.result).bytes.items =
    content_there c.args.files.now (name_at c.args.files.now c.args.at) c.args.at c.requires
    ∙ bytes_read c.args.files.now c.args.at c.index-files-at.result c.requires.within in
    replaced c.args.files.now (name_at c.args.files.now c.args.at) c.args.at _ c.requires
    (sym (name_read c.args.files.now c.args.at c.index-files-at.result c.requires.within) ∙ c.requires.named)
    ∙ ap (map.insert (files_of c.args.files.now) (name_at c.args.files.now c.args.at)) (c.in_ok-extend_from_slice.ensures.items ∙ ap (λ b. b ++ c.args.piece.now) (sym was))
