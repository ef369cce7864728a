-- What is said where an image isn't sealed: docs/PROGRAM.md.
use Rattle.std.specs.Prelude.{ℕ, List, ◌++◌, codes}
use Rattle.igvm_headers.specs.PlatformKinds.{kind_text}
use Rattle.igvm_headers.specs.declared.platform_kind.PlatformKind.{PlatformKind}
use Rattle.igvm_jobs.specs.Texts.{line}

-- platforms of this kind have no ID block
abbrev pub no_seal_text : PlatformKind → List ℕ
no_seal_text kind = line (codes "igvm: no seal for " ++ kind_text kind)

-- no ID block counts for the platform
abbrev pub no_id_block_text : List ℕ
no_id_block_text = line (codes "igvm: no id block")
