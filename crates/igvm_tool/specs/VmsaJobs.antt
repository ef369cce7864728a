-- `vmsa-build JSON OUT` and `vmsa-print FILE`.
use Rattle.std.specs.Prelude.{◌≡◌, ℕ, List, codes, Result, Ok, Err}
use Rattle.vmsa_page.specs.declared.refusal.VmsaRefusal.{VmsaRefusal}
use Rattle.vmsa_page.specs.declared.refusal.VmsaRefusal.TheVariants as reading
use Rattle.vmsa_page.specs.Pages.{page_of, vmsa_of}
use Rattle.vmsa_page.specs.Sources.{vmsa_source}
use Rattle.vmsa_page.specs.Texts.{vmsa_json}
use Rattle.vmsa_page.specs.Vmsas.{VmsaParts}
use Rattle.igvm_jobs.specs.declared.status.Status.TheVariants as is
use Rattle.igvm_jobs.specs.Texts.{memory_text, not_json_text, field_text, built_text}
use Rattle.igvm_jobs.specs.Outcome.{Outcome, done, done_writing, refused}
use Rattle.igvm_jobs.specs.Tasks.{Task}
use Rattle.igvm_tool.specs.ShortFiles.{short_file_task}

-- the most bytes that the text of a VMSA may have
abbrev pub text_limit : ℕ
text_limit = 16777216

-- the most bytes that a VMSA page may have
abbrev pub page_limit : ℕ
page_limit = 4096

-- ---- `vmsa-build JSON OUT`

-- of a text that describes no VMSA
abbrev pub vmsa_refused : VmsaRefusal → Outcome
vmsa_refused reading.NotJson = refused is.Json not_json_text
vmsa_refused (reading.Field place) = refused is.Json (field_text (codes "vmsa") place)
vmsa_refused reading.Memory = refused is.Memory memory_text

-- of a text as it is read: the page is written, and its size is put
abbrev pub described_outcome : List ℕ → Result VmsaParts VmsaRefusal → Outcome
described_outcome target (Ok vmsa) = done_writing target (page_of vmsa) (built_text 4096)
described_outcome target (Err refusal) = vmsa_refused refusal

-- of the bytes of a text
unfoldable pub text_outcome : List ℕ → List ℕ → Outcome
text_outcome target text = described_outcome target (vmsa_source text)

-- JSON is read, and OUT is written
abbrev pub vmsa_build_task : List ℕ → List ℕ → Task
vmsa_build_task json target = short_file_task json text_limit (text_outcome target) (λ name. name ≡ target)

-- ---- `vmsa-print FILE`

-- of the bytes of a page, behind which zeros stand: the text of its VMSA is put, without a newline
unfoldable pub page_outcome : List ℕ → Outcome
page_outcome page = done (vmsa_json (vmsa_of page))

-- FILE is read
abbrev pub vmsa_print_task : List ℕ → Task
vmsa_print_task file = short_file_task file page_limit page_outcome (λ name. ⊥)
