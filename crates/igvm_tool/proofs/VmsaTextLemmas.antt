-- What is printed of a page, and what is built of that.
use Rattle.std.proofs.Common.{◌≡◌, ◌∙◌, ℕ, ◌≤◌, ◌-◌, ◌++◌, refl, sym, ap, arith, List, length, replicate, Option, Some, Result, Ok}
use Rattle.std.specs.FinMap as map
use Rattle.igvm_outside.specs.Files.{Files}
use Rattle.vmsa_page.specs.declared.refusal.VmsaRefusal.{VmsaRefusal}
use Rattle.vmsa_page.specs.Pages.{page_of, vmsa_of}
use Rattle.vmsa_page.specs.Sources.{vmsa_source}
use Rattle.vmsa_page.specs.Texts.{vmsa_json}
use Rattle.vmsa_page.specs.Vmsas.{VmsaParts}
use Rattle.igvm_jobs.specs.Texts.{built_text}
use Rattle.igvm_jobs.specs.Outcome.{Outcome, done, done_writing}
use Rattle.igvm_tool.specs.ShortFiles.{short_file_outcome}
use Rattle.igvm_tool.specs.VmsaJobs.{text_limit, page_limit, described_outcome, text_outcome, page_outcome, vmsa_build_task, vmsa_print_task}
use Rattle.igvm_tool.proofs.ShortFileLemmas.{short_bytes}

-- a file within its limit
of_file : (limit : ℕ) (next : List ℕ → Outcome) (there : Option (List ℕ)) (bytes : List ℕ) → there ≡ Some bytes → length bytes ≤ limit → short_file_outcome limit next there ≡ next bytes
of_file limit next there bytes found within = ap (short_file_outcome limit next) found ∙ sym (short_bytes limit next bytes within)

-- what a page gives
pub page_text : (page : List ℕ) → page_outcome page ≡ done (vmsa_json (vmsa_of page))
unfolding page_outcome
page_text page = refl

pub printed : (files : Files) (file page : List ℕ) → map.get files file ≡ Some page → length page ≤ 4096 → (vmsa_print_task file).outcome files ≡ done (vmsa_json (vmsa_of page))
printed files file page found within = of_file page_limit page_outcome _ page found within ∙ page_text page

text_described : (target text : List ℕ) (read : Result VmsaParts VmsaRefusal) → vmsa_source text ≡ read → text_outcome target text ≡ described_outcome target read
unfolding text_outcome
text_described target text read same = ap (described_outcome target) same

pub built : (files : Files) (json target page : List ℕ) → vmsa_source (vmsa_json (vmsa_of page)) ≡ Ok (vmsa_of page) → page_of (vmsa_of page) ≡ page ++ replicate (4096 - length page) 0
    → length (vmsa_json (vmsa_of page)) ≤ 131072 → map.get files json ≡ Some (vmsa_json (vmsa_of page))
    → (vmsa_build_task json target).outcome files ≡ done_writing target (page ++ replicate (4096 - length page) 0) (built_text 4096)
built files json target page reads whole short found =
    of_file text_limit (text_outcome target) _ (vmsa_json (vmsa_of page)) found (omega (arith, short))
    ∙ text_described target (vmsa_json (vmsa_of page)) (Ok (vmsa_of page)) reads ∙ ap (λ bytes. done_writing target bytes (built_text 4096)) whole
