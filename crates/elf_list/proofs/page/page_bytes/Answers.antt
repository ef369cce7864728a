use Rattle.std.proofs.Common.{◌≡◌, ◌+◌, ◌++◌, ◌∙◌, ℕ, ap, arith, drop, length, take}
use Rattle.std.proofs.Math.Seq.{take-append_seam}
use Rattle.std.proofs.lemmas.List.FromFn.{fill_by_all}
use Rattle.elf_pages.specs.GuestBytes.{elf_byte}
use Rattle.elf_pages.specs.Pages.{page_address}
use Rattle.elf_list.specs.ElfParts.{page_bytes}
use Rattle.elf_list.proofs.page.page_bytes.Goals as goal

pub returns-clause-page : goal.returns-clause-page
unfolding page_bytes
returns-clause-page c =
    let file = c.args.elf.now in
    let out = c.fill.new.out in
    let rest = drop (length out) c.in_ok-bytes.bytes.items in
    let size : length out ≡ 4096 = omega (arith, c.in_ok-bytes.ensures.len) in
    let whole : c.in_ok-bytes.bytes.len ≡ length out = omega arith in
    ap (λ n. take n (out ++ rest)) whole
    ∙ take-append_seam out rest
    ∙ fill_by_all (λ (i : ℕ). elf_byte file (page_address file c.args.k + i)) out 4096 0 size c.fill.ensures
