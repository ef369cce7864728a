use Rattle.std.proofs.Common.{sym, ap, ◌∙◌}
use Rattle.further_words.specs.FurtherWords.{further_of}
use Rattle.further_words.proofs.CommandLemmas.{lent_words, no_words, of_none, of_sev_measure, of_sev_load, of_vmsa_build, of_vmsa_print, of_build_elf, of_strip, of_join, of_seal, of_another}
use Rattle.further_words.proofs.job.further_of.Goals as goal

pub returns-in_default-clause-meant : goal.returns-in_default-clause-meant
returns-in_default-clause-meant c = sym of_none ∙ ap further_of (no_words _ c.as_slice.ensures c.in_default.len_below)

pub returns-then-is_text-clause-meant : goal.returns-then-is_text-clause-meant
returns-then-is_text-clause-meant c =
    c.sev_measure_job.ensures.meant ∙ sym (of_sev_measure _ _ c.if-is_text.ensures)
    ∙ ap further_of (lent_words _ c.as_slice.ensures c.in-len1-up.len_at_least c.command-item.is c.as_str-command.ensures.value)

pub returns-then-is_text-2-clause-meant : goal.returns-then-is_text-2-clause-meant
returns-then-is_text-2-clause-meant c =
    c.sev_load_job.ensures.meant ∙ sym (of_sev_load _ _ c.if-is_text.ensures c.if-is_text-2.ensures)
    ∙ ap further_of (lent_words _ c.as_slice.ensures c.in-len1-up.len_at_least c.command-item.is c.as_str-command.ensures.value)

pub returns-then-is_text-3-clause-meant : goal.returns-then-is_text-3-clause-meant
returns-then-is_text-3-clause-meant c =
    c.vmsa_build_job.ensures.meant ∙ sym (of_vmsa_build _ _ c.if-is_text.ensures c.if-is_text-2.ensures c.if-is_text-3.ensures)
    ∙ ap further_of (lent_words _ c.as_slice.ensures c.in-len1-up.len_at_least c.command-item.is c.as_str-command.ensures.value)

pub returns-then-is_text-4-clause-meant : goal.returns-then-is_text-4-clause-meant
returns-then-is_text-4-clause-meant c =
    c.vmsa_print_job.ensures.meant ∙ sym (of_vmsa_print _ _ c.if-is_text.ensures c.if-is_text-2.ensures c.if-is_text-3.ensures c.if-is_text-4.ensures)
    ∙ ap further_of (lent_words _ c.as_slice.ensures c.in-len1-up.len_at_least c.command-item.is c.as_str-command.ensures.value)

pub returns-then-is_text-5-clause-meant : goal.returns-then-is_text-5-clause-meant
returns-then-is_text-5-clause-meant c =
    c.build_elf_job.ensures.meant ∙ sym (of_build_elf _ _ c.if-is_text.ensures c.if-is_text-2.ensures c.if-is_text-3.ensures c.if-is_text-4.ensures c.if-is_text-5.ensures)
    ∙ ap further_of (lent_words _ c.as_slice.ensures c.in-len1-up.len_at_least c.command-item.is c.as_str-command.ensures.value)

pub returns-then-is_text-6-clause-meant : goal.returns-then-is_text-6-clause-meant
returns-then-is_text-6-clause-meant c =
    c.strip_job.ensures.meant ∙ sym (of_strip _ _ c.if-is_text.ensures c.if-is_text-2.ensures c.if-is_text-3.ensures c.if-is_text-4.ensures c.if-is_text-5.ensures c.if-is_text-6.ensures)
    ∙ ap further_of (lent_words _ c.as_slice.ensures c.in-len1-up.len_at_least c.command-item.is c.as_str-command.ensures.value)

pub returns-then-is_text-7-clause-meant : goal.returns-then-is_text-7-clause-meant
returns-then-is_text-7-clause-meant c =
    c.join_job.ensures.meant ∙ sym (of_join _ _ c.if-is_text.ensures c.if-is_text-2.ensures c.if-is_text-3.ensures c.if-is_text-4.ensures c.if-is_text-5.ensures c.if-is_text-6.ensures c.if-is_text-7.ensures)
    ∙ ap further_of (lent_words _ c.as_slice.ensures c.in-len1-up.len_at_least c.command-item.is c.as_str-command.ensures.value)

pub returns-then-is_text-8-clause-meant : goal.returns-then-is_text-8-clause-meant
returns-then-is_text-8-clause-meant c =
    c.seal_job.ensures.meant ∙ sym (of_seal _ _ c.if-is_text.ensures c.if-is_text-2.ensures c.if-is_text-3.ensures c.if-is_text-4.ensures c.if-is_text-5.ensures c.if-is_text-6.ensures c.if-is_text-7.ensures c.if-is_text-8.ensures)
    ∙ ap further_of (lent_words _ c.as_slice.ensures c.in-len1-up.len_at_least c.command-item.is c.as_str-command.ensures.value)

pub returns-clause-meant : goal.returns-clause-meant
returns-clause-meant c =
    sym (of_another _ _ c.if-is_text.ensures c.if-is_text-2.ensures c.if-is_text-3.ensures c.if-is_text-4.ensures c.if-is_text-5.ensures c.if-is_text-6.ensures c.if-is_text-7.ensures c.if-is_text-8.ensures)
    ∙ ap further_of (lent_words _ c.as_slice.ensures c.in-len1-up.len_at_least c.command-item.is c.as_str-command.ensures.value)
