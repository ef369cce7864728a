-- How the program is used: docs/PROGRAM.md.
use Rattle.std.specs.Prelude.{ℕ, List, ◌++◌, codes}
use Rattle.igvm_jobs.specs.Texts.{line}

-- a line for each command, and what a platform is asked for by
abbrev pub usage_text : List ℕ
usage_text =
    line (codes "usage: igvm build LIST OUT") ++ line (codes "       igvm print FILE")
    ++ line (codes "       igvm measure FILE --platform P [--native-zero]")
    ++ line (codes "       igvm load FILE HOST --platform P [--native-zero] [--image OUT]")
    ++ line (codes "       igvm make N OUT") ++ line (codes "       igvm sev-measure FILE --platform P")
    ++ line (codes "       igvm sev-load FILE HOST --platform P") ++ line (codes "       igvm vmsa-build JSON OUT")
    ++ line (codes "       igvm vmsa-print FILE") ++ line (codes "       igvm build-elf LIST ELF MASK OUT")
    ++ line (codes "       igvm strip FILE OUT --platform P") ++ line (codes "       igvm join FILE FILE OUT")
    ++ line (codes "       igvm seal FILE OUT --platform P [--native-zero]")
    ++ line (codes "P is snp, tdx or a platform number")
    ++ line (codes "P of sev-measure and sev-load is sev, sev_es or a platform number")
