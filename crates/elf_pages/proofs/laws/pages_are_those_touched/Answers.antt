use Rattle.elf_pages.proofs.PageLaws.{rising_pages, each_page, all_pages}
use Rattle.elf_pages.proofs.laws.pages_are_those_touched.Goals as goal

pub returns-clause-rising : goal.returns-clause-rising
returns-clause-rising c = rising_pages

pub returns-clause-each : goal.returns-clause-each
returns-clause-each c = each_page

pub returns-clause-all : goal.returns-clause-all
returns-clause-all c = all_pages
