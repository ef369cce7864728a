-- no more processors than numbers of 16 bits
use Rattle.std.proofs.Common.{◌≤◌, arith}
use Rattle.std.specs.BTreeSet.{btree_set_len}
use Rattle.directive_rules.proofs.SummaryLemmas.{few_contexts}
use Rattle.directive_rules.proofs.earlier_headers.EarlierHeaders.into_checked.Goals as goal

pub overflow_cast-result : goal.overflow_cast-result
overflow_cast-result c = let few : c.args.self.pages ≤ 524288 = c.args.self.few_pages in omega arith

pub overflow_cast-result-2 : goal.overflow_cast-result-2
overflow_cast-result-2 c =
    let few : btree_set_len c.args.self.vps ≤ 65536 = few_contexts c.args.self.vps c.len.ensures.ordered c.requires in
    let same = c.len.ensures.len in
    omega arith

pub returns-clause-within : goal.returns-clause-within
returns-clause-within c =
    let few : btree_set_len c.args.self.vps ≤ 65536 = few_contexts c.args.self.vps c.len.ensures.ordered c.requires in
    let same = c.len.ensures.len in
    record { pages = c.args.self.few_pages; contexts = omega arith; area_bytes = c.args.self.few_bytes }
