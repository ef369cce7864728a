-- Each component of a made list keeps the rules behind those before it.
use Rattle.std.proofs.Common.{◌≡◌, ℕ, zero, suc, ◌+◌, ◌*◌, ◌%◌, ◌<◌, ◌≤◌, List, [], ◌∷◌, ◌++◌, length, map, refl, sym, ap, subst, arith, Bool, true, false, None, append_assoc}
use Rattle.std.specs.Prelude.{◌==◌, not, ◌&&◌}
use Rattle.std.specs.List.{range_with_len}
use Rattle.std.proofs.lemmas.Bool.{le-ltb, eq-eqb}
use Rattle.igvm_headers.specs.declared.header.Header.TheVariants.{Page, Insert, Context}
use Rattle.igvm_headers.specs.declared.page_kind.PageKind.{PageKind}
use Rattle.igvm_headers.specs.declared.page_kind.PageKind.TheVariants.{Normal, Secrets, Cpuid}
use Rattle.platform_masks.specs.PlatformsLaws.{platforms_of_none}
use Rattle.igvm_image.specs.HeaderRules.{Seen, seen_of, rule_fault, is_one_bit}
use Rattle.igvm_image.specs.RulesLaws.{rule_fault-none}
use Rattle.component_list.specs.declared.component.Content.{Content}
use Rattle.component_list.specs.declared.component.Content.TheVariants.{Nothing, Zero, Bytes}
use Rattle.component_list.specs.declared.component.Component.{Component}
use Rattle.component_list.specs.Components.{fills}
use Rattle.component_list.specs.Lists.{component_fault, list_fault}
use Rattle.made_list.specs.MadeList.{part, made_head, made_page, made_pages, made_parts, made_tail, page_bytes, context_bytes}
use Rattle.made_list.specs.MadeImage.{made_platforms}
use Rattle.made_list.proofs.Following.{Follow, no_fault, kept_by_parts}
use Rattle.made_list.proofs.PageBytes.{length-page_bytes, length-context_bytes}

-- before all
abbrev start : Seen
start = record { latest = 0; platforms = []; areas = []; pages = 0 }

-- behind the head and so many pages
abbrev behind : ℕ → Seen
behind pages = record {
  latest = 3;
  platforms = made_platforms;
  areas = record { area = 0; bytes = 4096 } ∷ [];
  pages = pages;
}

seen_of_none : seen_of [] ≡ start
seen_of_none = ap (λ ps. record start { platforms = ps }) platforms_of_none

-- the head, and what follows it
head_follows : (n : ℕ) (others : List Component) → Follow (behind 0) others → Follow start (made_head n ++ others)
unfolding made_head component_fault rule_fault is_one_bit
head_follows n others follow = (refl, (refl, (refl, (refl, (refl, (refl, (refl, follow)))))))

-- data of a page's size are as long as its header says
filled : (content : Content) → fills 4096 content ≡ true → not (true && fills 4096 content) ≡ false
filled content full = ap not full

-- a page of 4,096 bytes
page_keeps : (pages gpa mask : ℕ) (unmeasured : Bool) (kind : PageKind) (content : Content) → pages < 4194304 → gpa % 4096 ≡ 0
    → fills 4096 content ≡ true → component_fault (behind pages) (part (Page gpa mask 0 false unmeasured kind) content) ≡ None
page_keeps pages gpa mask unmeasured kind content few aligned full =
    kept_by_parts (behind pages) (part (Page gpa mask 0 false unmeasured kind) content) refl (filled content full) refl
    (rule_fault-none 0 (behind pages) (Page gpa mask 0 false unmeasured kind) (record {
      order = refl;
      mask = refl;
      align = ap not (eq-eqb (gpa % 4096) 0 aligned);
      limit = refl;
      repeated = refl;
      unknown = refl;
      size = refl;
      wrap = refl;
      outside = refl;
      pages = le-ltb 4194304 (pages + 1) (omega arith);
    }))

-- pages in a row, and what follows them
pages_follow : (n first : ℕ) (others : List Component) → first + n ≤ 4194303 → Follow (behind (first + n)) others
    → Follow (behind first) (map made_page (range_with_len first n) ++ others)
unfolding made_page
pages_follow zero first others few follow =
    let none : first + zero ≡ first = omega arith in
    subst (λ pages. Follow (behind pages) others) none follow
pages_follow (suc n) first others few follow =
    let next : first + suc n ≡ first + 1 + n = omega arith in (
      page_keeps first (0x100000 + 4096 * first) 7 (first % 5 == 4) Normal (Bytes (page_bytes first)) (omega arith) (omega arith)
          (eq-eqb (length (page_bytes first)) 4096 (length-page_bytes first)),
      pages_follow n (first + 1) others (omega arith) (subst (λ pages. Follow (behind pages) others) next follow),
    )

-- the area that is put into the guest
insert_keeps : (pages : ℕ) → pages < 4194304 → component_fault (behind pages) (part (Insert 0xF0000 3 0) Nothing) ≡ None
insert_keeps pages few =
    kept_by_parts (behind pages) (part (Insert 0xF0000 3 0) Nothing) refl refl refl
    (rule_fault-none 0 (behind pages) (Insert 0xF0000 3 0) (record {
      order = refl;
      mask = refl;
      align = refl;
      limit = refl;
      repeated = refl;
      unknown = refl;
      size = refl;
      wrap = refl;
      outside = refl;
      pages = le-ltb 4194304 (pages + 1) (omega arith);
    }))

-- the context
context_keeps : (pages : ℕ) → pages < 4194304 → component_fault (behind pages) (part (Context 0xFFFFFFFFF000 1 0 0) (Bytes context_bytes)) ≡ None
context_keeps pages few =
    kept_by_parts (behind pages) (part (Context 0xFFFFFFFFF000 1 0 0) (Bytes context_bytes)) refl
    (filled (Bytes context_bytes) (eq-eqb (length context_bytes) 4096 length-context_bytes)) refl
    (rule_fault-none 0 (behind pages) (Context 0xFFFFFFFFF000 1 0 0) (record {
      order = refl;
      mask = refl;
      align = refl;
      limit = refl;
      repeated = refl;
      unknown = refl;
      size = refl;
      wrap = refl;
      outside = refl;
      pages = le-ltb 4194304 (pages + 0) (omega arith);
    }))

tail_follows : (pages : ℕ) → pages ≤ 4194300 → Follow (behind pages) made_tail
unfolding made_tail
tail_follows pages few = (
  page_keeps pages 0xF1000 1 false Secrets Zero (omega arith) refl refl,
  (
    page_keeps (pages + 1) 0xF2000 1 false Cpuid Zero (omega arith) refl refl,
    (insert_keeps (pages + 1 + 1) (omega arith), (context_keeps (pages + 1 + 1 + 1) (omega arith), omega arith)),
  ),
)

pub made_list_kept : (n : ℕ) → n ≤ 100000 → list_fault (made_parts n) ≡ None
unfolding made_parts
made_list_kept n few =
    let all = head_follows n (made_pages n ++ made_tail) (pages_follow n 0 made_tail (omega arith) (tail_follows (0 + n) (omega arith))) in
    no_fault [] start (made_head n ++ made_pages n ++ made_tail) seen_of_none
    (subst (λ ps. Follow start ps) (sym (append_assoc (made_head n) (made_pages n) made_tail)) all)
