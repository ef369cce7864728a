-- What is written piece by piece is the layout.
use Rattle.std.proofs.Common.{◌≡◌, ℕ, ◌+◌, ◌<◌, ◌≤◌, List, [], ◌∷◌, ◌++◌, length, take, drop, get_or, replicate, sym, ◌∙◌, ap, append-nil, append_assoc, Bor}
use Rattle.std.specs.List.{concat, flat_map}
use Rattle.std.proofs.lemmas.List.{take_more, take_all, flat_map_more, map-append}
use Rattle.std.proofs.lemmas.List.Folds.{concat-append}
use Rattle.byteorder.specs.Endian.{little_bytes}
use Rattle.igvm_headers.specs.Checksum.{crc}
use Rattle.component_list.specs.Lists.{ImageParts}
use Rattle.component_list.specs.declared.component.Component.{Component}
use Rattle.igvm_outside.specs.JoinedBytes.{lent}
use Rattle.image_builder.specs.Layout.{section_size, data_start, kept_contents, written, section, data_bytes, fixed_front, fixed_rest, put_together, layout_size, layout}

-- one header more
pub headers_more : (list : ImageParts) (old now next : List ℕ) (place : ℕ) (c : Component) (bytes : List ℕ)
    → now ≡ old ++ flat_map (written (data_start list) (kept_contents list.parts)) (take place list.parts)
    → place < length list.parts → c ≡ get_or list.parts place c → bytes ≡ written (data_start list) (kept_contents list.parts) c → next ≡ now ++ bytes
    → next ≡ old ++ flat_map (written (data_start list) (kept_contents list.parts)) (take (place + 1) list.parts)
headers_more list old now next place c bytes before inside is one more =
    let w = written (data_start list) (kept_contents list.parts) in
    let here : take (place + 1) list.parts ≡ take place list.parts ++ c ∷ [] =
    take_more list.parts place c inside ∙ ap (λ x. take place list.parts ++ x ∷ []) (sym is) in
    more
    ∙ ap (λ b. now ++ b) one
    ∙ ap (λ n. n ++ w c) before
    ∙ flat_map_more w old (take place list.parts) c
    ∙ ap (λ ps. old ++ flat_map w ps) (sym here)

pub headers_done : (list : ImageParts) (old now : List ℕ) (place : ℕ)
    → now ≡ old ++ flat_map (written (data_start list) (kept_contents list.parts)) (take place list.parts) → length list.parts ≤ place
    → now ≡ old ++ section list
unfolding section
headers_done list old now place before past =
    before ∙ ap (λ ps. old ++ flat_map (written (data_start list) (kept_contents list.parts)) ps) (take_all place list.parts past)

-- one content more
pub contents_more : (contents : List (Bor (List ℕ))) (old now next : List ℕ) (place : ℕ) (d : Bor (List ℕ)) (bytes : List ℕ)
    → now ≡ old ++ concat (lent (take place contents)) → place < length contents → bytes ≡ (get_or contents place d).now → next ≡ now ++ bytes
    → next ≡ old ++ concat (lent (take (place + 1) contents))
contents_more contents old now next place d bytes before inside is more =
    let content = get_or contents place d in
    let grown : concat (lent (take (place + 1) contents)) ≡ concat (lent (take place contents)) ++ content.now =
    ap (λ cs. concat (lent cs)) (take_more contents place d inside)
    ∙ ap concat (map-append (λ (b : Bor (List ℕ)). b.now) (take place contents) (content ∷ []))
    ∙ concat-append (lent (take place contents)) (content.now ∷ [])
    ∙ ap (λ bs. concat (lent (take place contents)) ++ bs) (append-nil content.now) in
    more
    ∙ ap (λ b. now ++ b) is
    ∙ ap (λ n. n ++ content.now) before
    ∙ append_assoc old (concat (lent (take place contents))) content.now
    ∙ ap (λ bs. old ++ bs) (sym grown)

-- the fixed header with zeros, the section, and the checksum in its place
pub whole : (version size total : ℕ) (headers bytes first second third : List ℕ)
    → first ≡ fixed_front version size total ++ replicate 4 0 ++ fixed_rest version → second ≡ first ++ headers
    → third ≡ take 20 second ++ little_bytes 4 (crc second) ++ drop 24 second
    → third ++ bytes ≡ put_together version (fixed_front version size total) headers bytes
whole version size total headers bytes first second third front headed sealed =
    let all : second ≡ fixed_front version size total ++ replicate 4 0 ++ fixed_rest version ++ headers = headed ∙ ap (λ f. f ++ headers) front in
    ap (λ t. t ++ bytes) (sealed ∙ ap (λ s. take 20 s ++ little_bytes 4 (crc s) ++ drop 24 s) all)

pub whole_layout : (list : ImageParts) (size total : ℕ) (image : List ℕ) → size ≡ section_size list.parts → total ≡ layout_size list
    → image ≡ put_together list.version (fixed_front list.version size total) (section list) (data_bytes list.parts) → image ≡ layout list
unfolding layout
whole_layout list size total image sized summed is =
    is
    ∙ ap (λ n. put_together list.version (fixed_front list.version n total) (section list) (data_bytes list.parts)) sized
    ∙ ap (λ n. put_together list.version (fixed_front list.version (section_size list.parts) n) (section list) (data_bytes list.parts)) summed
