-- Values that are read one after another.
use Rattle.std.proofs.Common.{◌≡◌, ◌≢◌, ℕ, zero, suc, ◌+◌, ◌<◌, List, [], ◌∷◌, ◌++◌, length, get_or, take, drop, set, map, refl, sym, ap, ◌∙◌, subst, arith, Option, Ok, Err, Result, append-nil, append_assoc, IfErr, IfOk}
use Rattle.igvm_headers.specs.declared.param_kind.ParamKind.{ParamKind}
use Rattle.std.proofs.Math.Seq.{drop-cons, take-suc-set}
use Rattle.std.proofs.lemmas.List.{take_all, length-set}
use Rattle.igvm_headers.specs.ParamKinds.{param_text, param_kinds, param_number}
use Rattle.serde_json.specs.Data.{Data}
use Rattle.serde_json.specs.Find.{get}
use Rattle.host_set.specs.declared.refusal.HostPart.TheVariants as part
use Rattle.host_set.specs.declared.refusal.HostRefusal.{HostRefusal}
use Rattle.host_set.specs.declared.refusal.HostRefusal.TheVariants as refusal
use Rattle.host_set.specs.Hosts.{HostValues, no_values, with_value}
use Rattle.host_set.specs.Descriptions.{◌>>=◌, field, bytes_at, collected, param_value, param_values}

pub value_is : (json : Data) (kind : ParamKind) (number : ℕ) (name : List ℕ) (refused : HostRefusal) (found : Option Data)
    → number ≡ param_number kind → name ≡ param_text kind → refused ≡ field part.Values number → found ≡ get name json → bytes_at 1048576 refused found ≡ param_value json kind
value_is json kind number name refused found is named refusal there =
    ap (λ r. bytes_at 1048576 r found) (refusal ∙ ap (field part.Values) is) ∙ ap (bytes_at 1048576 (field part.Values (param_number kind))) (there ∙ ap (λ n. get n json) named)

-- what a call that fails says of another reading that is the same
pub same_refusal : {X Y : Type 0} (result : Result X HostRefusal) (one other : Result Y HostRefusal) → one ≡ other
    → IfErr result (λ e. e ≢ refusal.Memory → one ≡ Err e) → IfErr result (λ e. e ≢ refusal.Memory → other ≡ Err e)
same_refusal (Ok x) one other same h = tt
same_refusal (Err e) one other same h = λ known. sym same ∙ h known

-- and of one that succeeds
pub same_value : {X Y : Type 0} (result : Result X HostRefusal) (seen : X → Y) (one other : Result Y HostRefusal) → one ≡ other
    → IfOk result (λ x. one ≡ Ok (seen x)) → IfOk result (λ x. other ≡ Ok (seen x))
same_value (Ok x) seen one other same h = sym same ∙ h
same_value (Err e) seen one other same h = tt

pub same_error : {X Y : Type 0} (result : Result X HostRefusal) (one other : Result Y HostRefusal) → one ≡ other
    → IfErr result (λ e. one ≡ Err e) → IfErr result (λ e. e ≢ refusal.Memory → other ≡ Err e)
same_error (Ok x) one other same h = tt
same_error (Err e) one other same h = λ known. sym same ∙ h

-- ---- all values

-- the values before, and those of the rest
abbrev pub with_front : List (List ℕ) → Result (List (List ℕ)) HostRefusal → Result (List (List ℕ)) HostRefusal
with_front front (Ok rest) = Ok (front ++ rest)
with_front front (Err e) = Err e

front_twice : (front : List (List ℕ)) (value : List ℕ) (rest : Result (List (List ℕ)) HostRefusal)
    → with_front front (rest >>= λ values. Ok (value ∷ values)) ≡ with_front (front ++ value ∷ []) rest
front_twice front value (Ok values) = ap (λ vs. Ok vs) (sym (append_assoc front (value ∷ []) values))
front_twice front value (Err e) = refl

no_front : (rest : Result (List (List ℕ)) HostRefusal) → with_front [] rest ≡ rest
no_front (Ok values) = refl
no_front (Err e) = refl

-- the values of the kinds from a place on
unfoldable pub values_from : Data → ℕ → Result (List (List ℕ)) HostRefusal
values_from json i = collected (map (param_value json) (drop i param_kinds))

at_kind : (json : Data) (i : ℕ) (d : ParamKind) → i < 10 → values_from json i ≡ (param_value json (get_or param_kinds i d) >>= λ first. values_from json (suc i) >>= λ rest. Ok (first ∷ rest))
unfolding values_from
at_kind json i d few = ap (λ kinds. collected (map (param_value json) kinds)) (drop-cons param_kinds i d few)

pub starts : (json : Data) (values : List (List ℕ)) → with_front (take 0 values) (values_from json 0) ≡ param_values json
unfolding param_values values_from
starts json values = no_front _

pub ends : (json : Data) (values : List (List ℕ)) → length values ≡ 10 → with_front (take 10 values) (values_from json 10) ≡ param_values json → param_values json ≡ Ok values
unfolding values_from
ends json values count same = sym same ∙ ap (λ vs. Ok vs) (append-nil (take 10 values) ∙ take_all 10 values (omega arith))

pub goes_on : (json : Data) (i : ℕ) (d : ParamKind) (value : List ℕ) (values : List (List ℕ)) → i < 10 → length values ≡ 10 → param_value json (get_or param_kinds i d) ≡ Ok value
    → with_front (take i values) (values_from json i) ≡ param_values json → with_front (take (suc i) (set values i value)) (values_from json (suc i)) ≡ param_values json
goes_on json i d value values few count is same =
    let there : i < length values = omega arith in
    let next : values_from json i ≡ (values_from json (suc i) >>= λ rest. Ok (value ∷ rest)) = at_kind json i d few ∙ ap (λ r. r >>= λ first. values_from json (suc i) >>= λ rest. Ok (first ∷ rest)) is in
    ap (λ front. with_front front (values_from json (suc i))) (take-suc-set values i value there) ∙ sym (front_twice (take i values) value (values_from json (suc i)))
    ∙ ap (with_front (take i values)) (sym next) ∙ same

pub refused : (json : Data) (i : ℕ) (d : ParamKind) (e : HostRefusal) (values : List (List ℕ)) → i < 10 → param_value json (get_or param_kinds i d) ≡ Err e
    → with_front (take i values) (values_from json i) ≡ param_values json → param_values json ≡ Err e
refused json i d e values few is same =
    let next : values_from json i ≡ Err e = at_kind json i d few ∙ ap (λ r. r >>= λ first. values_from json (suc i) >>= λ rest. Ok (first ∷ rest)) is in
    sym same ∙ ap (with_front (take i values)) next

pub numbered_at : (i : ℕ) (d : ParamKind) → i < 10 → param_number (get_or param_kinds i d) ≡ i
numbered_at zero d few = refl
numbered_at (suc zero) d few = refl
numbered_at (suc (suc zero)) d few = refl
numbered_at (suc (suc (suc zero))) d few = refl
numbered_at (suc (suc (suc (suc zero)))) d few = refl
numbered_at (suc (suc (suc (suc (suc zero))))) d few = refl
numbered_at (suc (suc (suc (suc (suc (suc zero)))))) d few = refl
numbered_at (suc (suc (suc (suc (suc (suc (suc zero))))))) d few = refl
numbered_at (suc (suc (suc (suc (suc (suc (suc (suc zero)))))))) d few = refl
numbered_at (suc (suc (suc (suc (suc (suc (suc (suc (suc zero))))))))) d few = refl
numbered_at (suc (suc (suc (suc (suc (suc (suc (suc (suc (suc i)))))))))) d few = absurd (omega arith)

-- ---- a host whose values are set one after another

pub rest_stays : (host new : HostValues) (kind : ParamKind) (value : List ℕ) → host ≡ record no_values { values = host.values } → new ≡ with_value kind value host → new ≡ record no_values { values = new.values }
rest_stays host new kind value rest is =
    let P : HostValues → Type 0 = λ h. h ≡ record no_values { values = h.values } in
    subst P (sym is) (ap (with_value kind value) rest)

pub count_stays : (host new : HostValues) (kind : ParamKind) (value : List ℕ) → length host.values ≡ 10 → new ≡ with_value kind value host → length new.values ≡ 10
count_stays host new kind value count is =
    let P : HostValues → Type 0 = λ h. length h.values ≡ 10 in
    subst P (sym is) (length-set host.values (param_number kind) value ∙ count)

pub values_go_on : (json : Data) (i n : ℕ) (d : ParamKind) (value : List ℕ) (host new : HostValues) → n ≡ i + 1 → i < 10 → length host.values ≡ 10 → param_value json (get_or param_kinds i d) ≡ Ok value
    → new ≡ with_value (get_or param_kinds i d) value host
    → with_front (take i host.values) (values_from json i) ≡ param_values json → with_front (take n new.values) (values_from json n) ≡ param_values json
values_go_on json i n d value host new next few count is changed same =
    let P : List (List ℕ) → Type 0 = λ values. with_front (take (suc i) values) (values_from json (suc i)) ≡ param_values json in
    let here : new.values ≡ set host.values i value = ap (λ (h : HostValues). h.values) changed ∙ ap (λ at. set host.values at value) (numbered_at i d few) in
    let more = subst P (sym here) (goes_on json i d value host.values few count is same) in
    let Q : ℕ → Type 0 = λ m. with_front (take m new.values) (values_from json m) ≡ param_values json in
    let up : suc i ≡ n = omega (arith, next) in
    subst Q up more
