-- A list's entries as far as they are read, for private clauses.
use Rattle.std.specs.Prelude.{List, ◌++◌, Result, Ok, Err}
use Rattle.serde_json.specs.View.{items_view}
use Rattle.component_list.specs.declared.reading.ListFields.{ListFields}
use Rattle.component_list.specs.declared.refusal.ListRefusal.{ListRefusal}
use Rattle.component_list.specs.ListForms as forms

-- the version, and the three arrays as the code lends them
abbrev pub fields_view : ListFields → forms.ListFields
fields_view a = record {
  version = a.version;
  platforms = items_view a.platforms.now;
  policies = items_view a.policies.now;
  directives = items_view a.directives.now;
}

-- entries in front of those that are read behind them
abbrev pub with_front : {A : Type 0} → List A → Result (List A) ListRefusal → Result (List A) ListRefusal
with_front entries (Ok others) = Ok (entries ++ others)
with_front entries (Err e) = Err e
