-- What `--field` and `--kind` say.
use Rattle.std.proofs.Common.{◌≡◌, ◌∙◌, ℕ, Bool, true, false, List, [], ◌∷◌, ◌++◌, Option, Some, None, ap, append_assoc, is_some, map, refl, sym}
use Rattle.std.specs.Prelude.{option_map, slice_get}
use Rattle.std.specs.Borrow.{Bor}
use Rattle.std.proofs.lemmas.List.{map_push}
use Rattle.clap.specs.Matches.{matched_of, raw_values}
use Rattle.clap.specs.Walk.{Row, Text, all_of, rows_of, texts}
use Rattle.clap.specs.declared.parser.matches.Found.{Found}
use Rattle.clap.proofs.WalkLemmas.{raw_values-rows}
use Rattle.hlc_json_lines.specs.declared.field_name.FieldName.{FieldName}
use Rattle.hlc_log_text.specs.declared.log_word.LogWord.{LogWord}
use Rattle.hlc_json_lines.specs.Paths.{Key}
use Rattle.hlc_json_lines.specs.Rules.{Rules, field_of_text, kind_of_text, no_rules, with_field, with_kind}
use Rattle.hlc_command_line.specs.Asked.{texts_of_option}
use Rattle.hlc_command_line.specs.JsonOptions.{AddKinds, AddPaths, AreJsonRules, IsNoKind, IsNoPath, LacksMeaning, field, kind}
use Rattle.hlc_command_line.specs.Line.{IsRulesMistake, UnlessMemory}
use Rattle.hlc_command_line.specs.declared.line_fault.LineFault.{LineFault}
use Rattle.hlc_command_line.specs.declared.line_fault.LineFault.TheVariants as fault
use Rattle.hlc_command_line.specs.declared.line_fault.RecordsMistake.TheVariants as mistake

-- what each text means, of one text more
meant_push : {T : Type 0} (meaning : Text → Option T) (texts : List Text) (text : Text) (meant : List T) (thing : T) → map meaning texts ≡ map Some meant
    → meaning text ≡ Some thing → map meaning (texts ++ text ∷ []) ≡ map Some (meant ++ thing ∷ [])
meant_push meaning texts text meant thing are is =
    map_push meaning texts text ∙ ap (λ xs. xs ++ meaning text ∷ []) are ∙ ap (λ x. map Some meant ++ x ∷ []) is ∙ sym (map_push Some meant thing)

module _ (texts : List Text) (old before after : Rules) (text : Text) (taken : Bool) (yes : taken ≡ true) where
  -- one path more
  pub path_added : AddPaths texts old before → taken ≡ is_some (field_of_text text) → after ≡ with_field before (field_of_text text)
      → AddPaths (texts ++ text ∷ []) old after
  path_added adds told is = go (field_of_text text) refl (sym told ∙ yes) is
    where
      go : (o : Option (FieldName × List Key)) → field_of_text text ≡ o → is_some o ≡ true → after ≡ with_field before o → AddPaths (texts ++ text ∷ []) old after
      go None e some is = absurd cc
      go (Some path) e some is = record {
        paths = adds.paths ++ path ∷ [];
        meant = meant_push field_of_text texts text adds.paths path adds.meant e;
        added =
            is ∙ ap (λ (r : Rules). record r { paths = r.paths ++ path ∷ [] }) adds.added
            ∙ ap (λ (paths : List (FieldName × List Key)). record old { paths = paths }) (append_assoc old.paths adds.paths (path ∷ []));
      }

  -- the values of a word more
  pub kind_added : AddKinds texts old before → taken ≡ is_some (kind_of_text text) → after ≡ with_kind before (kind_of_text text)
      → AddKinds (texts ++ text ∷ []) old after
  kind_added adds told is = go (kind_of_text text) refl (sym told ∙ yes) is
    where
      go : (o : Option (LogWord × List Text)) → kind_of_text text ≡ o → is_some o ≡ true → after ≡ with_kind before o → AddKinds (texts ++ text ∷ []) old after
      go None e some is = absurd cc
      go (Some values) e some is = record {
        kinds = adds.kinds ++ values ∷ [];
        meant = meant_push kind_of_text texts text adds.kinds values adds.meant e;
        added =
            is ∙ ap (λ (r : Rules). record r { kinds = r.kinds ++ values ∷ [] }) adds.added
            ∙ ap (λ (kinds : List (LogWord × List Text)). record old { kinds = kinds }) (append_assoc old.kinds adds.kinds (values ∷ []));
      }

-- what is added to no rules are the rules
pub rules_are : (rows : List Row) (old between new : Rules) → old ≡ no_rules → AddPaths (texts_of_option rows field) old between
    → AddKinds (texts_of_option rows kind) between new → AreJsonRules rows new
rules_are rows old between new none paths values =
    let paths_only : new.paths ≡ paths.paths =
    ap (λ (r : Rules). r.paths) values.added ∙ ap (λ (r : Rules). r.paths) paths.added ∙ ap (λ (r : Rules). r.paths ++ paths.paths) none in
    let kinds_only : new.kinds ≡ values.kinds =
    ap (λ (r : Rules). r.kinds) values.added ∙ ap (λ (r : Rules). r.kinds ++ values.kinds) (paths.added ∙ ap (λ (r : Rules). record r { paths = r.paths ++ paths.paths }) none) in
    record {
      paths_are = paths.meant ∙ ap (λ (xs : List (FieldName × List Key)). map Some xs) (sym paths_only);
      kinds_are = values.meant ∙ ap (λ (xs : List (LogWord × List Text)). map Some xs) (sym kinds_only);
    }

-- one of the texts names no path
pub lacks_path : (all : List Text) (place : ℕ) (text : Text) (taken : Bool) → taken ≡ is_some (field_of_text text) → taken ≡ false
    → slice_get all place ≡ Some text → LacksMeaning field_of_text all
lacks_path all place text taken told refused given = record { place = place; text = text; given = given; nothing = none (field_of_text text) (sym told ∙ refused) }
  where
    none : (o : Option (FieldName × List Key)) → is_some o ≡ false → o ≡ None
    none None is = refl
    none (Some path) is = absurd cc

-- a text that means nothing is a mistake
pub no_path : (rows : List Row) (f : LineFault) → IsNoPath (texts_of_option rows field) f → UnlessMemory (IsRulesMistake rows) f
no_path rows (fault.Records mistake.Field) is = is
no_path rows fault.Memory is = tt
no_path rows _ is = absurd is

pub no_kind : (rows : List Row) (f : LineFault) → IsNoKind (texts_of_option rows kind) f → UnlessMemory (IsRulesMistake rows) f
no_kind rows (fault.Records mistake.Kind) is = is
no_kind rows fault.Memory is = tt
no_kind rows _ is = absurd is

-- whether an option that may be given more than once was given
pub is_option_given : (f : Found) (name : Text) (r : Option (Bor (List (Bor Text)))) (given : Bool) → given ≡ is_some r
    → option_map (λ s. texts s.now) r ≡ option_map raw_values (matched_of f name) → given ≡ is_some (all_of name (rows_of f))
is_option_given f name r given told texts_are = told ∙ sym (some_map r) ∙ ap (λ (o : Option (List Text)). is_some o) (texts_are ∙ raw_values-rows f name)
  where
    some_map : (o : Option (Bor (List (Bor Text)))) → is_some (option_map (λ s. texts s.now) o) ≡ is_some o
    some_map None = refl
    some_map (Some s) = refl
