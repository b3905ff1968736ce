-- Rules as they are kept.
use Rattle.std.specs.Prelude.{◌==◌, ℕ, List, map, string_bytes}
use Rattle.std.specs.List.{slice_split}
use Rattle.hlc_log_text.specs.declared.log_word.LogWord.{LogWord}
use Rattle.hlc_json_lines.specs.Paths.{Key, keys_in}
use Rattle.hlc_json_lines.specs.declared.field_name.FieldName.{FieldName}
use Rattle.hlc_json_lines.specs.declared.kind_rule.KindRule.{KindRule}
use Rattle.hlc_json_lines.specs.declared.path_rule.PathRule.{PathRule}

-- the name of a field with its path
abbrev pub path_rule : PathRule → FieldName × List Key
path_rule rule = (rule.name, keys_in (string_bytes rule.path))

abbrev pub path_rules : List PathRule → List (FieldName × List Key)
path_rules = map path_rule

-- a word with the values that mean it
abbrev pub kind_rule : KindRule → LogWord × List (List ℕ)
kind_rule rule = (rule.word, slice_split (λ byte. byte == 44) (string_bytes rule.values))

abbrev pub kind_rules : List KindRule → List (LogWord × List (List ℕ))
kind_rules = map kind_rule
