-- How lines of JSON are read, by `--jsonl`, `--field` and `--kind`.
use Rattle.std.specs.Prelude.{◌≡◌, ◌||◌, ⊤, ◌++◌, ℕ, Bool, List, None, Option, Some, codes, false, is_some, map, slice_get, true}
use Rattle.clap.specs.Words.{Row, Text, all_of}
use Rattle.hlc_json_lines.specs.declared.field_name.FieldName.{FieldName}
use Rattle.hlc_log_text.specs.declared.log_word.LogWord.{LogWord}
use Rattle.hlc_log_text.specs.declared.record_syntax.RecordSyntax.{RecordSyntax}
use Rattle.hlc_log_text.specs.declared.record_syntax.RecordSyntax.TheVariants.{Csv, JsonLines}
use Rattle.hlc_json_lines.specs.Paths.{Key}
use Rattle.hlc_json_lines.specs.Rules.{Rules, field_of_text, kind_of_text}
use Rattle.hlc_command_line.specs.Asked.{texts_of_option}
use Rattle.hlc_command_line.specs.LineOption.{IsFlagOf}
use Rattle.hlc_command_line.specs.declared.line_fault.LineFault.{LineFault}
use Rattle.hlc_command_line.specs.declared.line_fault.LineFault.TheVariants as fault
use Rattle.hlc_command_line.specs.declared.line_fault.RecordsMistake.TheVariants as mistake

abbrev pub jsonl : Text
jsonl = codes "jsonl"

abbrev pub field : Text
field = codes "field"

abbrev pub kind : Text
kind = codes "kind"

-- the records of a log are lines of JSON just if `--jsonl` was given
abbrev pub IsSyntaxOf : List Row → RecordSyntax → Type 0
IsSyntaxOf rows Csv = IsFlagOf rows jsonl false
IsSyntaxOf rows JsonLines = IsFlagOf rows jsonl true

-- whether `--field` or `--kind` was given
abbrev pub is_json_given : List Row → Bool
is_json_given rows = is_some (all_of field rows) || is_some (all_of kind rows)

-- one of the texts means nothing
pub record LacksMeaning {T : Type 0} (meaning : Text → Option T) (texts : List Text) : Type 0 where
  pub place : ℕ
  pub text : Text
  pub given : slice_get texts place ≡ Some text
  pub nothing : meaning text ≡ None

-- the texts add the paths that they mean, in their order
pub record AddPaths (texts : List Text) (old new : Rules) : Type 0 where
  pub paths : List (FieldName × List Key)
  pub meant : map field_of_text texts ≡ map Some paths
  pub added : new ≡ record old { paths = old.paths ++ paths }

-- the texts add the values of words that they mean, in their order
pub record AddKinds (texts : List Text) (old new : Rules) : Type 0 where
  pub kinds : List (LogWord × List (List ℕ))
  pub meant : map kind_of_text texts ≡ map Some kinds
  pub added : new ≡ record old { kinds = old.kinds ++ kinds }

-- the fault is that one of the texts means no path, or that memory was refused
abbrev pub IsNoPath : List Text → LineFault → Type 0
IsNoPath texts (fault.Records mistake.Field) = LacksMeaning field_of_text texts
IsNoPath texts fault.Memory = ⊤
IsNoPath texts _ = ⊥

-- the same of values of a word
abbrev pub IsNoKind : List Text → LineFault → Type 0
IsNoKind texts (fault.Records mistake.Kind) = LacksMeaning kind_of_text texts
IsNoKind texts fault.Memory = ⊤
IsNoKind texts _ = ⊥

-- the rules are what the texts mean, in their order
pub record AreJsonRules (rows : List Row) (rules : Rules) : Type 0 where
  pub paths_are : map field_of_text (texts_of_option rows field) ≡ map Some rules.paths
  pub kinds_are : map kind_of_text (texts_of_option rows kind) ≡ map Some rules.kinds

-- lines of JSON are read by the rules that are given; without `--jsonl` there are none, and nothing is given for them
abbrev pub IsJsonOf : List Row → Option Rules → Type 0
IsJsonOf rows None = IsFlagOf rows jsonl false × (is_json_given rows ≡ false)
IsJsonOf rows (Some rules) = IsFlagOf rows jsonl true × AreJsonRules rows rules
