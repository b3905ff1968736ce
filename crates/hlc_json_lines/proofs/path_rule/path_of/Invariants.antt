use Rattle.std.proofs.Common.{◌≡◌, drop}
use denote.Shadow.{shadow}
use denote.Text.{Utf8}
use Rattle.hlc_json_lines.specs.JsonRules.{path_rules}
use Rattle.hlc_json_lines.specs.Paths.{keys_in}
use Rattle.hlc_json_lines.specs.Rules.{last_path, path_of}
use Rattle.hlc_json_lines.proofs.path_rule.path_of.Given as goal

abbrev pub invariant-loop-rule : goal.invariant-loop-rule
invariant-loop-rule l =
    (last_path (keys_in l.path) (path_rules (drop l.rule-index l.rules)) l.word l.column ≡ path_of (path_rules l.rules) l.word l.column) × shadow (Utf8 l.path)
