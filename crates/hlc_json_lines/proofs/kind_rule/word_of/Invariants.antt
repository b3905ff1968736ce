use Rattle.std.proofs.Common.{◌≡◌, drop}
use Rattle.hlc_json_lines.specs.JsonRules.{kind_rules}
use Rattle.hlc_json_lines.specs.Rules.{word_of}
use Rattle.hlc_json_lines.proofs.kind_rule.word_of.Given as goal

abbrev pub invariant-loop-rule : goal.invariant-loop-rule
invariant-loop-rule l = word_of (kind_rules (drop l.rule-index l.rules)) l.text ≡ word_of (kind_rules l.rules) l.text
