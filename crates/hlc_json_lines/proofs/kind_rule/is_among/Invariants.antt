use Rattle.std.proofs.Common.{◌≡◌, ◌==◌, length}
use Rattle.std.specs.List.{slice_split}
use denote.Shadow.{shadow}
use denote.Text.{Utf8}
use Rattle.hlc_json_lines.specs.Rules.{is_among}
use Rattle.hlc_json_lines.proofs.kind_rule.is_among.Given as goal

abbrev pub invariant-loop-value : goal.invariant-loop-value
invariant-loop-value l =
    (is_among (slice_split (λ byte. byte == 44) l.rest) l.fn.text ≡ is_among (slice_split (λ byte. byte == 44) l.fn.values) l.fn.text) × shadow (Utf8 l.rest)

abbrev pub decreases-loop-value : goal.decreases-loop-value
decreases-loop-value l = length l.rest
