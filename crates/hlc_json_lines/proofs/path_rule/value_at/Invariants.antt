use Rattle.std.proofs.Common.{◌≡◌, length}
use Rattle.serde_json.specs.View.{view}
use denote.Shadow.{shadow}
use denote.Text.{Utf8}
use Rattle.hlc_json_lines.specs.Paths.{keys_in, value_at}
use Rattle.hlc_json_lines.proofs.path_rule.value_at.Given as goal

abbrev pub invariant-loop-key : goal.invariant-loop-key
invariant-loop-key l =
    (value_at (keys_in l.rest) (view l.inner) ≡ value_at (keys_in l.fn.path) (view l.fn.value)) × shadow (Utf8 l.rest)

abbrev pub decreases-loop-key : goal.decreases-loop-key
decreases-loop-key l = length l.rest
