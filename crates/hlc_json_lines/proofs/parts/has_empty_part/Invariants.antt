use Rattle.std.proofs.Common.{◌≡◌, length}
use denote.Shadow.{shadow}
use denote.Text.{Utf8}
use Rattle.hlc_json_lines.specs.Paths.{has_empty_part}
use Rattle.hlc_json_lines.proofs.parts.has_empty_part.Given as goal

abbrev pub invariant-loop-part : goal.invariant-loop-part
invariant-loop-part l =
    (has_empty_part l.fn.mark l.rest ≡ has_empty_part l.fn.mark l.fn.text) × shadow (Utf8 l.rest)

abbrev pub decreases-loop-part : goal.decreases-loop-part
decreases-loop-part l = length l.rest
