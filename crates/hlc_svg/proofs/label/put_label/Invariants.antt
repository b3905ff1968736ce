use Rattle.std.proofs.Common.{◌≡◌, ◌++◌, length, string_bytes}
use Rattle.hlc_svg.specs.Label.{label_text}
use Rattle.hlc_svg.proofs.label.put_label.Given as goal

-- what is shown so far, with what is left, is the whole
abbrev pub invariant-rest : goal.invariant-rest
invariant-rest l = string_bytes l.text ++ label_text l.left l.rest ≡ string_bytes l.fn.text ++ label_text l.room l.bytes

abbrev pub decreases-rest : goal.decreases-rest
decreases-rest l = length l.rest
