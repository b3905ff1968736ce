use Rattle.std.proofs.Common.{◌≡◌, map, take}
use Rattle.hlc_log_text.specs.Files.{line_text}
use Rattle.hlc_log_audit.proofs.lines.line_texts.Given as goal

-- the lines so far are told
abbrev pub invariant-loop-line : goal.invariant-loop-line
invariant-loop-line l = l.texts.items ≡ map (line_text l.files) (take l.line-index l.lines)
