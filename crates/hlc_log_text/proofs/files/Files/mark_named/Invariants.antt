use Rattle.std.proofs.Common.{◌≡◌, drop}
use Rattle.hlc_log_text.specs.Files.{mark_named}
use Rattle.hlc_log_text.proofs.files.Files.mark_named.Given as goal

-- no mark so far has the name
abbrev pub invariant-loop-mark : goal.invariant-loop-mark
invariant-loop-mark l = mark_named l.mark-items l.name ≡ mark_named (drop l.mark-index l.mark-items) l.name
