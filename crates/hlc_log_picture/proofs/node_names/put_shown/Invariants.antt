use Rattle.std.proofs.Common.{◌≡◌, ◌++◌, map, take}
use Rattle.hlc_log_picture.specs.NodeText.{shown_byte}
use Rattle.hlc_log_picture.proofs.node_names.put_shown.Given as goal

-- the bytes before this one are there
abbrev pub invariant-loop-byte : goal.invariant-loop-byte
invariant-loop-byte l = l.text.items ≡ l.fn.text.items ++ map shown_byte (take l.byte-index l.name)
