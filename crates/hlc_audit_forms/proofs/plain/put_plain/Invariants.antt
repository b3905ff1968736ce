use Rattle.std.proofs.Common.{◌≡◌, ◌++◌, flat_map, take}
use Rattle.hlc_audit_forms.specs.TextPiece.{plain_byte}
use Rattle.hlc_audit_forms.proofs.plain.put_plain.Given as goal

abbrev pub invariant-loop-byte : goal.invariant-loop-byte
invariant-loop-byte l = l.text.items ≡ l.fn.text.items ++ flat_map plain_byte (take l.byte-index l.field)
