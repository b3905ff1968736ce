use Rattle.std.proofs.Common.{◌≡◌, ◌++◌, flat_map, take}
use Rattle.hlc_audit_forms.specs.JsonText.{string_byte}
use Rattle.hlc_audit_forms.proofs.json_text.put_bytes.Given as goal

abbrev pub invariant-loop-byte : goal.invariant-loop-byte
invariant-loop-byte l = l.text.items ≡ l.fn.text.items ++ flat_map (string_byte l.in_utf8) (take l.byte-index l.field)
