use Rattle.std.proofs.Common.{◌≡◌, ◌++◌, map, take}
use Rattle.csv.specs.Records.{fields_of}
use Rattle.hlc_audit_forms.specs.TextPiece.{pieces_text, told_piece}
use Rattle.hlc_audit_forms.proofs.plain.put_pieces.Given as goal

abbrev pub invariant-loop-piece : goal.invariant-loop-piece
invariant-loop-piece l = l.text.items ≡ l.fn.text.items ++ pieces_text (fields_of l.row) (map told_piece (take l.piece-index l.pieces))
