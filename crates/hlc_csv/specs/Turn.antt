-- What a turn over the bytes that are ready does.
use Rattle.std.specs.Prelude.{◌≡◌, ℕ, false, List, [], Option}
use Rattle.hlc_csv.specs.Rows.{Fields}
use Rattle.hlc_csv.specs.ParserState.{is_inside}
use Rattle.hlc_csv.specs.RecordParser.{Moves, MovesToEnd, OfKnown}
use Rattle.hlc_csv.specs.declared.record_parser.RecordParser.{RecordParser}
use Rattle.hlc_csv.specs.declared.turn.Turn.{Turn}
use Rattle.hlc_csv.specs.declared.turn.Turn.TheVariants.{End, More, Record}

-- no byte was left
abbrev pub NoneLeft : (before after : List ℕ) → Type 0
NoneLeft before after = (before ≡ []) × (after ≡ [])

abbrev pub Turns : (old new : RecordParser) (was now : Fields) → (before after : Option (List ℕ)) → Turn → Type 0
Turns old new was now before after Record = OfKnown (MovesToEnd old new was now) before after × (is_inside new.state ≡ false) × (new.field.items ≡ [])
Turns old new was now before after More = OfKnown (Moves old new was now) before after
Turns old new was now before after End = OfKnown NoneLeft before after × (new ≡ old) × (now ≡ was)
