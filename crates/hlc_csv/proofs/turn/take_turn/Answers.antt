use Rattle.std.proofs.Common.{◌∙◌, arith, eqb-true, length, refl, subst, sym, take}
use Rattle.std.specs.Io.KnownBytes.{Consumes}
use Rattle.std.proofs.lemmas.List.{take_all}
use Rattle.csv.specs.Records.{fields_of}
use Rattle.hlc_csv.proofs.ParserFacts.{consumed, moves, moves_to_end, none_left}
use Rattle.hlc_csv.proofs.turn.take_turn.Goals as goal

pub returns-then-is_empty-clause-turn : goal.returns-then-is_empty-clause-turn
returns-then-is_empty-clause-turn g c = (
  none_left (g.B.Read.remaining c.args.input.now) (g.B.Read.remaining c.fill_buf.follows.lender-at-none) (length c.in-Ok.bytes.now)
      (eqb-true (length c.in-Ok.bytes.now) 0 (sym c.is_empty.ensures ∙ c.if-is_empty.true)) c.in-Ok.ensures.end c.fill_buf.follows.holds-at-none.0,
  refl,
  refl,
)

pub returns-in-Some-clause-turn : goal.returns-in-Some-clause-turn
returns-in-Some-clause-turn g c =
    let rem = g.B.Read.remaining in
    let kept = rw c.in-Ok.is at c.fill_buf.follows.holds-at-none in
    let within = rw c.in-Some.is at c.in_ok-used.ensures.used in
    let ends = rw c.in-Some.is at c.in_ok-used.ensures.taken in
    let gone = consumed (rem c.args.input.now) (rem c.fill_buf.follows.lender-at-none) (rem c.consume.new.self) (g.B.BufRead.consumable_len c.fill_buf.follows.lender-at-none)
    c.in-Ok.bytes.now c.in-Some.used c.in-Ok.ensures.front kept.0 kept.1 within c.consume.ensures.bytes in (
      moves_to_end c.args.parser.now c.take.new.self (fields_of c.args.fields.now) (fields_of c.take.new.fields) (take c.in-Some.used c.in-Ok.bytes.now) ends
          (rem c.args.input.now) (rem c.consume.new.self) gone,
      ends.between,
      ends.none_kept,
    )

pub returns-in-None-clause-turn : goal.returns-in-None-clause-turn
returns-in-None-clause-turn g c =
    let rem = g.B.Read.remaining in
    let bytes = c.in-Ok.bytes.now in
    let kept = rw c.in-Ok.is at c.fill_buf.follows.holds-at-none in
    let goes_on = rw c.in-None.is at c.in_ok-used.ensures.taken in
    let gone = consumed (rem c.args.input.now) (rem c.fill_buf.follows.lender-at-none) (rem c.consume-in-None.new.self) (g.B.BufRead.consumable_len c.fill_buf.follows.lender-at-none)
    bytes (length bytes) c.in-Ok.ensures.front kept.0 kept.1 (omega arith) c.consume-in-None.ensures.bytes in
    moves c.args.parser.now c.take.new.self (fields_of c.args.fields.now) (fields_of c.take.new.fields) bytes goes_on (rem c.args.input.now) (rem c.consume-in-None.new.self)
    (subst (Consumes (rem c.args.input.now) (rem c.consume-in-None.new.self)) (take_all (length bytes) bytes (omega arith)) gone)
