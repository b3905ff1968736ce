use Rattle.std.proofs.Common.{[], refl, sym, subst}
use Rattle.std.proofs.lemmas.Result.{IfOk-from_err}
use Rattle.csv.specs.Records.{fields_of}
use Rattle.hlc_csv.specs.Rows.{Fields}
use Rattle.hlc_csv.specs.RecordParser.{EndsText, Moves, OfKnown}
use Rattle.hlc_csv.specs.RecordReader.{left_of}
use Rattle.hlc_csv.specs.declared.record_reader.RecordReader.{RecordReader}
use Rattle.hlc_csv.proofs.ReaderFacts.{moves_further, moves_nowhere, moves_on_to_end, reads_last, reads_record}
use Rattle.hlc_csv.proofs.record_reader.RecordReader.read_record.Goals as goal

pub loop-turn-init : goal.loop-turn-init
loop-turn-init g c =
    let rem = g.R.Read.remaining in (
      subst (λ (f : Fields). OfKnown (Moves c.args.self.now.parser c.args.self.now.parser [] f) (left_of rem c.args.self.now) (left_of rem c.args.self.now))
          (sym c.clear.ensures.fields) (moves_nowhere c.args.self.now.parser [] (left_of rem c.args.self.now)),
      c.clear.ensures.partial,
    )

pub returns-in-Record : goal.returns-in-Record
returns-in-Record g c =
    let rem = g.R.Read.remaining in
    let turn = rw c.in-Record.is at c.in_ok-take_turn.ensures.turn in
    let new : RecordReader _ = record { input = c.take_turn.new.input; parser = c.take_turn.new.parser } in
    reads_record rem c.args.self.now new (fields_of c.take_turn.new.fields)
    (moves_on_to_end c.args.self.now.parser c.loop-turn.self.parser c.take_turn.new.parser [] (fields_of c.loop-turn.fields) (fields_of c.take_turn.new.fields)
    (left_of rem c.args.self.now) (left_of rem c.loop-turn.self) (left_of rem new) c.loop-turn.invariant.0 turn.0) turn.1 turn.2

pub returns-in-End : goal.returns-in-End
returns-in-End g c =
    let rem = g.R.Read.remaining in
    let turn = rw c.in-End.is at c.in_ok-take_turn.ensures.turn in
    let new : RecordReader _ = record { input = c.take_turn.new.input; parser = c.finish.new.self } in
    reads_last rem c.args.self.now new (fields_of c.finish.new.fields) c.loop-turn.self.parser (fields_of c.loop-turn.fields)
    (left_of rem c.args.self.now) (left_of rem c.loop-turn.self) (left_of rem new) refl refl c.loop-turn.invariant.0 turn.0 c.in_ok-finish-in-End.field-0
    (subst (λ p. EndsText p c.finish.new.self (fields_of c.loop-turn.fields) (fields_of c.finish.new.fields) c.in_ok-finish-in-End.field-0) turn.1
    (subst (λ (f : Fields). EndsText c.take_turn.new.parser c.finish.new.self f (fields_of c.finish.new.fields) c.in_ok-finish-in-End.field-0) turn.2
    c.in_ok-finish-in-End.ensures))

pub loop-turn-preserved : goal.loop-turn-preserved
loop-turn-preserved g c =
    let rem = g.R.Read.remaining in
    let turn = rw c.in-More.is at c.in_ok-take_turn.ensures.turn in
    let new : RecordReader _ = record { input = c.take_turn.new.input; parser = c.take_turn.new.parser } in (
      moves_further c.args.self.now.parser c.loop-turn.self.parser c.take_turn.new.parser [] (fields_of c.loop-turn.fields) (fields_of c.take_turn.new.fields)
          (left_of rem c.args.self.now) (left_of rem c.loop-turn.self) (left_of rem new) c.loop-turn.invariant.0 turn,
      c.in_ok-take_turn.ensures.none_partial,
    )

pub returns-in_err-take_turn : goal.returns-in_err-take_turn
returns-in_err-take_turn g c = IfOk-from_err c.from_residual.result _ c.from_residual.ensures.0

pub returns-in_err-finish-in-End : goal.returns-in_err-finish-in-End
returns-in_err-finish-in-End g c = IfOk-from_err c.from_residual-in_err-finish-in-End.result _ c.from_residual-in_err-finish-in-End.ensures.0
