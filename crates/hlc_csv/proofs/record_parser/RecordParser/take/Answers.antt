use Rattle.std.proofs.Common.{◌-◌, arith, length, refl}
use Rattle.std.proofs.lemmas.Result.{err_from_is_err_and}
use Rattle.csv.specs.Records.{fields_of}
use Rattle.hlc_csv.proofs.ParserFacts.{ends_record-at, goes_on-more}
use Rattle.hlc_csv.proofs.RunFacts.{ends_within, goes_on-after, goes_on-none}
use Rattle.hlc_csv.proofs.record_parser.RecordParser.take.Goals as goal

pub loop-place-preserved-then-run-gt0 : goal.loop-place-preserved-then-run-gt0
loop-place-preserved-then-run-gt0 c = (
  goes_on-after c.args.self.now c.loop-place.self c.take_run.new.self (fields_of c.args.fields.now) (fields_of c.loop-place.fields)
      (fields_of c.take_run.new.fields) c.args.bytes.now c.loop-place.place (length c.args.bytes.now - c.loop-place.place) c.in_ok-run.run' c.loop-place.invariant.0 c.in_ok-run.ensures.within
      c.in_ok-run.ensures.run,
  c.in_ok-run.ensures.none_partial,
  ends_within c.args.bytes.now c.loop-place.place c.in_ok-run.run' c.loop-place.invariant.2 c.in_ok-run.ensures.within,
)

pub returns-then-branch-clause-taken : goal.returns-then-branch-clause-taken
returns-then-branch-clause-taken c =
    let before =
    goes_on-none c.args.self.now c.loop-place.self c.take_run.new.self (fields_of c.args.fields.now) (fields_of c.loop-place.fields)
    (fields_of c.take_run.new.fields) c.args.bytes.now c.loop-place.place (length c.args.bytes.now - c.loop-place.place) c.in_ok-run.run' c.if-run-gt0.false c.loop-place.invariant.0
    c.in_ok-run.ensures.within c.in_ok-run.ensures.run in
    ends_record-at c.args.self.now c.take_run.new.self c.take_byte.new.self (fields_of c.args.fields.now) (fields_of c.take_run.new.fields)
    (fields_of c.take_byte.new.fields) c.args.bytes.now c.loop-place.place _ refl c.loop-place-test.true before
    (rw c.if-branch.true at c.in_ok-take_byte.ensures.taken)

pub loop-place-preserved : goal.loop-place-preserved
loop-place-preserved c =
    let below = c.loop-place-test.true in
    let before =
    goes_on-none c.args.self.now c.loop-place.self c.take_run.new.self (fields_of c.args.fields.now) (fields_of c.loop-place.fields)
    (fields_of c.take_run.new.fields) c.args.bytes.now c.loop-place.place (length c.args.bytes.now - c.loop-place.place) c.in_ok-run.run' c.if-run-gt0.false c.loop-place.invariant.0
    c.in_ok-run.ensures.within c.in_ok-run.ensures.run in (
      goes_on-more c.args.self.now c.take_run.new.self c.take_byte.new.self (fields_of c.args.fields.now) (fields_of c.take_run.new.fields)
          (fields_of c.take_byte.new.fields) c.args.bytes.now c.loop-place.place _ refl c.loop-place-test.true before
          (rw c.if-branch.false at c.in_ok-take_byte.ensures.taken),
      c.in_ok-take_byte.ensures.none_partial,
      omega arith,
    )

pub returns-in_err-run : goal.returns-in_err-run
returns-in_err-run c = rw (err_from_is_err_and c.from_residual.result c.from_residual.ensures.1).1 record { taken = tt; used = tt; none_partial = tt }

pub returns-in_err-take_byte : goal.returns-in_err-take_byte
returns-in_err-take_byte c = rw (err_from_is_err_and c.from_residual-in_err-take_byte.result c.from_residual-in_err-take_byte.ensures.1).1 record { taken = tt; used = tt; none_partial = tt }
