use Rattle.std.proofs.Common.{◌∙◌, ◌∷◌, [], ◌++◌, ap, refl, sym}
use Rattle.std.proofs.lemmas.Result.{err_from_is_err_and}
use Rattle.csv.specs.Records.{fields_of}
use Rattle.hlc_csv.specs.ParserState.{csv_step}
use Rattle.hlc_csv.specs.declared.parser_state.ParserAction.{ParserAction}
use Rattle.hlc_csv.specs.declared.parser_state.ParserAction.TheVariants.{Copy, EndField, EndRecord, Skip}
use Rattle.hlc_csv.proofs.ByteFacts.{takes_byte}
use Rattle.hlc_csv.proofs.record_parser.RecordParser.take_byte.Goals as goal

pub returns-in-Skip-clause-taken : goal.returns-in-Skip-clause-taken
returns-in-Skip-clause-taken c =
    takes_byte c.args.self.now _ (fields_of c.args.fields.now) (fields_of c.args.fields.now) c.args.byte Skip
    (record {
      step = ap (λ (a : ParserAction). csv_step (c.step-state.result.0, a)) (sym c.in-Skip.is) ∙ c.step-state.ensures;
      fields = refl;
      field = ap (λ v. v.items) c.count.ensures.field;
      line = c.count.ensures.line;
      began = c.count.ensures.began;
      after_cr = c.count.ensures.after_cr;
    })

pub returns-in_ok-push-in-Copy-clause-taken : goal.returns-in_ok-push-in-Copy-clause-taken
returns-in_ok-push-in-Copy-clause-taken c =
    takes_byte c.args.self.now _ (fields_of c.args.fields.now) (fields_of c.args.fields.now) c.args.byte Copy
    (record {
      step = ap (λ (a : ParserAction). csv_step (c.step-state.result.0, a)) (sym c.in-Copy.is) ∙ c.step-state.ensures;
      fields = refl;
      field = c.in_ok-push-in-Copy.ensures.items ∙ ap (λ v. v.items ++ c.args.byte ∷ []) c.count.ensures.field;
      line = c.count.ensures.line;
      began = c.count.ensures.began;
      after_cr = c.count.ensures.after_cr;
    })

pub returns-in_ok-end_field-in-EndField-clause-taken : goal.returns-in_ok-end_field-in-EndField-clause-taken
returns-in_ok-end_field-in-EndField-clause-taken c =
    takes_byte c.args.self.now _ (fields_of c.args.fields.now) (fields_of c.end_field.new.fields) c.args.byte EndField
    (record {
      step = ap (λ (a : ParserAction). csv_step (c.step-state.result.0, a)) (sym c.in-EndField.is) ∙ c.step-state.ensures;
      fields = c.in_ok-end_field-in-EndField.ensures.fields ∙ ap (λ v. fields_of c.args.fields.now ++ v.items ∷ []) c.count.ensures.field;
      field = c.in_ok-end_field-in-EndField.ensures.field;
      line = c.count.ensures.line;
      began = c.count.ensures.began;
      after_cr = c.count.ensures.after_cr;
    })

pub returns-in_ok-end_field-in-EndRecord-clause-taken : goal.returns-in_ok-end_field-in-EndRecord-clause-taken
returns-in_ok-end_field-in-EndRecord-clause-taken c =
    takes_byte c.args.self.now _ (fields_of c.args.fields.now) (fields_of c.end_field-in-EndRecord.new.fields) c.args.byte EndRecord
    (record {
      step = ap (λ (a : ParserAction). csv_step (c.step-state.result.0, a)) (sym c.in-EndRecord.is) ∙ c.step-state.ensures;
      fields = c.in_ok-end_field-in-EndRecord.ensures.fields ∙ ap (λ v. fields_of c.args.fields.now ++ v.items ∷ []) c.count.ensures.field;
      field = c.in_ok-end_field-in-EndRecord.ensures.field;
      line = c.count.ensures.line;
      began = c.count.ensures.began;
      after_cr = c.count.ensures.after_cr;
    })

pub returns-in_err-push-in-Copy : goal.returns-in_err-push-in-Copy
returns-in_err-push-in-Copy c = rw (err_from_is_err_and c.from_residual.result c.from_residual.ensures.1).1 record { taken = tt; none_partial = tt }

pub returns-in_err-end_field-in-EndField : goal.returns-in_err-end_field-in-EndField
returns-in_err-end_field-in-EndField c = rw (err_from_is_err_and c.from_residual-in_err-end_field-in-EndField.result c.from_residual-in_err-end_field-in-EndField.ensures.1).1 record { taken = tt; none_partial = tt }

pub returns-in_err-end_field-in-EndRecord : goal.returns-in_err-end_field-in-EndRecord
returns-in_err-end_field-in-EndRecord c = rw (err_from_is_err_and c.from_residual-in_err-end_field-in-EndRecord.result c.from_residual-in_err-end_field-in-EndRecord.ensures.1).1 record { taken = tt; none_partial = tt }
