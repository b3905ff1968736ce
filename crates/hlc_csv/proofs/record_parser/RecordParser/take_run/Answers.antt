use Rattle.std.proofs.Common.{◌∙◌, ◌==◌, ◌++◌, ◌∷◌, [], List, ℕ, ap, refl, sym, take}
use Rattle.std.proofs.lemmas.Result.{err_from_is_err_and}
use Rattle.csv.specs.Records.{fields_of}
use Rattle.hlc_csv.proofs.RunFacts.{field_taken, no_bytes, takes_run}
use Rattle.hlc_csv.proofs.record_parser.RecordParser.take_run.Goals as goal

pub returns-clause-run : goal.returns-clause-run
returns-clause-run c =
    takes_run c.args.self.now _ (sym c.is_plain.ensures ∙ c.if-not-is_plain.false) c.args.bytes.now c.plain_run-run.result c.if-run-eq0.false
    c.plain_run-run.ensures.within c.plain_run-run.ensures.plain
    (record { state = refl; after_cr = refl; line = refl; began = refl; field = c.in_ok-extend_from_slice.ensures.items })
    (fields_of c.args.fields.now)

pub returns-then-bytes-run-eq44-clause-run : goal.returns-then-bytes-run-eq44-clause-run
returns-then-bytes-run-eq44-clause-run c =
    let run = take c.plain_run-run.result c.args.bytes.now in
    let none = no_bytes c.args.self.now.field.items (ap (λ n. n == 0) (sym c.args.self.now.field.ok.0) ∙ sym c.is_empty.ensures ∙ c.if-is_empty.true) in
    field_taken c.args.self.now _ (sym c.is_plain.ensures ∙ c.if-not-is_plain.false) (fields_of c.args.fields.now) (fields_of c.push_field.new.self)
    c.args.bytes.now c.plain_run-run.result c.if-run-bytes.true c.if-bytes-run-eq44.true c.plain_run-run.ensures.plain
    (record {
      state = refl;
      after_cr = refl;
      line = refl;
      began = refl;
      none_before = none;
      none_after = none;
      fields = c.in_ok-push_field.ensures.fields ∙ ap (λ (p : List ℕ). fields_of c.args.fields.now ++ (p ++ run) ∷ []) c.requires;
    })

pub returns-in_err-push_field : goal.returns-in_err-push_field
returns-in_err-push_field c = rw (err_from_is_err_and c.from_residual.result c.from_residual.ensures.1).1 record { run = tt; within = tt; none_partial = tt }

pub returns-in_err-extend_from_slice : goal.returns-in_err-extend_from_slice
returns-in_err-extend_from_slice c = rw (err_from_is_err_and c.from_residual-in_err-extend_from_slice.result c.from_residual-in_err-extend_from_slice.ensures.1).1 record { run = tt; within = tt; none_partial = tt }
