use Rattle.std.proofs.Common.{◌∙◌, [], Option, Some, ap, refl, sym}
use Rattle.csv.specs.Machine.{Read}
use Rattle.csv.specs.Records.{fields_of}
use Rattle.csv.specs.declared.parser.State.TheVariants as st
use Rattle.hlc_csv.specs.Rows.{Fields}
use Rattle.hlc_csv.proofs.ParserFacts.{last_at_end, line_at_end}
use Rattle.hlc_csv.proofs.record_parser.RecordParser.finish.Goals as goal

pub returns : goal.returns
returns c =
    let inside = sym c.is_inside.ensures ∙ c.if-not-is_inside.false in
    record {
      next =
          last_at_end c.args.self.now.state (fields_of c.args.fields.now) c.args.self.now.field.items inside
          ∙ ap (λ (now : Fields). (let o : Option Read = Some (now, st.StartRecord, []) in o)) (sym c.in_ok-end_field.ensures.fields);
      lines = line_at_end c.args.self.now inside;
      is_open = c.is_quoted-is_open.ensures;
      state = refl;
      none_kept = c.in_ok-end_field.ensures.field;
    }
