use Rattle.std.proofs.Common.{◌∙◌, sym, ap, [], List, ℕ, Option, Bor}
use Rattle.std.specs.Prelude.{unwrap_or}
use Rattle.csv.specs.Records.{fields_of}
use Rattle.hlc_csv.proofs.RowFacts.{field_of-at, unwrap_or-now}
use Rattle.hlc_csv.proofs.records.field.Goals as goal

pub returns : goal.returns
returns c =
    let found = ap (λ (o : Option (List ℕ)). unwrap_or o []) c.get.ensures.value in
    ap (λ (s : Bor (List ℕ)). s.now) c.unwrap_or.ensures ∙ unwrap_or-now c.get.result _ ∙ found
    ∙ sym (field_of-at (fields_of c.args.fields.now) c.args.place)
