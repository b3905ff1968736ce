use Rattle.std.proofs.Common.{Some, map}
use Rattle.csv.specs.Records.{fields_of}
use Rattle.hlc_csv.proofs.RecordFacts.{are_all-only}
use Rattle.hlc_audit_forms.proofs.rows.told_rows.Goals as goal

pub returns : goal.returns
returns c =
    let all = c.in_ok-read_all.ensures c.args.text.now c.in-Ok.ensures in
    (all, are_all-only (Some c.args.text.now) (map fields_of c.read_all.new.rows.items) all)
