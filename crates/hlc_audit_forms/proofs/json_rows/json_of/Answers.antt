use Rattle.std.proofs.Common.{map}
use Rattle.csv.specs.Records.{fields_of}
use Rattle.hlc_audit_forms.proofs.json_rows.json_of.Goals as goal

pub returns : goal.returns
returns c = (map fields_of c.in_ok-rows.rows.items, c.in_ok-rows.ensures, rw (c.deref.ensures.value, c.new-json.ensures.items) at c.in_ok-put_json.ensures)
