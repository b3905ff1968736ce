use Rattle.std.proofs.lemmas.Bool.{false≢true}
use Rattle.serde_json.specs.View.{view}
use Rattle.hlc_json_lines.proofs.RowFacts.{value-none, value-read}
use Rattle.hlc_json_lines.proofs.event_row.put_bytes.Goals as goal

pub returns-in-Ok : goal.returns-in-Ok
returns-in-Ok c = rw (value-read c.args.bytes.now (view c.in-Ok.value) c.in-Ok.ensures.ok.0 c.in-Ok.ensures.ok.1) c.put_value.ensures

pub returns-in-Err-2 : goal.returns-in-Err-2
returns-in-Err-2 c =
    let none = c.in-Err.ensures.err (λ memory. false≢true (c.if-is_memory.ensures.1 memory)) in
    rw (value-none c.args.bytes.now none) c.put_skipped.ensures
