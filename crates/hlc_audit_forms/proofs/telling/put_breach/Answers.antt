use Rattle.std.proofs.Common.{◌≡◌, ◌∙◌, ◌++◌, ap, append_assoc, map}
use Rattle.std.proofs.lemmas.Result.{on_ok_weaker}
use Rattle.csv.specs.Records.{fields_of}
use Rattle.hlc_csv.specs.Rows.{field_of}
use Rattle.hlc_audit_forms.specs.TextPiece.{pieces_text}
use Rattle.hlc_audit_forms.specs.Told.{before_breach, count_in, events_text, node_row, times_pieces}
use Rattle.hlc_audit_forms.proofs.telling.put_breach.Goals as goal

pub returns : goal.returns
returns c =
    let fields = fields_of c.args.row.now in
    let rows = map fields_of c.args.rows.now in
    let old = c.args.text.now.items in
    let broken = pieces_text fields before_breach in
    let times = pieces_text fields (times_pieces (count_in 4 fields)) in
    let events = events_text (node_row rows (field_of fields 1)) in
    let counted : c.put_pieces-2.new.text.items ≡ (old ++ broken) ++ times =
    c.in_ok-put_pieces-2.ensures
    ∙ (λ i. c.in_ok-put_pieces.ensures i ++ pieces_text fields ((c.times_pieces.ensures ∙ ap times_pieces c.count_in.ensures) i)) in
    on_ok_weaker c.put_events.result (λ last.
    last ∙ (λ i. counted i ++ events_text ((c.node_row.ensures ∙ ap (node_row rows) c.field.ensures) i))
    ∙ append_assoc (old ++ broken) times events ∙ append_assoc old broken (times ++ events)) c.put_events.ensures
