use Rattle.std.proofs.Common.{sym}
use Rattle.hlc_csv.proofs.RowTextFacts.{on_ok-added}
use Rattle.hlc_csv.specs.Rows.{text_of_row}
use Rattle.hlc_json_lines.specs.EventRow.{skipped_row}
use Rattle.hlc_json_lines.proofs.RowFacts.{skipped-row}
use Rattle.hlc_json_lines.proofs.event_row.put_skipped.Goals as goal

pub returns : goal.returns
returns c =
    let last = c.extend_from_slice in
    on_ok-added last.result _ last.new.self.items _ (text_of_row skipped_row) last.ensures.items (sym skipped-row)
