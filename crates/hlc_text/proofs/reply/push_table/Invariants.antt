use Rattle.std.proofs.Common.{◌≡◌, ◌++◌, map}
use Rattle.hlc_csv.specs.Rows.{AddsText, text_of}
use Rattle.hlc_text.proofs.TableFacts.{item_row, rows_so_far}
use Rattle.hlc_text.proofs.reply.push_table.Given as goal

abbrev pub invariant-loop-key : goal.invariant-loop-key
invariant-loop-key g l = record {
  left : map item_row l.yielded ++ l.key-iterator ≡ l.table;
  text : AddsText (g.W.Write.contents l.fn.writer) (g.W.Write.contents l.writer) l.fn.rows l.rows
      (text_of (rows_so_far l.word l.history.events l.fn.node.0 l.table l.yielded));
}
