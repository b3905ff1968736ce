use Rattle.std.proofs.Common.{◌≡◌, ◌<◌, ◌≤◌, ◌∙◌, [], ap, arith, drop, eqb-true, length, sym}
use Rattle.std.specs.Io.Buffered.{reader_remaining}
use Rattle.std.proofs.lemmas.List.{drop_all}
use Rattle.hlc_json_lines.specs.EventRow.{text_of_line}
use Rattle.hlc_json_lines.proofs.LineFacts.{text_of_line-some}
use Rattle.hlc_json_lines.proofs.ReaderFacts.{keeps-line}
use Rattle.hlc_json_lines.proofs.json_reader.JsonReader.prepare.Goals as goal

pub returns-in-Ok-clause-kept : goal.returns-in-Ok-clause-kept
returns-in-Ok-clause-kept g c =
    let old = c.args.self.now in
    let line = c.read_until.new.buf in
    let read = c.in_ok-read_until.ensures in
    let some = c.if-branch-eq0.false in
    let given : length old.row.items ≤ old.given = omega (arith, c.len.ensures, old.row.ok.0, c.if-self-len.false) in
    let empty = eqb-true _ 0 (sym c.is_empty.ensures ∙ c.if-not-is_empty.false) in
    let none_ready : drop old.given old.row.items ≡ [] = drop_all old.given old.row.items given in
    let none_before : old.line.items ≡ [] = drop_all 0 old.line.items (omega (arith, empty, old.line.ok.0)) in
    let shown : 0 < length line.items = omega (arith, read.ok, line.ok.0, some) in
    let made = rw (c.clear.ensures.items, c.as_slice.ensures.value) at c.in-Ok.ensures in
    let is = rw none_before at read.bytes in
    keeps-line old.rules old.ended (reader_remaining g.R.Read.remaining old.input) (reader_remaining g.R.Read.remaining c.read_until.new.self)
    (drop old.given old.row.items) old.line.items line.items c.put_line.new.row.items c.clear-in-Ok.new.self.items c.if-self.false none_ready none_before
    c.clear-in-Ok.ensures.items made is shown read.rest

pub returns-in-Ok-clause-ready : goal.returns-in-Ok-clause-ready
returns-in-Ok-clause-ready g c =
    let rules = c.args.self.now.rules in
    let line = c.read_until.new.buf.items in
    let made = rw (c.clear.ensures.items, c.as_slice.ensures.value) at c.in-Ok.ensures in
    let shown = text_of_line-some rules line in
    let size : length c.put_line.new.row.items ≡ length (text_of_line rules line) = ap length made in
    λ none. absurd (omega (arith, shown, size, none))
