use Rattle.std.proofs.Common.{true, rules}
use Rattle.csv.specs.Records.{fields_of}
use Rattle.csv.specs.Reading.{ReadRecord, ReadsOn}
use Rattle.hlc_csv.proofs.RecordFacts.{has_read-more, is_script-read}
use Rattle.hlc_csv.proofs.records.read_next.Goals as goal

pub returns-in-Ok-true : goal.returns-in-Ok-true
returns-in-Ok-true g c =
    let was = c.args.input.now in
    let now = c.read_byte_record.new.self in
    let fields = fields_of c.read_byte_record.new.row in
    let reads = rw c.in-Ok-true.is at c.read_byte_record.ensures.reads in
    let read : ReadRecord g.R.Read.remaining was now true fields =
    rw c.in-Ok-true.field-0-test at (reads c.requires.trim c.requires.ready) in
    let on : ReadsOn was now = (rw c.in-Ok-true.is at c.read_byte_record.ensures.reads_on) c.in-Ok-true.field-0-test in (
      is_script-read g.R.Read.remaining was now fields c.requires read on,
      λ bytes records h. has_read-more g.R.Read.remaining was now fields bytes records c.requires read h,
    )

pub invariant_of-result : goal.invariant_of-result
invariant_of-result g c = search rules
