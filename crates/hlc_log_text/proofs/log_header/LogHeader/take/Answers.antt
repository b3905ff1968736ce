use Rattle.std.proofs.Common.{◌≡◌, Bool, Err, Ok, Option, Result, Some, ap, arith, cond, false, refl, true}
use Rattle.csv.specs.Records.{fields_of}
use Rattle.hlc_log_text.specs.Columns.{columns_of, is_complete}
use Rattle.hlc_log_text.specs.LogItem.{LogItem, Names}
use Rattle.hlc_log_text.specs.declared.bad_log.BadLog.{BadLog}
use Rattle.hlc_log_text.specs.declared.bad_log.BadLog.TheVariants as bad
use Rattle.hlc_log_text.specs.declared.columns.Columns.{Columns}
use Rattle.hlc_log_text.proofs.HeaderFacts.{headed_by}
use Rattle.hlc_log_text.proofs.log_header.LogHeader.take.Goals as goal

pub returns : goal.returns
returns c =
    let columns = columns_of (fields_of c.args.fields.now) in
    let complete : is_complete c.args.form columns ≡ true = grind (arith, c.named-columns.ensures) in (
      ap (λ (test : Bool). (let r : Result LogItem BadLog = cond test (Ok (Names columns)) (Err bad.Header) in r)) complete,
      λ items. headed_by columns items (record { at_start = false; columns = Some c.named-columns.result })
          (ap (λ (columns : Columns). (let o : Option Columns = Some columns in o)) c.named-columns.ensures) refl,
    )
