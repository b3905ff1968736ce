use Rattle.hlc_log_text.proofs.ApartTexts.{is_text_read}
use Rattle.hlc_log_text.proofs.read.read_whole.Goals as goal

pub returns-clause-read : goal.returns-clause-read
returns-clause-read g c bytes start =
    is_text_read c.args.rules c.args.most bytes c.read_records.new.reading c.finish.new.self c.in_ok-finish.field-0 c.in_ok-finish.ensures
    (c.in_ok-read_records.ensures.read bytes start)
