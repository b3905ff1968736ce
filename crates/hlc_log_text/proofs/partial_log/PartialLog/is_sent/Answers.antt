use Rattle.std.proofs.Common.{◌∙◌, sym}
use Rattle.hlc_log_text.proofs.SentNames.{sent_if_marked, unsent_without_number}
use Rattle.hlc_log_text.proofs.partial_log.PartialLog.is_sent.Goals as goal

pub returns-in-Some : goal.returns-in-Some
returns-in-Some c items lines h kept =
    c.has.ensures
    ∙ sent_if_marked items lines c.args.self.now h c.number.ensures.once kept c.args.message.now c.in-Some.number (sym c.number.ensures.number ∙ c.in-Some.is)

pub returns-in-None : goal.returns-in-None
returns-in-None c items lines h kept =
    unsent_without_number items lines c.args.self.now h c.number.ensures.once kept c.args.message.now (sym c.number.ensures.number ∙ c.in-None.is)
