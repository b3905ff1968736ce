use Rattle.std.proofs.Common.{refl}
use Rattle.hlc_log_text.specs.LogItem.{Asks}
use Rattle.hlc_log_text.specs.Question.{plain_asked}
use Rattle.hlc_log_text.specs.declared.partial_log.PartialLog.{PartialLog}
use Rattle.hlc_log_text.proofs.LogFacts.{asked_all, files_kept, is_aside-more, left_out_kept, marks_kept, skipped_kept}
use Rattle.hlc_log_text.proofs.partial_log.PartialLog.ask.Goals as goal

pub returns-clause-asked : goal.returns-clause-asked
returns-clause-asked c items lines h =
    let old = c.args.self.now in
    let new : PartialLog = record {
      log = old.log;
      nodes = old.nodes;
      messages = old.messages;
      labels = old.labels;
      senders = old.senders;
      questions = c.push.new.self;
      line = c.args.line;
      header = c.pass.new.self;
      skipped = old.skipped;
      left_out = old.left_out;
      sent = old.sent;
      files = old.files;
    } in
    is_aside-more items lines old new (Asks (plain_asked c.args.question)) h record {
      log = refl;
      nodes = refl;
      messages = refl;
      labels = refl;
      senders = refl;
      sent = refl;
      questions = asked_all items lines old new c.args.question h c.in_ok-push.ensures.items;
      next = c.requires;
      header = c.pass.ensures items (Asks (plain_asked c.args.question)) (refl, λ columns. refl) h.header;
      skipped = skipped_kept items lines old new c.args.question h c.args.line;
      left_out = left_out_kept items lines old new c.args.question h c.args.line;
      files = files_kept items lines old (Asks (plain_asked c.args.question)) c.args.line h refl;
      marks = marks_kept items lines old (Asks (plain_asked c.args.question)) c.args.line h c.requires;
      no_event = refl;
      tells_nothing = refl;
    }
