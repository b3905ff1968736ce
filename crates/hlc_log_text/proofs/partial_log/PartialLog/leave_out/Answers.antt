use Rattle.std.proofs.Common.{◌∙◌, refl, sym}
use Rattle.hlc_log_text.specs.LogItem.{Fails}
use Rattle.hlc_log_text.specs.declared.partial_log.PartialLog.{PartialLog}
use Rattle.hlc_log_text.proofs.LogFacts.{failed_left_out, failed_questions, failed_skipped, files_kept, is_aside-more, marks_kept}
use Rattle.hlc_log_text.proofs.partial_log.PartialLog.leave_out.Goals as goal

pub returns-clause-left : goal.returns-clause-left
returns-clause-left c items lines h next =
    let old = c.args.self.now in
    let b = c.args.bad in
    let new : PartialLog = record {
      log = old.log;
      nodes = old.nodes;
      messages = old.messages;
      labels = old.labels;
      senders = old.senders;
      questions = old.questions;
      line = b.line;
      header = c.pass.new.self;
      skipped = old.skipped;
      left_out = c.push.new.self;
      sent = old.sent;
      files = old.files;
    } in (
      sym c.leaves_out.ensures ∙ c.if-not-leaves_out.false,
      is_aside-more items lines old new (Fails b.why) h record {
        log = refl;
        nodes = refl;
        messages = refl;
        labels = refl;
        senders = refl;
        sent = refl;
        questions = failed_questions items lines old b h;
        next = next;
        header = c.pass.ensures items (Fails b.why) (refl, λ columns. refl) h.header;
        skipped = failed_skipped items lines old b h;
        left_out = failed_left_out items lines old b h c.push.new.self.items c.in_ok-push.ensures.items;
        files = files_kept items lines old (Fails b.why) b.line h refl;
        marks = marks_kept items lines old (Fails b.why) b.line h next;
        no_event = refl;
        tells_nothing = refl;
      },
    )
