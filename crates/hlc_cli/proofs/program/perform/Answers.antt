use Rattle.std.proofs.Common.{◌∙◌, arith, sym}
use Rattle.clap.specs.Walk.{texts}
use Rattle.hlc_cli.proofs.Mistakes.{mistaken_end, status_at_most}
use Rattle.hlc_cli.proofs.Notes.{is_end, quiet_end}
use Rattle.hlc_cli.proofs.program.perform.Goals as goal

pub returns-clause-ended : goal.returns-clause-ended
returns-clause-ended g c =
    let did = c.try_perform-performed.ensures in
    record {
      end = c.try_perform-performed.result;
      is_end = is_end (texts c.args.arguments.now) _ _ _ c.try_perform-performed.result did.done did.noted did.stopped did.told;
      status = c.end.ensures.status;
      line = c.end.ensures.line;
    }

pub returns-clause-status : goal.returns-clause-status
returns-clause-status g c =
    let most = status_at_most c.try_perform-performed.result in
    omega (arith, c.end.ensures.status)

pub returns-clause-quiet : goal.returns-clause-quiet
returns-clause-quiet g c = λ zero.
    quiet_end (texts c.args.arguments.now) _ c.try_perform-performed.result _
    (sym c.end.ensures.status ∙ zero) c.try_perform-performed.ensures.noted c.end.ensures.quiet

pub returns-clause-mistaken : goal.returns-clause-mistaken
returns-clause-mistaken g c =
    mistaken_end (texts c.args.arguments.now) c.try_perform-performed.result c.end.result.status c.try_perform-performed.ensures.stopped c.end.ensures.status
