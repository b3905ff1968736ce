use Rattle.std.proofs.lemmas.Result.{IfErr-weaker, on_ok_weaker}
use Rattle.hlc_stamp.specs.declared.limits.TheConstants.{MAX_CAPACITY}
use Rattle.hlc_log_commands.specs.Records.{records_in}
use Rattle.hlc_log_commands.proofs.LengthsTold.{no_length}
use Rattle.hlc_log_commands.proofs.log_with_vectors.vectors_of_log.Goals as goal

pub returns-in-Ok-clause-done : goal.returns-in-Ok-clause-done
returns-in-Ok-clause-done g c =
    on_ok_weaker c.write_opened.result (λ written. (c.in-Ok.log, c.in-Ok.ensures.opened, rw c.in-Ok.ensures.nothing at written)) c.write_opened.ensures.done

pub returns-in-Ok-clause-told : goal.returns-in-Ok-clause-told
returns-in-Ok-clause-told g c =
    IfErr-weaker c.write_opened.result _ _ (λ fault not answer. absurd (not answer)) c.write_opened.ensures.answer

pub returns-in-Ok-clause-unread : goal.returns-in-Ok-clause-unread
returns-in-Ok-clause-unread g c =
    IfErr-weaker c.write_opened.result _ _ (λ fault not input. absurd (not input)) c.write_opened.ensures.input

pub returns-in-Ok-clause-too_long : goal.returns-in-Ok-clause-too_long
returns-in-Ok-clause-too_long g c =
    IfErr-weaker c.write_opened.result _ _
    (no_length MAX_CAPACITY c.args.records (records_in c.args.json (g.I.Read.remaining c.args.reader))) c.write_opened.ensures.input
