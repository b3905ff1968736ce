use Rattle.std.proofs.Common.{◌≡◌, ◌∙◌, ap, subst, sym, ⊎_elim}
use Rattle.std.specs.Prelude.{IfErr, IfOk}
use Rattle.clap.specs.Faults.{fault_of, is_simple_and_free}
use Rattle.clap.specs.Kinds.{IsAmong}
use Rattle.clap.specs.Simple.{App}
use Rattle.clap.specs.Takes.{takes}
use Rattle.clap.specs.Values.{kind_of}
use Rattle.clap.specs.Walk.{texts}
use Rattle.clap.specs.declared.error.kind.ErrorKind.TheVariants.{OutOfMemory}
use Rattle.hlc_command_line.specs.Line.{IsEntered, IsOrderFound, IsRefusedFound, line_app}
use Rattle.hlc_command_line.proofs.LineFacts.{found_rows, if_err, line_enters, line_is_free, mistake_refuses, none_wrong, not_true, on_ok}
use Rattle.hlc_command_line.proofs.line.matched.Goals as goal

pub entered-requires : goal.entered-requires
entered-requires c =
    let arguments = texts c.args.arguments.now in
    let parse = c.in-Ok-try_get_matches_from.ensures in
    subst IsEntered (sym (found_rows _ arguments c.in-Ok.ensures.0 _ parse.matches))
    (line_enters arguments (none_wrong _ arguments c.in-Ok.ensures.0 parse.kinds))

pub returns-in-Ok-try_get_matches_from-clause-accepted : goal.returns-in-Ok-try_get_matches_from-clause-accepted
returns-in-Ok-try_get_matches_from-clause-accepted c =
    on_ok c.entered.result (none_wrong _ (texts c.args.arguments.now) c.in-Ok.ensures.0 c.in-Ok-try_get_matches_from.ensures.kinds)

pub returns-in-Ok-try_get_matches_from-clause-refused : goal.returns-in-Ok-try_get_matches_from-clause-refused
returns-in-Ok-try_get_matches_from-clause-refused c =
    let arguments = texts c.args.arguments.now in
    let parse = c.in-Ok-try_get_matches_from.ensures in
    if_err c.entered.result
    (subst (λ f. IfErr c.entered.result (IsRefusedFound f)) (found_rows _ arguments c.in-Ok.ensures.0 _ parse.matches) c.entered.ensures.mistaken)
    (mistake_refuses arguments (none_wrong _ arguments c.in-Ok.ensures.0 parse.kinds))

pub returns-in-Ok-try_get_matches_from-clause-found : goal.returns-in-Ok-try_get_matches_from-clause-found
returns-in-Ok-try_get_matches_from-clause-found c =
    subst (λ f. IfOk c.entered.result (IsOrderFound f))
    (found_rows _ (texts c.args.arguments.now) c.in-Ok.ensures.0 _ c.in-Ok-try_get_matches_from.ensures.matches) c.entered.ensures.found

pub returns-in_default-kind-clause-refused : goal.returns-in_default-kind-clause-refused
returns-in_default-kind-clause-refused c =
    let arguments = texts c.args.arguments.now in
    let no_memory : kind_of c.in-Err.e ≡ OutOfMemory → ⊥ = λ kind. c.in_default-kind.not-OutOfMemory (c.kind.ensures ∙ kind) in (
      not_true (takes line_app arguments) (λ h. no_memory (c.in-Err.ensures.passes (ap (λ (a : App). takes a arguments) c.in-Ok.ensures.0 ∙ h))),
      subst (IsAmong (kind_of c.in-Err.e)) (ap (λ (a : App). fault_of a arguments) c.in-Ok.ensures.0)
          (⊎_elim (λ memory. absurd (no_memory memory)) (λ among. among) (c.in-Err.ensures.kinds (ap is_simple_and_free c.in-Ok.ensures.0 ∙ line_is_free))),
    )
