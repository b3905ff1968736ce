use Rattle.std.proofs.Common.{inr}
use Rattle.hlc_arena.specs.Arena.{history_of}
use Rattle.hlc_command_line.proofs.Faults.{if_err_is, output_read}
use Rattle.hlc_script_commands.proofs.traced_script.trace_script.Goals as goal

pub returns-clause-done : goal.returns-clause-done
returns-clause-done g c = record {
  history = history_of c.in_ok-history.history;
  script = c.in_ok-history.ensures.left;
  text = c.in_ok-write_trace.ensures;
}

pub returns-in_err-write_trace-clause-untold : goal.returns-in_err-write_trace-clause-untold
returns-in_err-write_trace-clause-untold g c =
    let gives = c.from_residual-in_err-write_trace in
    if_err_is gives.result _ _ gives.ensures.1 (λ told. told)

pub returns-in_err-write_trace-clause-unread : goal.returns-in_err-write_trace-clause-unread
returns-in_err-write_trace-clause-unread g c =
    let gives = c.from_residual-in_err-write_trace in
    if_err_is gives.result _ _ gives.ensures.1 (λ input. absurd (output_read c.in_err-write_trace.field-0.0 input))

pub returns-in_err-write_trace-clause-begun : goal.returns-in_err-write_trace-clause-begun
returns-in_err-write_trace-clause-begun g c = inr (history_of c.in_ok-history.history, c.in_ok-history.ensures.left)

pub returns-clause-begun : goal.returns-clause-begun
returns-clause-begun g c = inr (history_of c.in_ok-history.history, c.in_ok-history.ensures.left)
