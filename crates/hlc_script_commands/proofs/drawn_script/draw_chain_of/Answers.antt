use Rattle.std.proofs.Common.{Err, ap}
use Rattle.hlc_diagram.specs.declared.draw_fault.DrawFault.{DrawFault}
use Rattle.hlc_command_line.proofs.Faults.{draw_read, draw_told, if_err_is}
use Rattle.hlc_script_commands.proofs.drawn_script.draw_chain_of.Goals as goal

pub returns-in_err-draw_chain-clause-told : goal.returns-in_err-draw_chain-clause-told
returns-in_err-draw_chain-clause-told g c =
    if_err_is c.from_residual.result _ _ c.from_residual.ensures.1
    (draw_told _ _ c.in_err-draw_chain.field-0.0 (λ lacks. c.in_err-draw_chain.ensures.drawn_without (ap (λ (e : DrawFault). Err e) lacks))
    (λ lacks. c.in_err-draw_chain.ensures.no_event (ap (λ (e : DrawFault). Err e) lacks)))

pub returns-in_err-draw_chain-clause-read : goal.returns-in_err-draw_chain-clause-read
returns-in_err-draw_chain-clause-read g c =
    if_err_is c.from_residual.result _ _ c.from_residual.ensures.1 (draw_read c.in_err-draw_chain.field-0.0)
