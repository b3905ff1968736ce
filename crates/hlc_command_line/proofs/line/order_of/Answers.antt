use Rattle.std.proofs.Common.{subst, sym}
use Rattle.std.specs.Prelude.{IfErr, IfOk}
use Rattle.clap.specs.Words.{Text, found_of, rows_of}
use Rattle.hlc_command_line.specs.Line.{HasOptions, IsMistakeOf, IsOrderOf, UnlessMemory, subcommands}
use Rattle.hlc_command_line.proofs.App.Subcommands.{no_other}
use Rattle.hlc_command_line.proofs.AskedFacts.{mistaken_audit}
use Rattle.hlc_command_line.proofs.LineFacts.{if_err}
use Rattle.hlc_command_line.proofs.line.order_of.Goals as goal

pub settings-requires : goal.settings-requires
settings-requires c =
    let has = subst (λ (n : Text). HasOptions n (rows_of (found_of c.args.options.now))) c.in-run.is c.requires in has

pub draw_order-requires : goal.draw_order-requires
draw_order-requires c =
    let has = subst (λ (n : Text). HasOptions n (rows_of (found_of c.args.options.now))) c.in-draw.is c.requires in has

pub settings-requires-in-trace : goal.settings-requires-in-trace
settings-requires-in-trace c =
    let has = subst (λ (n : Text). HasOptions n (rows_of (found_of c.args.options.now))) c.in-trace.is c.requires in (has.0, (has.1.0, (has.1.1.0, tt)))

pub flag-requires : goal.flag-requires
flag-requires c =
    let has = subst (λ (n : Text). HasOptions n (rows_of (found_of c.args.options.now))) c.in-trace.is c.requires in has.1.1.1.0

pub audit_order-requires : goal.audit_order-requires
audit_order-requires c =
    let has = subst (λ (n : Text). HasOptions n (rows_of (found_of c.args.options.now))) c.in-audit.is c.requires in has

pub watch_order-requires : goal.watch_order-requires
watch_order-requires c =
    let has = subst (λ (n : Text). HasOptions n (rows_of (found_of c.args.options.now))) c.in-watch.is c.requires in has

pub draw_log_order-requires : goal.draw_log_order-requires
draw_log_order-requires c =
    let has = subst (λ (n : Text). HasOptions n (rows_of (found_of c.args.options.now))) c.in-text.is c.requires in has

pub vectors_order-requires : goal.vectors_order-requires
vectors_order-requires c =
    let has = subst (λ (n : Text). HasOptions n (rows_of (found_of c.args.options.now))) c.in-vectors.is c.requires in has

pub seeded_numbers-nodes-requires : goal.seeded_numbers-nodes-requires
seeded_numbers-nodes-requires c =
    let has = subst (λ (n : Text). HasOptions n (rows_of (found_of c.args.options.now))) c.in-storm.is c.requires in has

pub seeded_numbers-nodes-requires-in-threads : goal.seeded_numbers-nodes-requires-in-threads
seeded_numbers-nodes-requires-in-threads c =
    let has = subst (λ (n : Text). HasOptions n (rows_of (found_of c.args.options.now))) c.in-threads.is c.requires in (has.0, (has.1.0, (has.1.1.0, tt)))

pub drift_limit-limit-requires : goal.drift_limit-limit-requires
drift_limit-limit-requires c =
    let has = subst (λ (n : Text). HasOptions n (rows_of (found_of c.args.options.now))) c.in-threads.is c.requires in has.1.1.1.0

pub returns-in-draw-clause-found : goal.returns-in-draw-clause-found
returns-in-draw-clause-found c =
    subst (λ (n : Text). IfOk c.draw_order.result (IsOrderOf n (rows_of (found_of c.args.options.now)))) (sym c.in-draw.is) c.draw_order.ensures.found

pub returns-in-draw-clause-mistaken : goal.returns-in-draw-clause-mistaken
returns-in-draw-clause-mistaken c =
    subst (λ (n : Text). IfErr c.draw_order.result (UnlessMemory (IsMistakeOf n (rows_of (found_of c.args.options.now))))) (sym c.in-draw.is)
    c.draw_order.ensures.mistaken

pub returns-in-text-clause-found : goal.returns-in-text-clause-found
returns-in-text-clause-found c =
    subst (λ (n : Text). IfOk c.draw_log_order.result (IsOrderOf n (rows_of (found_of c.args.options.now)))) (sym c.in-text.is) c.draw_log_order.ensures.found

pub returns-in-text-clause-mistaken : goal.returns-in-text-clause-mistaken
returns-in-text-clause-mistaken c =
    subst (λ (n : Text). IfErr c.draw_log_order.result (UnlessMemory (IsMistakeOf n (rows_of (found_of c.args.options.now))))) (sym c.in-text.is)
    c.draw_log_order.ensures.mistaken

pub returns-in-watch-clause-found : goal.returns-in-watch-clause-found
returns-in-watch-clause-found c =
    subst (λ (n : Text). IfOk c.watch_order.result (IsOrderOf n (rows_of (found_of c.args.options.now)))) (sym c.in-watch.is)
    c.watch_order.ensures.found

pub returns-in-watch-clause-mistaken : goal.returns-in-watch-clause-mistaken
returns-in-watch-clause-mistaken c =
    subst (λ (n : Text). IfErr c.watch_order.result (UnlessMemory (IsMistakeOf n (rows_of (found_of c.args.options.now))))) (sym c.in-watch.is)
    c.watch_order.ensures.mistaken

pub returns-in-vectors-clause-found : goal.returns-in-vectors-clause-found
returns-in-vectors-clause-found c =
    subst (λ (n : Text). IfOk c.vectors_order.result (IsOrderOf n (rows_of (found_of c.args.options.now)))) (sym c.in-vectors.is)
    c.vectors_order.ensures.found

pub returns-in-vectors-clause-mistaken : goal.returns-in-vectors-clause-mistaken
returns-in-vectors-clause-mistaken c =
    subst (λ (n : Text). IfErr c.vectors_order.result (UnlessMemory (IsMistakeOf n (rows_of (found_of c.args.options.now))))) (sym c.in-vectors.is)
    c.vectors_order.ensures.mistaken

pub returns-in-audit-clause-found : goal.returns-in-audit-clause-found
returns-in-audit-clause-found c =
    subst (λ (n : Text). IfOk c.audit_order.result (IsOrderOf n (rows_of (found_of c.args.options.now)))) (sym c.in-audit.is)
    c.audit_order.ensures.found

pub returns-in-audit-clause-mistaken : goal.returns-in-audit-clause-mistaken
returns-in-audit-clause-mistaken c =
    if_err c.audit_order.result c.audit_order.ensures.mistaken
    (λ f is. mistaken_audit (rows_of (found_of c.args.options.now)) c.args.name.now f c.in-audit.is is)

pub returns-in-trace-clause-found : goal.returns-in-trace-clause-found
returns-in-trace-clause-found c = (c.in-trace.is, c.settings-in-trace.ensures, c.flag.ensures)

pub returns-in-threads-clause-found : goal.returns-in-threads-clause-found
returns-in-threads-clause-found c = (c.in-threads.is, c.seeded_numbers-nodes-in-threads.ensures, c.drift_limit-limit.ensures)

pub returns-in-run-clause-found : goal.returns-in-run-clause-found
returns-in-run-clause-found c = (c.in-run.is, c.settings.ensures)

pub returns-in-storm-clause-found : goal.returns-in-storm-clause-found
returns-in-storm-clause-found c = (c.in-storm.is, c.seeded_numbers-nodes.ensures)

pub unreachable-requires : goal.unreachable-requires
unreachable-requires c =
    let d = c.in_default in
    no_other _ subcommands c.args.name.now c.requires
    (d.not-run, (d.not-draw, (d.not-trace, (d.not-judge, (d.not-audit, (d.not-watch, (d.not-text, (d.not-vectors, (d.not-storm, (d.not-threads, tt))))))))))
