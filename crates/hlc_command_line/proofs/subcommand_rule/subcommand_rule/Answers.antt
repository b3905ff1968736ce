use Rattle.std.proofs.Common.{refl}
use Rattle.hlc_command_line.proofs.subcommand_rule.subcommand_rule.Goals as goal

pub returns-in-Run : goal.returns-in-Run
returns-in-Run c = rw c.in-Run.is refl

pub returns-in-Draw : goal.returns-in-Draw
returns-in-Draw c = rw c.in-Draw.is refl

pub returns-in-Trace : goal.returns-in-Trace
returns-in-Trace c = rw c.in-Trace.is refl

pub returns-in-Judge : goal.returns-in-Judge
returns-in-Judge c = rw c.in-Judge.is refl

pub returns-in-Audit : goal.returns-in-Audit
returns-in-Audit c = rw c.in-Audit.is refl

pub returns-in-Watch : goal.returns-in-Watch
returns-in-Watch c = rw c.in-Watch.is refl

pub returns-in-DrawLog : goal.returns-in-DrawLog
returns-in-DrawLog c = rw c.in-DrawLog.is refl

pub returns-in-Vectors : goal.returns-in-Vectors
returns-in-Vectors c = rw c.in-Vectors.is refl

pub returns-in-Storm : goal.returns-in-Storm
returns-in-Storm c = rw c.in-Storm.is refl

pub returns-in-Threads : goal.returns-in-Threads
returns-in-Threads c = rw c.in-Threads.is refl
