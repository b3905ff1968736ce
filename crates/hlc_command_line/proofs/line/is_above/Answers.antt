use Rattle.std.proofs.lemmas.Bool.{lt-ltb, ltb-true}
use Rattle.hlc_command_line.proofs.line.is_above.Goals as goal

pub returns-in-Some-Some : goal.returns-in-Some-Some
returns-in-Some-Some c =
    rw c.in-Some-Some.is-0 (rw c.in-Some-Some.is-1
    (ltb-true c.in-Some-Some.to.0 c.in-Some-Some.from.0, lt-ltb c.in-Some-Some.to.0 c.in-Some-Some.from.0))
