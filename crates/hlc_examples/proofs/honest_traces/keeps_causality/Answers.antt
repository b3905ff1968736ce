use Rattle.std.proofs.Common.{◌↔◌, IsTrue, rules}
use Rattle.std.specs.List.{All}
use Rattle.hlc_verdict.specs.VerdictLaws.{IsHonest}
use Rattle.hlc_examples.proofs.honest_traces.keeps_causality.Goals as goal

-- all verdicts are Least or Ahead if and only if the claimed stamps are allowed
pub returns : goal.returns
returns c =
    let honest : IsTrue c.all.result ↔ All IsHonest c.in_ok-verdicts.verdicts.items = search rules in
    let law = c.honest_verdicts.ensures.all c.args.trace.now c.in_ok-verdicts.verdicts.items c.in_ok-verdicts.ensures.verdicts in
    (λ all. law.0 (honest.0 all), λ allowed. honest.1 (law.1 allowed))
