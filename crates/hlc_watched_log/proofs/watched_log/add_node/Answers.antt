use Rattle.std.proofs.Common.{◌≡◌, ◌∙◌, ap, arith, length, length-append, sym}
use Rattle.hlc_watched_log.proofs.NameNumbers.{known_name, new_name}
use Rattle.hlc_watched_log.proofs.watched_log.add_node.Goals as goal

pub returns-in_ok-push-clause-one_each : goal.returns-in_ok-push-clause-one_each
returns-in_ok-push-clause-one_each c =
    let nodes = c.args.nodes.now in
    let number : c.args.number ≡ length nodes = omega (arith, c.if-number-len.true, c.requires.one_each, c.len.ensures) in
    let names = ap length (c.in_ok-mention.ensures.names ∙ new_name nodes c.args.name.now (sym c.requires.number ∙ number)) in
    let tallies = ap length c.in_ok-push.ensures.items in
    grind (arith, length-append)

pub returns-else-number-len-clause-names : goal.returns-else-number-len-clause-names
returns-else-number-len-clause-names c =
    let number = c.requires.number in
    sym (known_name c.args.nodes.now c.args.name.now (λ is. omega (arith, is, number, c.if-number-len.false, c.requires.one_each, c.len.ensures)))
