use Rattle.std.proofs.Common.{inl, inr, arith, ap}
use Rattle.std.proofs.lemmas.Bool.{cases_lt}
use Rattle.hlc_stamp.specs.declared.id.NodeId.{NodeId}
use Rattle.hlc_log.proofs.GivenTurns.{same_node}
use Rattle.hlc_log.proofs.turns.Turns.new.Goals as goal

pub loop-node-init : goal.loop-node-init
loop-node-init c node = (
  λ has. elim has [
    | inl now ↦ let lt = now.1 in absurd (omega arith)
    | inr later ↦ let lt = later.1 in absurd (omega arith)
  ],
  λ lt. absurd (omega arith),
)

pub loop-node-preserved : goal.loop-node-preserved
loop-node-preserved c node =
    let before = c.loop-node.invariant node in
    let given = c.in_ok-give.ensures node in (
      λ has. elim (given.0 has) [
        | inl had ↦ let lt = before.0 had in omega arith
        | inr same ↦ let is = ap (λ (n : NodeId). n.0) same in omega arith
      ],
      λ lt. given.1 (elim (cases_lt node.0 c.loop-node.node) [
        | inl earlier ↦ inl (before.1 earlier)
        | inr later ↦ inr (same_node _ node (omega arith))
      ]),
    )

pub returns : goal.returns
returns c node =
    let all = c.loop-node.invariant node in
    let end = c.loop-node-test.false in
    let most = c.loop-node.auto.node-end in
    (λ has. let lt = all.0 has in omega arith, λ lt. all.1 (omega arith))
