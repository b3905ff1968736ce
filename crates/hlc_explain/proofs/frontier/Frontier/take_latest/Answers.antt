use Rattle.std.proofs.Common.{◌≡◌, ◌≢◌, ℕ, ◌+◌, ◌-◌, ◌<◌, List, length, get_or, set, get_or-set_other, get_or-set_same, length-set, arith, refl, subst}
use Rattle.std.proofs.lemmas.Bool.{false≢true}
use Rattle.hlc_causality.specs.Causality.{Skeleton, skeleton_at}
use Rattle.hlc_explain.specs.Frontier.{AreEnds, last_of}
use Rattle.hlc_explain.proofs.Frontiers.{behind_is_earlier, behind_taken, ends_taken, taken_is_latest}
use Rattle.hlc_explain.proofs.KeptEvents.{node_kept}
use Rattle.hlc_explain.proofs.frontier.Frontier.take_latest.Goals as goal

pub returns-then-self-eq0-clause-rest : goal.returns-then-self-eq0-clause-rest
returns-then-self-eq0-clause-rest c e =
    let s = c.args.execution.now.events in
    let ends : List ℕ = c.args.ends.now in
    let none = c.if-self-eq0.true in
    let last = c.requires.frontier.last_end in
    (λ h. let lt = behind_is_earlier s ends e h in absurd (omega arith), λ h. absurd (false≢true h.0))

-- the last event within is made the latest
module _ (c : goal.After-self-3-1) where
  abbrev s : Skeleton
  s = c.args.execution.now.events

  abbrev ends : List ℕ
  ends = c.args.ends.now

  abbrev n : ℕ
  n = c.unwrap.result.node.0

  abbrev new : List ℕ
  new = set ends n 0

  abbrev m : ℕ
  m = c.args.self.now.last_end - 1

  last : last_of ends ≡ m + 1
  last = let some = c.if-self-eq0.false in let is = c.requires.frontier.last_end in omega arith

  at_node : (skeleton_at s m).node ≡ n
  at_node = node_kept s m c.get.result c.unwrap.result c.unwrap.ensures c.get.ensures.event

  exists : m < length s
  exists =
      let some = c.if-self-eq0.false in
      let frontier = c.requires.frontier in
      let to = frontier.exists in
      let le = frontier.latest in
      omega arith

  has_end : n < length ends
  has_end = subst (λ (node : ℕ). node < length ends) at_node (c.requires.frontier.has_end m exists)

  others : (k : ℕ) → k ≢ n → get_or new k 0 ≡ get_or ends k 0
  others k other = get_or-set_other ends n k 0 0 other

  none : get_or new n 0 ≡ 0
  none = get_or-set_same ends n 0 0 has_end

pub returns-clause-rest : goal.returns-clause-rest
returns-clause-rest c e =
    let behind = behind_taken (s c) (ends c) (new c) (n c) (others c) (m c) c.requires.frontier.are_ends (last c) (at_node c) (none c) e in
    (λ h. (refl, behind.0 h), λ h. behind.1 h.1)

pub returns-clause-frontier : goal.returns-clause-frontier
returns-clause-frontier c =
    let frontier = c.requires.frontier in
    let are_ends : AreEnds (s c) (new c) =
    ends_taken (s c) (ends c) (new c) (n c) (others c) (m c) frontier.are_ends (last c) (at_node c) (none c) in
    let le = taken_is_latest (s c) (ends c) (new c) (n c) (others c) (m c) frontier.are_ends (last c) (at_node c) (none c) in
    let some = c.if-self-eq0.false in
    let size = length-set (ends c) (n c) 0 in
    record {
      has_end = λ e there. let lt = frontier.has_end e there in omega arith;
      exists = exists c;
      at_node = at_node c;
      are_ends = are_ends;
      last_end = c.greatest-self.ensures;
      latest = omega arith;
    }
