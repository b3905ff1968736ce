use Rattle.std.proofs.Common.{◌≡◌, take}
use Rattle.hlc_explain.specs.Frontier.{last_of}
use Rattle.hlc_explain.proofs.frontier.greatest.Given as goal

abbrev pub invariant-loop-end : goal.invariant-loop-end
invariant-loop-end l = l.greatest ≡ last_of (take l.end-index l.ends)
