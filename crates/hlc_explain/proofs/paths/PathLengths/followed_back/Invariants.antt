use Rattle.std.proofs.Common.{◌≡◌, ◌+◌, ◌≤◌, List, ℕ, ◌∷◌, reverse, vec_capacity, vec_len}
use Rattle.hlc_stamp.specs.declared.id.EventId.{EventId}
use Rattle.hlc_explain.proofs.PathLengths.{IsFollowedBack}
use Rattle.hlc_explain.proofs.paths.PathLengths.followed_back.Given as goal

-- so far the list has, from its end, the last events of the path, and there is room for those that are left
abbrev pub invariant-loop-step : goal.invariant-loop-step
invariant-loop-step l = record {
  within : l.at.0 ≤ l.fn.last.0;
  kept : vec_len l.path ≡ l._step;
  room : l.length ≤ vec_capacity l.path;
  back : (left : ℕ) × (rest : List EventId) × (l._step + left ≡ l.length) × (reverse l.path.items ≡ l.at ∷ rest)
      × IsFollowedBack l.execution.events l.self.first.0 l.fn.last.0 l.at.0 left rest;
}
