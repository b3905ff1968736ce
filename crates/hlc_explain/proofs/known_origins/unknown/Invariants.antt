use Rattle.std.proofs.Common.{◌≡◌, ℕ, length, vec_capacity}
use Rattle.hlc_explain.specs.KnownOrigins.{known_at}
use Rattle.hlc_explain.proofs.known_origins.unknown.Given as goal

-- each mark so far is its own event, and there is room for all
abbrev pub invariant-loop-place : goal.invariant-loop-place
invariant-loop-place l = record {
  own : (e : ℕ) → known_at l.origins.items e ≡ e;
  filled : length l.origins.items ≡ l.place;
  room : vec_capacity l.origins ≡ l.fn.end.0;
}
