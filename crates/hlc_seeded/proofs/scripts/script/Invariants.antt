use Rattle.std.proofs.Common.{◌≡◌, ◌*◌, map}
use Rattle.hlc_core.specs.Timed.{timed_request_of}
use Rattle.hlc_seeded.specs.Storm.{draw_of, script_of, word_at}
use Rattle.hlc_seeded.proofs.ScriptGrowth.{IsLatest}
use Rattle.hlc_seeded.proofs.Words.{on}
use Rattle.hlc_seeded.proofs.scripts.script.Given as goal

-- so far the script is that of so many steps, and for each of them two words were drawn
abbrev pub invariant-loop-step : goal.invariant-loop-step
invariant-loop-step l = record {
  list : map timed_request_of l.list.items ≡ script_of (draw_of (word_at l.fn.generator)) l.nodes l.step l.node;
  generator : l.generator ≡ on (2 * l.step) l.fn.generator;
  latest : IsLatest (draw_of (word_at l.fn.generator)) l.step l.latest;
}
