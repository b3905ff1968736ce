use Rattle.std.proofs.Common.{◌≡◌, ◌*◌}
use Rattle.hlc_core.specs.Timed.{requests_in}
use Rattle.hlc_seeded.specs.Storm.{generator_of, word_at}
use Rattle.hlc_seeded.proofs.ScriptGrowth.{first_scripts}
use Rattle.hlc_seeded.proofs.Words.{on}
use Rattle.hlc_seeded.proofs.scripts.scripts.Given as goal

-- so far the scripts are those of so many nodes, and for each of their steps two words were drawn
abbrev pub invariant-loop-node : goal.invariant-loop-node
invariant-loop-node l = record {
  scripts : requests_in l.scripts.items ≡ first_scripts (word_at (generator_of l.seed)) l.nodes l.steps l.node;
  generator : l.generator ≡ on (2 * (l.node * l.steps)) (generator_of l.seed);
}
