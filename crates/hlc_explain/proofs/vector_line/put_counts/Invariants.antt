use Rattle.std.proofs.Common.{◌≡◌, ◌++◌}
use Rattle.std.specs.Prelude.{slice_index}
use Rattle.hlc_explain.specs.VectorLine.{count_texts, joined, separator_after}
use Rattle.hlc_explain.proofs.vector_line.put_counts.Given as goal

-- the nodes before this one have their numbers
abbrev pub invariant-loop-node : goal.invariant-loop-node
invariant-loop-node g l = record {
  text : l.text.items ≡ l.fn.text.items ++ joined (count_texts (g.N.NodeTexts.text_of l.nodes) (slice_index l.vector) l.node);
  separator : l.separator ≡ separator_after (count_texts (g.N.NodeTexts.text_of l.nodes) (slice_index l.vector) l.node);
}
