use Rattle.std.proofs.Common.{◌≡◌, ◌∙◌, ◌++◌, ℕ, append-nil, ap, arith, length, refl, sym}
use Rattle.std.specs.Prelude.{slice_index}
use Rattle.hlc_explain.specs.VectorLine.{count_texts, joined}
use Rattle.hlc_explain.proofs.VectorLines.{node_is_put, separator_is_next}
use Rattle.hlc_explain.proofs.vector_line.put_counts.Goals as goal

pub loop-node-init : goal.loop-node-init
loop-node-init g c = record { text = sym (append-nil c.args.text.now.items); separator = refl }

pub loop-node-preserved : goal.loop-node-preserved
loop-node-preserved g c =
    let spelled = g.N.NodeTexts.text_of c.args.nodes.now in
    let vector = slice_index c.args.vector.now in
    let before = c.loop-node.invariant in
    record {
      text = node_is_put spelled vector c.loop-node.node c.args.text.now.items _ _ _ before.separator before.text c.in_ok-separator.ensures.text;
      separator = separator_is_next spelled vector c.loop-node.node _ _ before.separator c.in_ok-separator.ensures.next;
    }

pub returns : goal.returns
returns g c =
    let spelled = g.N.NodeTexts.text_of c.args.nodes.now in
    let all : c.loop-node.node ≡ length c.args.vector.now = omega arith in
    c.loop-node.invariant.text
    ∙ ap (λ (n : ℕ). c.args.text.now.items ++ joined (count_texts spelled (slice_index c.args.vector.now) n)) all
