use Rattle.std.proofs.Common.{◌≡◌, ◌∙◌, ◌<◌, ◌++◌, ℕ, List, ap, arith, length}
use Rattle.std.proofs.lemmas.Result.{on_ok_weaker}
use Rattle.hlc_explain.specs.Vectors.{vector_in}
use Rattle.hlc_log.specs.CausalOrder.{place_at}
use Rattle.hlc_ordered_log.specs.InOrder.{LogInOrder, event_in_order, skeleton_of}
use Rattle.hlc_ordered_log.proofs.EventsInOrder.{length-skeleton_of}
use Rattle.hlc_log_picture.specs.LogVectors.{plain_label}
use Rattle.hlc_log_picture.specs.NodeText.{node_text}
use Rattle.hlc_log_picture.proofs.LinesAdded.{event_is_put}
use Rattle.hlc_log_picture.proofs.vector_log.put_event.Goals as goal
use Rattle.hlc_explain.specs.VectorLine.{vector_line}
use Rattle.hlc_explain.proofs.VectorLines.{vector_is, vectors_size}

pub vector-requires : goal.vector-requires
vector-requires c =
    let log = c.args.log.now.log in
    let whole = length-skeleton_of log c.ordered-ordered.ensures.open.ordered in
    let size : length c.args.vectors.now ≡ length (skeleton_of log) =
    ap (λ (vs : List (List ℕ)). length vs) c.requires.vectors ∙ vectors_size (skeleton_of log) log.nodes in
    omega (arith, c.requires.exists)

pub returns : goal.returns
returns c =
    let opened = c.args.log.now in
    let log = opened.log in
    let k = c.args.position.0 in
    let exists : k < length (skeleton_of log) = omega (arith, c.requires.exists, length-skeleton_of log c.ordered-ordered.ensures.open.ordered) in
    let event = c.event-event.ensures ∙ ap (λ (l : LogInOrder). event_in_order l.events l.order k) c.ordered-ordered.ensures.value in
    let vector =
    c.vector.ensures ∙ ap (λ (vs : List (List ℕ)). vector_in vs k) c.requires.vectors ∙ vector_is (skeleton_of log) log.nodes k exists in
    let names : node_text c.nodes.result.now ≡ node_text opened.nodes = ap node_text c.nodes.ensures.value in
    let at_node = λ (spelled : ℕ → List ℕ). spelled c.event-event.result.node.0 in
    let line =
    c.in_ok-put_vector_line.ensures
    ∙ ap (λ (spelled : ℕ → List ℕ). c.args.text.now.items ++ vector_line spelled c.event-event.result.node.0 c.vector.result.now) names in
    let node =
    c.as_slice.ensures.value ∙ c.in_ok-put_node.ensures ∙ ap (λ (t : List ℕ). t ++ at_node (node_text c.nodes.result.now)) c.clear.ensures.items
    ∙ ap at_node names in
    let place = c.place.ensures ∙ ap (λ (l : LogInOrder). place_at l.order k) c.ordered-ordered.ensures.value in
    let label = c.plain_label-label.ensures ∙ ap (plain_label opened.labels) place in
    on_ok_weaker c.put_row.result
    (event_is_put opened k c.files.result.now c.event-event.result c.vector.result.now _ _ c.args.text.now.items _ _ c.files.ensures event vector label node line) c.put_row.ensures
