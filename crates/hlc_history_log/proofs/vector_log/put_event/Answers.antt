use Rattle.std.proofs.Common.{◌≡◌, ◌∙◌, ◌<◌, ℕ, List, ap, arith, length}
use Rattle.std.proofs.lemmas.Result.{on_ok_weaker}
use Rattle.hlc_arena.specs.History.{causality_of}
use Rattle.hlc_arena.specs.Kinds.{stamped_event_of}
use Rattle.hlc_arena.proofs.Histories.{length_skeleton}
use Rattle.hlc_explain.specs.Vectors.{vector_in}
use Rattle.hlc_explain.specs.Plain.{if_plain}
use Rattle.hlc_explain.proofs.VectorLines.{vector_is, vectors_size}
use Rattle.hlc_history_log.proofs.VectorTexts.{event_is_put}
use Rattle.hlc_history_log.proofs.vector_log.put_event.Goals as goal

pub vector-requires : goal.vector-requires
vector-requires c =
    let events = c.args.history.now.events in
    let whole = length_skeleton events in
    let size : length c.args.vectors.now ≡ length (causality_of events) =
    ap (λ (vs : List (List ℕ)). length vs) c.requires.vectors ∙ vectors_size (causality_of events) c.args.history.now.nodes in
    omega (arith, c.requires.exists)

pub returns : goal.returns
returns c =
    let events = c.args.history.now.events in
    let e = c.args.event.0 in
    let exists : e < length (causality_of events) = omega (arith, c.requires.exists, length_skeleton events) in
    let record_is = rw c.unwrap-record.ensures at c.get.ensures.event in
    let vector =
    c.vector.ensures ∙ ap (λ (vs : List (List ℕ)). vector_in vs e) c.requires.vectors
    ∙ vector_is (causality_of events) c.args.history.now.nodes e exists in
    let label = c.plain.ensures ∙ ap if_plain (c.as_slice.ensures.value ∙ c.in_ok-put_label.ensures) in
    on_ok_weaker c.put_row.result
    (event_is_put c.args.history.now.nodes events e (stamped_event_of c.unwrap-record.result) c.vector.result.now _ c.args.text.now.items _ _
    record_is vector label c.in_ok-put_vector_line.ensures) c.put_row.ensures
