use Rattle.std.proofs.Common.{◌≡◌, ◌∙◌, ℕ, ◌<◌, ◌≤◌, All, List, [], Some, refl, ap, arith, length, subst, sym}
use Rattle.std.specs.Io.KnownBytes.{Appends}
use Rattle.std.specs.Prelude.{IsErrOf, OnOk}
use Rattle.hlc_diagram.specs.declared.draw_fault.DrawFault.TheVariants.{NoEvent}
use Rattle.hlc_stamp.specs.Ids.{places_of}
use Rattle.hlc_stamp.specs.declared.id.EventId.{EventId}
use Rattle.hlc_diagram.specs.ChainPicture.{chain_picture_of, frame_around}
use Rattle.hlc_diagram.specs.Picture.{picture_in, picture_text}
use Rattle.hlc_figures.specs.ChainRows.{rows_of}
use Rattle.hlc_figures.specs.Chosen.{chosen}
use Rattle.hlc_figures.specs.Columns.{AreColumnsOf}
use Rattle.hlc_figures.specs.Content.{Content, clock_events_of}
use Rattle.hlc_figures.specs.declared.rows.Row.{Row}
use Rattle.hlc_svg.specs.declared.frame.Frame.{Frame}
use Rattle.hlc_figures.specs.Lanes.{lanes_of}
use Rattle.hlc_figures.proofs.NodeLanes.{lanes_exist}
use Rattle.hlc_figures.proofs.Chains.{chosen_all_exist, listed_rises, listed_rows_exist, listed_rows_fit}
use Rattle.hlc_diagram.proofs.chain_drawing.draw_chain.Goals as goal

pub chain_rows-requires : goal.chain_rows-requires
chain_rows-requires g c =
    let listed = ap (λ (list : List EventId). places_of list) c.deref.ensures.value ∙ c.in_ok-list.ensures.chosen in
    listed_rises (g.S.Subject.content c.args.subject.now) (Some c.args.event) c.deref.result.now listed

pub count_rows-requires : goal.count_rows-requires
count_rows-requires g c =
    let listed = ap (λ (list : List EventId). places_of list) c.deref.ensures.value ∙ c.in_ok-list.ensures.chosen in
    listed_rows_fit (g.S.Subject.content c.args.subject.now) (Some c.args.event) c.deref.result.now c.deref-3.result.now listed
    (c.deref-3.ensures.value ∙ c.in_ok-rows.ensures)

pub lay_out_chain-requires-clause-rows : goal.lay_out_chain-requires-clause-rows
lay_out_chain-requires-clause-rows g c =
    let lent = c.deref.ensures.value ∙ sym c.deref-2.ensures.value in
    let are = c.deref-3.ensures.value ∙ c.in_ok-rows.ensures ∙ ap (λ (list : List EventId). rows_of (places_of list)) lent in
    c.count_rows.ensures ∙ ap (λ (rows : List Row). length rows) are

pub lay_out_chain-requires-clause-exist : goal.lay_out_chain-requires-clause-exist
lay_out_chain-requires-clause-exist g c =
    let of = g.S.Subject.content c.args.subject.now in
    let listed = ap (λ (list : List EventId). places_of list) c.deref-2.ensures.value ∙ c.in_ok-list.ensures.chosen in
    subst (λ (places : List ℕ). All (λ e. e < length of.events) places) (sym listed) (chosen_all_exist of (Some c.args.event))

-- the events of a frame exist
frame_exists : (of : Content) (e : EventId) (chain : List ℕ) (frame : Frame) → frame ≡ frame_around of e chain → frame.end ≤ length of.events
frame_exists of e chain frame is = subst (λ (f : Frame). f.end ≤ length of.events) (sym is) (omega arith)

-- rows that are those of the chain, around it, make its picture
chain_drawn :
    (of : Content) (e : EventId) (chain : List ℕ) (frame : Frame) (lanes : List ℕ) (rows : List Row) →
    chain ≡ chosen (clock_events_of of) of.stamps (Some e) → frame ≡ frame_around of e chain → lanes ≡ lanes_of of chain → rows ≡ rows_of chain →
    picture_text (picture_in of frame lanes (Some e) rows []) ≡ picture_text (chain_picture_of of e)
chain_drawn of e chain frame lanes rows is around on are = rw (around, on, are, is) refl

pub draw_scene-requires-clause-scene : goal.draw_scene-requires-clause-scene
draw_scene-requires-clause-scene g c =
    let of = g.S.Subject.content c.args.subject.now in
    let frame = c.in_ok-layout.layout.frame in
    let listed = ap (λ (list : List EventId). places_of list) c.deref.ensures.value ∙ c.in_ok-list.ensures.chosen in
    record {
      rows = listed_rows_exist of _ (Some c.args.event) c.deref.result.now c.in_ok-rows.rows.items listed c.in_ok-rows.ensures;
      exist = frame_exists of c.args.event (places_of c.deref-2.result.now) frame c.in_ok-layout.ensures.frame;
      columns = subst (λ (xs : List ℕ). AreColumnsOf of frame xs) (sym c.deref-4.ensures.value) c.in_ok-layout.ensures.columns;
      lanes = subst (λ (lanes : List ℕ). All (λ node. node < of.nodes) lanes) (sym c.in_ok-layout.ensures.lanes)
          (lanes_exist of (places_of c.deref-2.result.now));
    }

pub draw_scene-requires-clause-list : goal.draw_scene-requires-clause-list
draw_scene-requires-clause-list g c = ap (λ (list : List EventId). places_of list) c.deref-5.ensures.value ∙ c.in_ok-list.ensures.chosen

pub returns : goal.returns
returns g c =
    let of = g.S.Subject.content c.args.subject.now in
    let w0 = g.W.Write.contents c.args.writer.now in
    let w1 = g.W.Write.contents c.draw_scene.new.writer in
    let drawn = c.draw_scene.ensures in
    let listed = c.in_ok-list.ensures.chosen in
    let around = c.in_ok-layout.ensures.frame ∙ ap (λ (list : List EventId). frame_around of c.args.event (places_of list)) c.deref-2.ensures.value in
    let on = c.in_ok-layout.ensures.lanes ∙ ap (λ (list : List EventId). lanes_of of (places_of list)) c.deref-2.ensures.value in
    let are = c.in_ok-rows.ensures ∙ ap (λ (list : List EventId). rows_of (places_of list)) c.deref.ensures.value in
    let text = chain_drawn of c.args.event (places_of c.in_ok-list.list.items) c.in_ok-layout.layout.frame _ c.in_ok-rows.rows.items listed around on are in
    record {
      drawn = subst (λ (t : List ℕ). OnOk c.draw_scene.result (Appends w0 w1 t)) text drawn.drawn;
      drawn_without = subst (λ (t : List ℕ). IsErrOf c.draw_scene.result NoEvent → Appends w0 w1 t) text drawn.drawn_without;
      no_event = drawn.no_event;
      event = drawn.event;
    }
