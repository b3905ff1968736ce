use Rattle.std.proofs.Common.{◌≡◌, ◌∙◌, refl, ℕ, ◌-◌, ◌<◌, ◌≤◌, All, Bool, List, Option, ap, arith, length, subst, sym}
use Rattle.std.specs.Io.KnownBytes.{Appends}
use Rattle.std.specs.Prelude.{IsErrOf, OnOk}
use Rattle.hlc_figures.proofs.EventRows.{event_rows_are}
use Rattle.hlc_figures.specs.Rows.{event_rows}
use Rattle.hlc_diagram.specs.declared.draw_fault.DrawFault.TheVariants.{NoEvent}
use Rattle.hlc_causality.specs.Neighbours.{place_of}
use Rattle.hlc_stamp.specs.Ids.{places_of}
use Rattle.hlc_stamp.specs.declared.id.EventId.{EventId}
use Rattle.hlc_figures.specs.Chosen.{AreMarks, chosen, first_past}
use Rattle.hlc_figures.specs.Columns.{AreColumnsOf, places_from}
use Rattle.hlc_diagram.specs.Layout.{end_of, first_of, frame_of, frame_on, lanes_in}
use Rattle.hlc_figures.specs.Content.{Content, clock_events_of}
use Rattle.hlc_figures.specs.Figure.{next_of}
use Rattle.hlc_diagram.specs.Picture.{picture_in, picture_text, picture_with}
use Rattle.hlc_diagram.specs.Failed.{failed_in}
use Rattle.hlc_diagram.specs.declared.failed.Failed.{Failed}
use Rattle.hlc_diagram.specs.declared.undelivered.Undelivered.{Undelivered}
use Rattle.hlc_figures.proofs.NodeLanes.{lanes_exist}
use Rattle.hlc_svg.specs.declared.frame.Frame.{Frame}
use Rattle.hlc_diagram.specs.declared.view.View.{View}
use Rattle.hlc_diagram.proofs.drawing.draw_with.Goals as goal

-- the events of a view exist
frame_exists : (of : Content) (view : View) (frame : Frame) → frame ≡ frame_of of view → frame.end ≤ length of.events
frame_exists of view frame is = subst (λ (f : Frame). f.end ≤ length of.events) (sym is) (omega arith)

-- what is lent of a list and of marks says what they say
marks_shown :
    (of : Content) (explained : Option EventId) (frame : Frame) (list lent : List EventId) (marks shown : List Bool) →
    places_of list ≡ chosen (clock_events_of of) of.stamps explained → lent ≡ list → shown ≡ marks → AreMarks (places_of lent) frame marks →
    AreMarks (chosen (clock_events_of of) of.stamps explained) frame shown
marks_shown of explained frame list lent marks shown is same are marked =
    let listed = ap (λ (list : List EventId). places_of list) same ∙ is in
    subst (λ (marks : List Bool). AreMarks (chosen (clock_events_of of) of.stamps explained) frame marks) (sym are)
    (subst (λ (places : List ℕ). AreMarks places frame marks) listed marked)

next_known :
    (of : Content) (explained : Option EventId) (frame : Frame) (list lent : List EventId) (next : Option ℕ) →
    places_of list ≡ chosen (clock_events_of of) of.stamps explained → lent ≡ list → next ≡ first_past (places_of lent) frame →
    next ≡ next_of of explained frame
next_known of explained frame list lent next is same first =
    let listed = ap (λ (list : List EventId). places_of list) same ∙ is in
    first ∙ ap (λ (places : List ℕ). first_past places frame) listed

pub draw_scene-requires-clause-scene : goal.draw_scene-requires-clause-scene
draw_scene-requires-clause-scene g c =
    let of = g.S.Subject.content c.args.subject.now in
    let frame = c.in_ok-layout.layout.frame in
    let lanes_are = c.in_ok-layout.ensures.lanes ∙ c.in_ok-lanes.ensures in
    let is = c.in_ok-layout.ensures.frame ∙ ap (λ (lanes : List ℕ). frame_on of c.args.view lanes) c.in_ok-lanes.ensures in
    let exist = frame_exists of c.args.view frame is in
    record {
      rows = event_rows_are of _ (record {
        exist = exist;
        marks = marks_shown of c.args.view.explained frame c.in_ok-list.list.items c.deref.result.now c.in_ok-marks.marks.items c.deref-2.result.now
            c.in_ok-list.ensures.chosen c.deref.ensures.value c.deref-2.ensures.value c.in_ok-marks.ensures;
        next = next_known of c.args.view.explained frame c.in_ok-list.list.items c.deref-3.result.now (place_of c.first_past.result)
            c.in_ok-list.ensures.chosen c.deref-3.ensures.value c.first_past.ensures;
      });
      exist = exist;
      columns = subst (λ (xs : List ℕ). AreColumnsOf of frame xs) (sym c.deref-4.ensures.value) c.in_ok-layout.ensures.columns;
      lanes = subst (λ (lanes : List ℕ). All (λ node. node < of.nodes) lanes) (sym lanes_are)
          (lanes_exist of (places_from (first_of of c.args.view) (end_of of c.args.view - first_of of c.args.view)));
    }

pub draw_scene-requires-clause-list : goal.draw_scene-requires-clause-list
draw_scene-requires-clause-list g c = ap (λ (list : List EventId). places_of list) c.deref-5.ensures.value ∙ c.in_ok-list.ensures.chosen

-- a frame and lanes that are those of a view make its picture
drawn_on :
    (of : Content) (view : View) (frame : Frame) (lanes : List ℕ) (undelivered : List Undelivered) (kept lent : List Failed) → frame ≡ frame_of of view →
    lanes ≡ lanes_in of view → lent ≡ kept → kept ≡ failed_in undelivered →
    picture_text (picture_in of frame lanes view.explained (event_rows frame.first frame.end) lent) ≡ picture_text (picture_with of view undelivered)
drawn_on of view frame lanes undelivered kept lent is are same once = rw (same, once, is, are) refl

pub returns : goal.returns
returns g c =
    let of = g.S.Subject.content c.args.subject.now in
    let w0 = g.W.Write.contents c.args.writer.now in
    let w1 = g.W.Write.contents c.draw_scene.new.writer in
    let drawn = c.draw_scene.ensures in
    let lanes_are = c.in_ok-layout.ensures.lanes ∙ c.in_ok-lanes.ensures in
    let is = c.in_ok-layout.ensures.frame ∙ ap (λ (lanes : List ℕ). frame_on of c.args.view lanes) c.in_ok-lanes.ensures in
    let text = drawn_on of c.args.view c.in_ok-layout.layout.frame _ c.args.undelivered.now
    c.in_ok-messages.messages.items c.deref-6.result.now is lanes_are c.deref-6.ensures.value c.in_ok-messages.ensures in
    record {
      drawn = subst (λ (t : List ℕ). OnOk c.draw_scene.result (Appends w0 w1 t)) text drawn.drawn;
      drawn_without = subst (λ (t : List ℕ). IsErrOf c.draw_scene.result NoEvent → Appends w0 w1 t) text drawn.drawn_without;
      no_event = drawn.no_event;
      event = drawn.event;
    }
