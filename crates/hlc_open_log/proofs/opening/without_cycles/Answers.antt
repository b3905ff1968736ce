use Rattle.std.proofs.Common.{List, ◌<◌, ◌∙◌, ap, length, map, refl, subst, sym}
use Rattle.std.specs.Prelude.{All}
use Rattle.hlc_stamp.specs.declared.id.EventId.{EventId}
use Rattle.hlc_stamp.specs.Ids.{places_of}
use Rattle.hlc_open_log.specs.Opened.{cycle_line, with_left_out}
use Rattle.hlc_open_log.proofs.PartsOpened.{left_exist, some_left}
use Rattle.hlc_open_log.proofs.opening.without_cycles.Goals as goal

pub leave_cycles_out-requires : goal.leave_cycles_out-requires
leave_cycles_out-requires c =
    let events = c.args.log.now.events in
    let left_out = c.in-Ok.parted.left_out.items in
    subst (λ (places : List EventId). All (λ place. place.0 < length events) places) (sym c.deref.ensures.value)
    (left_exist events (places_of c.in-Ok.parted.kept.items) left_out c.in-Ok.ensures.parted)

pub returns-clause-part : goal.returns-clause-part
returns-clause-part c =
    let events = c.args.log.now.events in
    let kept = places_of c.in-Ok.parted.kept.items in
    let left_out = places_of c.in-Ok.parted.left_out.items in
    let parted = c.in-Ok.ensures.parted in
    let waits = c.requires.waits in (
      map (cycle_line events) left_out,
      record {
        leaves = refl;
        left_out = left_out;
        parted = parted;
        some = some_left events kept left_out parted waits.0 waits.1;
        rest_are = c.in-Ok.ensures.events;
        lines_are = refl;
      },
      c.in-Ok-leave_cycles_out.ensures
          ∙ ap (λ (ids : List EventId). with_left_out c.args.details.now (map (cycle_line events) (places_of ids))) c.deref.ensures.value,
    )
