use Rattle.std.proofs.Common.{◌∷◌, [], arith}
use Rattle.std.proofs.lemmas.List.{map_push}
use Rattle.std.specs.Arc.{arc_slice_items}
use Rattle.std.proofs.Common.{ap, ◌∙◌}
use Rattle.hlc_stamp.specs.Ids.{places_of}
use Rattle.hlc_arena.specs.Stored.{places_in}
use Rattle.hlc_arena.proofs.stored_kind.store.Goals as goal

pub returns-in-Sync-clause-more : goal.returns-in-Sync-clause-more
returns-in-Sync-clause-more c = (
  places_of (arc_slice_items c.in-Sync.writes) ∷ [],
  ap places_in c.push_reserved-in-Sync.ensures.items
      ∙ map_push (λ list. places_of (arc_slice_items list)) c.args.lists.now.items c.in-Sync.writes,
  omega arith,
)
