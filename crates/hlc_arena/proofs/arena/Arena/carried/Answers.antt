use Rattle.std.proofs.Common.{◌≡◌, ◌∙◌, ℕ, List, [], refl, ap}
use Rattle.hlc_stamp.specs.declared.id.EventId.{EventId}
use Rattle.hlc_stamp.specs.declared.id.NodeId.{NodeId}
use Rattle.hlc_arena.specs.declared.stored_kind.StoredKind.{StoredKind}
use Rattle.hlc_arena.specs.declared.stored_kind.StoredKind.TheVariants.{Deliver, Erase, Send, Sync, Write}
use Rattle.hlc_arena.specs.Known.{carried_by}
use Rattle.hlc_arena.specs.Stored.{kind_in, places_in}
use Rattle.hlc_arena.proofs.Keeping.{kind_exists, kind_shown, list_exists, list_shown}
use Rattle.hlc_arena.proofs.arena.Arena.carried.Goals as goal

pub at-requires : goal.at-requires
at-requires c = kind_exists c.self.invariant c.self.view_is c.args.id.0 c.requires

pub at-requires-in-Sync : goal.at-requires-in-Sync
at-requires-in-Sync c = list_exists c.self.invariant c.self.view_is c.args.id.0 c.requires c.at.ensures c.in-Sync.is

pub returns-in-Send : goal.returns-in-Send
returns-in-Send c =
    let kind = kind_shown c.self.invariant c.self.view_is c.args.id.0 c.requires c.at.ensures c.in-Send.is in
    rw c.from_ref.ensures.value (ap carried_by kind)

pub returns-in-Sync : goal.returns-in-Sync
returns-in-Sync c =
    let kind = kind_shown c.self.invariant c.self.view_is c.args.id.0 c.requires c.at.ensures c.in-Sync.is in
    let list = list_shown c.self.invariant c.self.view_is c.args.id.0 c.requires c.at.ensures c.in-Sync.is c.at-in-Sync.ensures in
    rw (c.deref.ensures.value, list) (ap carried_by kind)

-- what is stored as no send carries nothing
carries_nothing :
    (pages lists : List (List ℕ)) (kind : StoredKind) →
    ((to : NodeId) (write : EventId) → kind ≡ Send to write → ⊥) → ((to : NodeId) (list : ℕ) → kind ≡ Sync to list → ⊥) →
    [] ≡ carried_by (kind_in pages lists kind)
carries_nothing pages lists (Write span) no_send no_sync = refl
carries_nothing pages lists (Erase span) no_send no_sync = refl
carries_nothing pages lists (Send to write) no_send no_sync = absurd (no_send to write refl)
carries_nothing pages lists (Sync to list) no_send no_sync = absurd (no_sync to list refl)
carries_nothing pages lists (Deliver sent) no_send no_sync = refl

pub returns-in_default : goal.returns-in_default
returns-in_default c =
    let pages = c.self.inside.bytes.pages in
    let lists = places_in c.self.inside.lists.items in
    carries_nothing pages lists c.at.result.now c.in_default.not-Send c.in_default.not-Sync
    ∙ ap carried_by (kind_shown c.self.invariant c.self.view_is c.args.id.0 c.requires c.at.ensures refl)
