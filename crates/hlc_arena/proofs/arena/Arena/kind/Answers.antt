use Rattle.hlc_arena.proofs.Keeping.{kind_exists, kind_shown, list_exists, list_shown, stored_shown}
use Rattle.hlc_arena.proofs.arena.Arena.kind.Goals as goal

pub at-requires : goal.at-requires
at-requires c = kind_exists c.self.invariant c.self.view_is c.args.id.0 c.requires

pub key-requires : goal.key-requires
key-requires c = stored_shown c.self.invariant c.self.view_is c.args.id.0 c.requires c.at.ensures c.in-Write.is

pub value-requires : goal.value-requires
value-requires c = stored_shown c.self.invariant c.self.view_is c.args.id.0 c.requires c.at.ensures c.in-Write.is

pub key-requires-in-Erase : goal.key-requires-in-Erase
key-requires-in-Erase c = stored_shown c.self.invariant c.self.view_is c.args.id.0 c.requires c.at.ensures c.in-Erase.is

pub at-requires-in-Sync : goal.at-requires-in-Sync
at-requires-in-Sync c = list_exists c.self.invariant c.self.view_is c.args.id.0 c.requires c.at.ensures c.in-Sync.is

pub returns-in-Write : goal.returns-in-Write
returns-in-Write c =
    rw (c.key.ensures, c.value.ensures) (kind_shown c.self.invariant c.self.view_is c.args.id.0 c.requires c.at.ensures c.in-Write.is)

pub returns-in-Erase : goal.returns-in-Erase
returns-in-Erase c =
    rw c.key-in-Erase.ensures (kind_shown c.self.invariant c.self.view_is c.args.id.0 c.requires c.at.ensures c.in-Erase.is)

pub returns-in-Send : goal.returns-in-Send
returns-in-Send c = kind_shown c.self.invariant c.self.view_is c.args.id.0 c.requires c.at.ensures c.in-Send.is

pub returns-in-Sync : goal.returns-in-Sync
returns-in-Sync c =
    let list = list_shown c.self.invariant c.self.view_is c.args.id.0 c.requires c.at.ensures c.in-Sync.is c.at-in-Sync.ensures in
    rw (c.deref.ensures.value, list) (kind_shown c.self.invariant c.self.view_is c.args.id.0 c.requires c.at.ensures c.in-Sync.is)

pub returns-in-Deliver : goal.returns-in-Deliver
returns-in-Deliver c = kind_shown c.self.invariant c.self.view_is c.args.id.0 c.requires c.at.ensures c.in-Deliver.is
