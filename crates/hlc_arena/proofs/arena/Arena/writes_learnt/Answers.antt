use Rattle.std.proofs.Common.{◌∙◌, sym, ap, subst, inl, inr}
use Rattle.hlc_arena.specs.Arena.{StoredHistory, history_of, IsWellFormed}
use Rattle.hlc_arena.specs.Known.{writes_learnt}
use Rattle.hlc_arena.proofs.Following.{delivered_exists}
use Rattle.hlc_arena.proofs.Keeping.{kind_shown}
use Rattle.hlc_arena.proofs.arena.Arena.writes_learnt.Goals as goal

pub carried-requires : goal.carried-requires
carried-requires c =
    let event = c.args.event.now.0 in
    let well = subst (λ (a : StoredHistory). IsWellFormed (history_of a)) c.self.view_is c.self.invariant.well_formed in
    let kind = kind_shown c.self.invariant c.self.view_is event c.requires c.at.ensures c.in-Deliver.is in
    delivered_exists (history_of c.args.self.now) well event c.in-Deliver.sent.0 c.requires (sym kind)

pub returns-in-Deliver : goal.returns-in-Deliver
returns-in-Deliver c =
    let event = c.args.event.now.0 in
    let kind = kind_shown c.self.invariant c.self.view_is event c.requires c.at.ensures c.in-Deliver.is in
    c.carried.ensures ∙ ap (writes_learnt c.args.self.now.events event) kind

pub returns-in-Send : goal.returns-in-Send
returns-in-Send c =
    let event = c.args.event.now.0 in
    let learnt = writes_learnt c.args.self.now.events event in
    elim c.in-Send.is [
      | inl send ↦ ap learnt (kind_shown c.self.invariant c.self.view_is event c.requires c.at.ensures send.2)
      | inr sync ↦ ap learnt (kind_shown c.self.invariant c.self.view_is event c.requires c.at.ensures sync.2)
    ]

pub returns-in-Write : goal.returns-in-Write
returns-in-Write c =
    let event = c.args.event.now.0 in
    let learnt = writes_learnt c.args.self.now.events event in
    rw c.from_ref.ensures.value (elim c.in-Write.is [
      | inl write ↦ ap learnt (kind_shown c.self.invariant c.self.view_is event c.requires c.at.ensures write.1)
      | inr erase ↦ ap learnt (kind_shown c.self.invariant c.self.view_is event c.requires c.at.ensures erase.1)
    ])
