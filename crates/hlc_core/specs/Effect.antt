-- What a request makes happen if nothing refuses it.
use Rattle.std.specs.Prelude.{◌≡◌, ℕ, ◌<◌, true, List, length, map, None, Some, Result, Ok, Err}
use Rattle.hlc_arena.specs.History.{Delivered, Erased, Event, EventKind, Sent, Synced, Written}
use Rattle.hlc_table.specs.Rows.{Row}
use Rattle.hlc_core.specs.declared.effect.Effect.{Effect}
use Rattle.hlc_table.specs.Rows.{Row}
use Rattle.hlc_core.specs.declared.effect.Effect.TheVariants.{Deliver, Erase, Pull, Send, Sync, Write}
use Rattle.hlc_core.specs.declared.refusal.Refusal.{Refusal}
use Rattle.hlc_core.specs.Lawful.{IsLawfulNext}
use Rattle.hlc_core.specs.Limit.{IsWithinLimit, drift_if_next}
use Rattle.hlc_core.specs.Request.{Request}
use Rattle.hlc_core.specs.State.{State, is_live}
use Rattle.hlc_core.specs.Step.{entries_in, event_with, first_refusal, kind_for, live_after, live_with, live_without, own_refusals}

-- the writes of some rows, in order
abbrev pub writes_in : List Row → List ℕ
writes_in rows = map (λ row. row.entry.write.0) rows

-- the kind of the event, if these are the writes of the node's entries
abbrev pub effect_kind : List ℕ → Effect → EventKind
effect_kind entries (Write key value) = Written key.now value.now
effect_kind entries (Erase key) = Erased key.now
effect_kind entries (Send to write) = Sent to.0 write.0
effect_kind entries (Sync to) = Synced to.0 entries
effect_kind entries (Deliver sent) = Delivered sent.0
effect_kind entries (Pull sent) = Delivered sent.0

-- no list of writes has to be made for it: it is no sync
abbrev pub HasNoList : Effect → Type 0
HasNoList (Sync to) = ⊥
HasNoList _ = Unit {0}

-- the event that this makes of a node whose clock reads so
abbrev pub effect_event : State → ℕ → ℕ → Effect → Event
effect_event s node reading effect = event_with node reading (effect_kind (entries_in s node) effect)

-- the messages that are live then
abbrev pub effect_live : State → ℕ → Effect → List ℕ
effect_live s node (Pull sent) = live_without sent.0 s.live
effect_live s node effect = live_with s (effect_kind (entries_in s node) effect)

-- the message that ends was live
abbrev pub EndsLive : State → Effect → Type 0
EndsLive s (Pull sent) = is_live s sent.0 ≡ true
EndsLive s _ = Unit {0}

-- the request isn't refused by what is asked of it alone, and this is what it makes happen
pub record IsEffectOf (s : State) (node : ℕ) (request : Request) (effect : Effect) : Type 0 where
  pub passes : first_refusal (own_refusals s node request) ≡ None
  pub kind : effect_kind (entries_in s node) effect ≡ kind_for s node request
  pub live : effect_live s node effect ≡ live_after s node request
  pub ends : EndsLive s effect

-- there is room for an event, it may come next in the history, and it wouldn't be too far ahead of its reading
pub record MayBeAdded (s : State) (e : Event) : Type 0 where
  pub room : length s.history.events < s.history.capacity
  pub lawful : IsLawfulNext s.history.nodes s.history.events e
  pub near : IsWithinLimit s.limit (drift_if_next s.history.events e)

-- what a request makes happen, or the first refusal of those that are asked of it alone
abbrev pub HasEffect : State → ℕ → Request → Result Effect Refusal → Type 0
HasEffect s node request (Ok effect) = IsEffectOf s node request effect
HasEffect s node request (Err refusal) = first_refusal (own_refusals s node request) ≡ Some refusal
