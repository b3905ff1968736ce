-- A history asked again: the requests that its events are, and what they give.
use Rattle.std.specs.Prelude.{◌≡◌, ◌↔◌, ℕ, List, [], ◌∷◌, Option, None, IsTrue, map}
use Rattle.hlc_arena.specs.History.{Delivered, Erased, EventKind, History, Sent, StampedEvent, Synced, Written}
use Rattle.hlc_arena.specs.Known.{key_at}
use Rattle.hlc_arena.specs.ClockRule.{HasLeastStamps}
use Rattle.hlc_core.specs.Asked.{Asked, StepsAlong, StepsTo, ToAct, ToLose}
use Rattle.hlc_core.specs.Lawful.{IsLawful}
use Rattle.hlc_core.specs.Limit.{AreWithinLimit}
use Rattle.hlc_core.specs.Request.{Request, ToDeliver, ToErase, ToSend, ToSync, ToWrite}
use Rattle.hlc_core.specs.Sound.{IsSound}
use Rattle.hlc_core.specs.State.{State, is_live, new_refusal, new_state}
use Rattle.hlc_core.specs.Step.{refusal_of}

-- the request that asks for what happened at one of these events: a send asks for the key of the write that it carries
abbrev pub request_for : List StampedEvent → EventKind → Request
request_for events (Written key value) = ToWrite key value
request_for events (Erased key) = ToErase key
request_for events (Sent to write) = ToSend to (key_at events write)
request_for events (Synced to writes) = ToSync to
request_for events (Delivered sent) = ToDeliver sent

-- one of these events, asked again
abbrev pub event_again : List StampedEvent → StampedEvent → Asked
event_again events x = ToAct x.event.node x.event.reading (request_for events x.event.kind)

-- all events, asked again in order of acceptance; no stamp is asked for
abbrev pub asked_again : List StampedEvent → List Asked
asked_again events = map (event_again events) events

-- what is asked isn't refused
abbrev pub IsAccepted : State → Asked → Type 0
IsAccepted s (ToAct node reading request) = refusal_of s node reading request ≡ None
IsAccepted s (ToLose sent) = IsTrue (is_live s sent)

-- nothing of what is asked, in turn, is refused in the state that it meets
abbrev pub AllAccepted : State → List Asked → Type 0
AllAccepted s [] = Unit {0}
AllAccepted s (one ∷ more) = IsAccepted s one × ((next : State) → StepsTo s one next → AllAccepted next more)

-- there is a new cluster of the history's nodes and capacity and of this limit, it accepts all that is asked, and its history is then equal
pub record GivesHistory (h : History) (limit : Option ℕ) (asked : List Asked) : Type 0 where
  pub new : new_refusal h.nodes h.capacity ≡ None
  pub accepted : AllAccepted (new_state h.nodes h.capacity limit) asked
  pub equal : (s : State) → StepsAlong (new_state h.nodes h.capacity limit) asked s → s.history ≡ h

-- some requests to a new cluster without a limit, refused ones and losses among them, leave this history
pub record IsReached (h : History) : Type 0 where
  pub new : new_refusal h.nodes h.capacity ≡ None
  pub asked : List Asked
  pub state : State
  pub along : StepsAlong (new_state h.nodes h.capacity None) asked state
  pub equal : state.history ≡ h

-- the events of a lawful history with least stamps, asked again under a limit that no drift exceeds, are all accepted and give an equal history
abbrev pub ReplayGivesEqualHistory : Type 0
ReplayGivesEqualHistory = (h : History) (limit : Option ℕ) → IsLawful h → HasLeastStamps h.events → AreWithinLimit limit h.events →
    GivesHistory h limit (asked_again h.events)

-- and so do those of every cluster
abbrev pub ClustersReplay : Type 0
ClustersReplay = (s : State) → IsSound s → GivesHistory s.history s.limit (asked_again s.history.events)

-- the histories that requests to a new cluster leave are the lawful ones with least stamps, and no others
abbrev pub LawfulIsReached : Type 0
LawfulIsReached = (h : History) → (IsLawful h × HasLeastStamps h.events) ↔ IsReached h
