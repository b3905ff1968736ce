use Rattle.std.proofs.Common.{◌≡◌, ◌≢◌, All, IfSome, Option, Some, None, ◌∙◌, ◌<◌, ℕ, List, [], ◌∷◌, ◌++◌, arith, length, refl, subst, sym, ap}
use Rattle.std.specs.Prelude.{slice_index_or, slice_set}
use Rattle.std.proofs.lemmas.List.{get_or_default, map-append, set-get_or}
use Rattle.std.proofs.lemmas.List.Elements.{All-weaker}
use Rattle.std.proofs.lemmas.Result.{err_from_is_err_and}
use Rattle.hlc_arena.specs.Arena.{MayFollow, history_of, with_event}
use Rattle.hlc_arena.specs.ClockRule.{HasLeastStamps, MeetsClockRule}
use Rattle.hlc_arena.specs.History.{History, StampedEvent, target_of}
use Rattle.hlc_arena.specs.Known.{writes_learnt}
use Rattle.hlc_arena.specs.Kinds.{next_kind_of}
use Rattle.hlc_arena.proofs.Histories.{least_push}
use Rattle.hlc_table.specs.Tables.{rows_with, table_rows}
use Rattle.hlc_pool.specs.Messages.{LiveMessages, Message, sends_of}
use Rattle.hlc_table.specs.Rows.{Row}
use Rattle.hlc_core.specs.Effect.{MayBeAdded}
use Rattle.hlc_core.specs.Fields.{AreWhole, IsAddressed, messages_and, messages_with, state_of}
use Rattle.hlc_core.specs.Sound.{IsSound}
use Rattle.hlc_core.specs.State.{State}
use Rattle.hlc_core.specs.Step.{live_and, live_with, state_with}
use Rattle.hlc_core.proofs.Drifts.{drift_is_within}
use Rattle.hlc_core.proofs.OneMore.{whole-more}
use Rattle.hlc_core.proofs.TableEntries.{held_table}
use Rattle.hlc_core.proofs.cluster.Cluster.add.Goals.{After-next_stamp-stamp}
use Rattle.hlc_core.proofs.cluster.Cluster.add.Goals as goal

-- the history so far, and the event that comes next
abbrev before : After-next_stamp-stamp → History
before c = history_of c.self.inside.history

abbrev next_event : After-next_stamp-stamp → StampedEvent
next_event c = record {
  event = record { node = c.args.node.0; reading = c.args.reading; kind = next_kind_of c.args.next };
  stamp = c.next_stamp-stamp.result;
}

may_be_added : (c : After-next_stamp-stamp) →
    MayBeAdded (state_of c.self.inside.limit (before c) c.self.inside.messages.messages) (next_event c).event
may_be_added c = subst (λ (s : State). MayBeAdded s (next_event c).event) (sym c.self.view_is) c.requires.next

-- it may follow a history that is this one
follows : (c : After-next_stamp-stamp) {h : History} → h ≡ before c → MayFollow h.nodes h.events (next_event c).event
follows c same = subst (λ (g : History). MayFollow g.nodes g.events (next_event c).event) (sym same) (may_be_added c).lawful.follows

meets_clock_rule : (c : After-next_stamp-stamp) → MeetsClockRule (before c).events (next_event c)
meets_clock_rule c =
    subst (λ (g : History). MeetsClockRule g.events (next_event c)) c.in_ok-event.ensures.history
    (rw c.as_ref-kind.ensures at c.next_stamp-stamp.ensures)

pub learn-requires-clause-follows : goal.learn-requires-clause-follows
learn-requires-clause-follows c =
    rw c.as_ref-kind.ensures (follows (goal.at.learn-requires-clause-follows c).After-next_stamp-stamp c.in_ok-event.ensures.history)

pub learn-requires-clause-least : goal.learn-requires-clause-least
learn-requires-clause-least c =
    let at = (goal.at.learn-requires-clause-least c).After-next_stamp-stamp in
    let least = least_push (before at).events (next_event at) c.self.invariant.sound.least (meets_clock_rule at) in
    rw c.as_ref-kind.ensures
    (subst (λ (g : History). HasLeastStamps (g.events ++ next_event at ∷ [])) (sym c.in_ok-event.ensures.history) least)

pub learn-requires-clause-knows : goal.learn-requires-clause-knows
learn-requires-clause-knows c =
    let node = c.args.node.0 in
    let exists = (may_be_added (goal.at.learn-requires-clause-knows c).After-next_stamp-stamp).lawful.follows.node in
    held_table c.self.invariant.held node exists c.index_mut.ensures.value
    ∙ ap (λ (g : History). table_rows g.events node) (sym c.in_ok-event.ensures.history)

pub post-requires-clause-room : goal.post-requires-clause-room
post-requires-clause-room c = c.in_ok-event.ensures.message_room

-- the target of an event is one of so many nodes
target_exists : (target : Option ℕ) (node : ℕ) {n m : ℕ} → n ≡ m → IfSome target (λ to. (to < n) × (to ≢ node)) → IfSome target (λ to. to < m)
target_exists (Some to) node same h = subst (λ (n : ℕ). to < n) same h.0
target_exists None node same h = tt

pub post-requires-clause-exists : goal.post-requires-clause-exists
post-requires-clause-exists c =
    let follows = (may_be_added (goal.at.post-requires-clause-exists c).After-next_stamp-stamp).lawful.follows in
    rw c.as_ref-kind.ensures
    (target_exists (target_of (next_kind_of c.args.next)) c.args.node.0 (sym (c.in_ok-event.ensures.nodes ∙ c.self.invariant.nodes)) follows.target)

pub post-requires-clause-newest : goal.post-requires-clause-newest
post-requires-clause-newest c =
    let event = c.in_ok-event.event.0 in
    let before : All (λ (m : Message). m.send < event) c.self.inside.messages.messages =
    All-weaker (IsAddressed (history_of c.self.inside.history).events) (λ (m : Message). m.send < event)
    (λ m h. subst (λ (n : ℕ). m.send < n) (sym c.in_ok-event.ensures.event) h.0)
    c.self.inside.messages.messages c.self.invariant.addressed in
    subst (λ (ms : List Message). All (λ (m : Message). m.send < event) ms) (sym c.in_ok-event.ensures.messages) before

pub push-requires-clause-follows : goal.push-requires-clause-follows
push-requires-clause-follows c = follows (goal.at.push-requires-clause-follows c).After-next_stamp-stamp c.in_ok-event.ensures.history

pub invariant_of-self-2 : goal.invariant_of-self-2
invariant_of-self-2 c =
    let at = (goal.at.invariant_of-self-2 c).After-next_stamp-stamp in
    let limit = c.self.inside.limit in
    let tables = c.self.inside.tables.items in
    let live = c.post.new.messages in
    let node = c.args.node.0 in
    let kind = next_kind_of c.args.next in
    let h = before at in
    let x = next_event at in
    let next = may_be_added at in
    let clock = meets_clock_rule at in
    let history : history_of c.push.new.self ≡ with_event h x =
    c.push.ensures.history ∙ ap (λ (g : History). with_event g x) c.in_ok-event.ensures.history in
    let exists : node < length tables = omega (arith, next.lawful.follows.node, c.self.invariant.held.one_each) in
    let held : c.index_mut.result.now ≡ slice_index_or tables node [] =
    c.index_mut.ensures.value ∙ get_or_default tables node c.index_mut.result.now [] exists in
    let learns : History → List Row → List Row =
    λ g rows. rows_with (g.events ++ x ∷ []) rows (writes_learnt g.events (length g.events) kind) in
    let learnt : c.learn.new.self ≡ learns h (slice_index_or tables node []) =
    (rw c.as_ref-kind.ensures at c.in_ok-learn.ensures.rows)
    ∙ ap (λ (g : History). learns g c.index_mut.result.now) c.in_ok-event.ensures.history ∙ ap (learns h) held in
    let messages = (rw c.as_ref-kind.ensures at c.post.ensures.messages)
    ∙ ap (λ ms. messages_with ms c.in_ok-event.event.0 kind) c.in_ok-event.ensures.messages
    ∙ ap (λ (n : ℕ). messages_with c.self.inside.messages.messages n kind) c.in_ok-event.ensures.event in
    let near = drift_is_within (state_of limit h c.self.inside.messages.messages) x next.lawful clock next.near in
    let whole = whole-more c.self.invariant live (c.post.ensures.nodes ∙ c.in_ok-event.ensures.nodes)
    x (record { room = next.room; lawful = next.lawful; clock = clock }) near (target_of kind) refl messages in
    subst (λ (g : History). AreWhole limit g live (slice_set tables node c.learn.new.self)) (sym history)
    (subst (λ (rows : List Row). AreWhole limit (with_event h x) live (slice_set tables node rows)) (sym learnt) whole)

pub returns-clause-sound : goal.returns-clause-sound
returns-clause-sound c = (invariant_of-self-2 c).sound

-- the live messages and that of an event, by their sends
sends_with : (messages : List Message) (event : ℕ) (target : Option ℕ)
    → sends_of (messages_and messages event target) ≡ live_and (sends_of messages) event target
sends_with messages event (Some to) = map-append (λ (m : Message). m.send) messages _
sends_with messages event None = refl

pub returns-clause-answer : goal.returns-clause-answer
returns-clause-answer c =
    let at = (goal.at.returns-clause-answer c).After-next_stamp-stamp in
    let limit = c.self.inside.limit in
    let h = before at in
    let x = next_event at in
    let kind = next_kind_of c.args.next in
    let messages = (rw c.as_ref-kind.ensures at c.post.ensures.messages)
    ∙ ap (λ ms. messages_with ms c.in_ok-event.event.0 kind) c.in_ok-event.ensures.messages
    ∙ ap (λ (n : ℕ). messages_with c.self.inside.messages.messages n kind) c.in_ok-event.ensures.event in
    let live = ap sends_of messages ∙ sends_with c.self.inside.messages.messages (length h.events) (target_of kind) in
    let history : history_of c.push.new.self ≡ with_event h x =
    c.push.ensures.history ∙ ap (λ (g : History). with_event g x) c.in_ok-event.ensures.history in
    let after : state_of limit (history_of c.push.new.self) c.post.new.messages.messages
    ≡ state_with (state_of limit h c.self.inside.messages.messages) x (live_with (state_of limit h c.self.inside.messages.messages) kind)
    = ap (λ (g : History). state_of limit g c.post.new.messages.messages) history
    ∙ ap (λ (l : List ℕ). state_with (state_of limit h c.self.inside.messages.messages) x l) live in
    record {
      after = after ∙ ap (λ (s : State). state_with s x (live_with s kind)) c.self.view_is;
      event = c.in_ok-event.ensures.event ∙ ap (λ (s : State). length s.history.events) c.self.view_is;
      clock = subst (λ (s : State). MeetsClockRule s.history.events (next_event at)) c.self.view_is (meets_clock_rule at);
    }

-- what is whole stays so if the history and the messages do
whole_same : {limit : Option ℕ} {h g : History} {live others : LiveMessages} {tables : List (List Row)} → AreWhole limit h live tables → g ≡ h
    → others.messages ≡ live.messages → others.nodes ≡ live.nodes → AreWhole limit g others tables
whole_same {limit} whole same messages nodes = record {
  sound = rw (same, messages) whole.sound;
  nodes = nodes ∙ whole.nodes ∙ sym (ap (λ (h : History). h.nodes) same);
  addressed = rw (same, messages) whole.addressed;
  held = rw same whole.held;
}

pub invariant_of-self : goal.invariant_of-self
invariant_of-self c = whole_same c.self.invariant c.in_err-event.ensures.history c.in_err-event.ensures.messages c.in_err-event.ensures.nodes

pub returns-in_err-event-clause-sound : goal.returns-in_err-event-clause-sound
returns-in_err-event-clause-sound c = (invariant_of-self c).sound

-- and so is its state
state_same : (limit : Option ℕ) {h g : History} {ms others : List Message} → g ≡ h → others ≡ ms → state_of limit g others ≡ state_of limit h ms
state_same limit same messages = λ i. state_of limit (same i) (messages i)

pub returns-in_err-event-clause-answer : goal.returns-in_err-event-clause-answer
returns-in_err-event-clause-answer c =
    let refused = err_from_is_err_and c.from_residual.result c.from_residual.ensures.1 in
    let same = state_same c.self.inside.limit c.in_err-event.ensures.history c.in_err-event.ensures.messages in
    rw refused.1 (refused.2 ∙ c.in_err-event.ensures.refused, same ∙ c.self.view_is)

pub returns-in_err-learn-clause-sound : goal.returns-in_err-learn-clause-sound
returns-in_err-learn-clause-sound c =
    subst IsSound (sym (state_same c.self.inside.limit c.in_ok-event.ensures.history c.in_ok-event.ensures.messages)) c.self.invariant.sound

pub returns-in_err-learn-clause-answer : goal.returns-in_err-learn-clause-answer
returns-in_err-learn-clause-answer c =
    let refused = err_from_is_err_and c.from_residual-in_err-learn.result c.from_residual-in_err-learn.ensures.1 in
    let same = state_same c.self.inside.limit c.in_ok-event.ensures.history c.in_ok-event.ensures.messages in
    rw refused.1 (refused.2, same ∙ c.self.view_is)

pub invariant_of-self-in_err-learn : goal.invariant_of-self-in_err-learn
invariant_of-self-in_err-learn c =
    let tables = c.self.inside.tables.items in
    let same : slice_set tables c.args.node.0 c.learn.new.self ≡ tables =
    ap (slice_set tables c.args.node.0) (c.in_err-learn.ensures.unchanged ∙ c.index_mut.ensures.value)
    ∙ set-get_or tables c.args.node.0 c.index_mut.result.now in
    subst (λ (ts : List (List Row)). AreWhole c.self.inside.limit (history_of c.reserve.new.history) c.reserve.new.messages ts) (sym same)
    (whole_same c.self.invariant c.in_ok-event.ensures.history c.in_ok-event.ensures.messages c.in_ok-event.ensures.nodes)
