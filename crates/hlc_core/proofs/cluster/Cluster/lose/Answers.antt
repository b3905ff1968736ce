use Rattle.std.proofs.Common.{◌≡◌, ◌∙◌, ◌≢◌, ℕ, List, Option, Result, Ok, Err, ap, refl, subst, sym, true, false}
use Rattle.std.specs.Prelude.{◌↔◌, IsOk, OnErr, OnOk}
use Rattle.hlc_arena.specs.History.{History}
use Rattle.hlc_pool.specs.Messages.{LiveMessages, IsLive, Message, without as without_message}
use Rattle.hlc_pool.specs.declared.no_message.NoMessage.{NoMessage}
use Rattle.hlc_table.specs.Rows.{Row}
use Rattle.hlc_core.specs.Fields.{AreAddressed, AreWhole, state_of}
use Rattle.hlc_core.specs.Sound.{IsSound}
use Rattle.hlc_core.specs.State.{State}
use Rattle.hlc_core.specs.Step.{EndsMessage}
use Rattle.hlc_core.proofs.Messages.{ended_in_state, live_in_state, lost_in_state}
use Rattle.hlc_core.proofs.OneMore.{whole-lost}
use Rattle.hlc_core.proofs.cluster.Cluster.lose.Goals as goal

module _
    {limit : Option ℕ} {h : History} {old : LiveMessages} {tables : List (List Row)} (whole : AreWhole limit h old tables)
    (new : LiveMessages) (sent : ℕ) where
  -- what the pool answers is what came of it for the state
  ends : {s : State} → state_of limit h old.messages ≡ s → (r : Result (Unit {0}) NoMessage) →
      IsOk r ↔ IsLive old.messages sent → OnOk r (new.messages ≡ without_message old.messages sent) →
      OnErr r (new.messages ≡ old.messages) → EndsMessage s sent r (state_of limit h new.messages)
  ends is (Ok done) live ok err = (live_in_state whole is sent (live.0 refl), lost_in_state whole is new.messages sent ok)
  ends is (Err no_message) live ok err =
      let not_ok : false ≢ true = λ bad. cc bad in
      (ended_in_state whole is sent (λ lives. not_ok (live.1 lives)), ap (state_of limit h) err ∙ is)

  -- the state stays whole
  stays_whole : new.nodes ≡ old.nodes → (r : Result (Unit {0}) NoMessage) →
      OnOk r (new.messages ≡ without_message old.messages sent) → OnErr r (new.messages ≡ old.messages) → AreWhole limit h new tables
  stays_whole nodes (Ok done) ok err = whole-lost whole new nodes sent ok
  stays_whole nodes (Err no_message) ok err = record {
    sound = subst (λ (ms : List Message). IsSound (state_of limit h ms)) (sym err) whole.sound;
    nodes = nodes ∙ whole.nodes;
    addressed = subst (λ (ms : List Message). AreAddressed h.events ms) (sym err) whole.addressed;
    held = whole.held;
  }

pub invariant_of-self : goal.invariant_of-self
invariant_of-self c =
    stays_whole c.self.invariant c.lose.new.self c.args.sent.0 c.lose.ensures.nodes c.lose.result c.lose.ensures.ok c.lose.ensures.err

pub returns-clause-answer : goal.returns-clause-answer
returns-clause-answer c =
    ends c.self.invariant c.lose.new.self c.args.sent.0 c.self.view_is c.lose.result
    c.lose.ensures.live c.lose.ensures.ok c.lose.ensures.err

pub returns-clause-sound : goal.returns-clause-sound
returns-clause-sound c = (invariant_of-self c).sound
