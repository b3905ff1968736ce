use Rattle.std.proofs.Common.{◌≡◌, ◌∙◌, ◌<◌, ℕ, List, Option, ap, arith, subst, sym}
use Rattle.std.specs.Prelude.{slice_index_or, slice_set}
use Rattle.std.proofs.lemmas.List.{set-get_or}
use Rattle.std.proofs.lemmas.Result.{err_from_is_err_and}
use Rattle.hlc_arena.specs.Arena.{history_of}
use Rattle.hlc_arena.specs.History.{Event, EventKind, History}
use Rattle.hlc_arena.specs.Kinds.{next_kind_of}
use Rattle.hlc_core.specs.Effect.{MayBeAdded, effect_event, effect_kind, effect_live}
use Rattle.hlc_core.specs.Fields.{AreWhole}
use Rattle.hlc_core.specs.State.{State}
use Rattle.hlc_core.specs.Step.{IsAdded, entries_in, event_with, live_with, with_lost}
use Rattle.hlc_core.specs.declared.accepted.Accepted.{Accepted}
use Rattle.hlc_core.specs.declared.effect.Effect.{Effect}
use Rattle.hlc_core.specs.declared.effect.Effect.TheVariants.{Pull}
use Rattle.hlc_stamp.specs.declared.id.EventId.{EventId}
use Rattle.hlc_pool.specs.Messages.{LiveMessages}
use Rattle.hlc_table.specs.Rows.{Row}
use Rattle.hlc_core.proofs.Effects.{live_unless_pulled}
use Rattle.hlc_core.proofs.TableEntries.{held_writes}
use Rattle.hlc_core.proofs.cluster.Cluster.carry_out.Goals.{In_ok-accepted, In_ok-kind}
use Rattle.hlc_core.proofs.cluster.Cluster.carry_out.Goals as goal

-- the kind that is added is that of the effect
kind_is : (c : In_ok-kind) → next_kind_of c.in_ok-kind.kind ≡ effect_kind (entries_in c.args.self.now c.args.node.0) c.args.effect
kind_is c =
    let h = history_of c.self.inside.history in
    let node = c.args.node.0 in
    let exists : node < h.nodes = subst (λ (s : State). node < s.history.nodes) (sym c.self.view_is) c.requires.next.lawful.follows.node in
    let held = held_writes c.self.invariant.held node exists c.index_mut.ensures.value in
    let writes = held ∙ ap (λ (s : State). entries_in s node) c.self.view_is in
    c.in_ok-kind.ensures.kind ∙ ap (λ (ws : List ℕ). effect_kind ws c.args.effect) writes

pub add-requires : goal.add-requires
add-requires c =
    let s = c.args.self.now in
    let event : EventKind → Event = event_with c.args.node.0 c.args.reading in
    let kind = kind_is (goal.at.add-requires c).In_ok-kind in
    let next : MayBeAdded s (event (next_kind_of c.in_ok-kind.kind)) =
    subst (λ (k : EventKind). MayBeAdded s (event k)) (sym kind) c.requires.next in
    record { next = subst (λ (t : State). MayBeAdded t (event (next_kind_of c.in_ok-kind.kind))) (sym c.self.view_is) next }

-- what was added is the event of the effect
added : (c : In_ok-accepted) → next_kind_of c.in_ok-kind.kind ≡ effect_kind (entries_in c.args.self.now c.args.node.0) c.args.effect
    → IsAdded c.args.self.now (effect_event c.args.self.now c.args.node.0 c.args.reading c.args.effect)
    (live_with c.args.self.now (effect_kind (entries_in c.args.self.now c.args.node.0) c.args.effect)) c.in_ok-accepted.accepted c.add.new.self
added c is =
    let s = c.args.self.now in
    let event : EventKind → Event = event_with c.args.node.0 c.args.reading in
    let kind = next_kind_of c.in_ok-kind.kind in
    let accepted = c.in_ok-accepted.accepted in
    let new = c.add.new.self in
    let answer : IsAdded s (event kind) (live_with s kind) accepted new =
    subst (λ (t : State). IsAdded t (event kind) (live_with t kind) accepted new) c.self.view_is c.in_ok-accepted.ensures.answer in
    subst (λ (k : EventKind). IsAdded s (event k) (live_with s k) accepted new) is answer

pub returns-in_default : goal.returns-in_default
returns-in_default c =
    let s = c.args.self.now in
    let node = c.args.node.0 in
    let effect = c.args.effect in
    let at = goal.at.returns-in_default c in
    record {
      answer = subst (λ (live : List ℕ). IsAdded s (effect_event s node c.args.reading effect) live c.in_ok-accepted.accepted c.add.new.self)
          (live_unless_pulled s node effect c.in_default.not-Pull) (added at.In_ok-accepted (kind_is at.In_ok-kind));
      sound = c.add.ensures.sound;
    }

-- if a message is pulled, it ends
pulled : (s : State) (node reading : ℕ) (effect : Effect) (sent : EventId) (accepted : Accepted) (new lost : State) → effect ≡ Pull sent
    → IsAdded s (effect_event s node reading effect) (live_with s (effect_kind (entries_in s node) effect)) accepted new
    → lost ≡ with_lost new sent.0 → IsAdded s (effect_event s node reading effect) (effect_live s node effect) accepted lost
pulled s node reading effect sent accepted new lost is h ends =
    let of_pull = rw is at h in
    rw is (record { after = ends ∙ ap (λ (t : State). with_lost t sent.0) of_pull.after; event = of_pull.event; clock = of_pull.clock })

pub returns-in-Pull : goal.returns-in-Pull
returns-in-Pull c =
    let at = goal.at.returns-in-Pull c in
    record {
      answer = pulled c.args.self.now c.args.node.0 c.args.reading c.args.effect c.in-Pull.sent c.in_ok-accepted.accepted c.add.new.self c.lose.new.self
          c.in-Pull.is (added at.In_ok-accepted (kind_is at.In_ok-kind)) (rw c.unwrap.ensures at c.lose.ensures.answer).1;
      sound = c.lose.ensures.sound;
    }

-- what is whole stays so if a table is as it was
whole_same : {limit : Option ℕ} {h : History} {live : LiveMessages} {tables : List (List Row)} (node : ℕ) {table new : List Row} →
    AreWhole limit h live tables → table ≡ slice_index_or tables node table → new ≡ table → AreWhole limit h live (slice_set tables node new)
whole_same {limit} {h} {live} {tables} node {table} whole here same =
    let is = ap (slice_set tables node) (same ∙ here) ∙ set-get_or tables node table in
    subst (AreWhole limit h live) (sym is) whole

pub invariant_of-self : goal.invariant_of-self
invariant_of-self c = whole_same c.args.node.0 c.self.invariant c.index_mut.ensures.value c.in_err-kind.ensures.unchanged

pub invariant_of-self-2 : goal.invariant_of-self-2
invariant_of-self-2 c = whole_same c.args.node.0 c.self.invariant c.index_mut.ensures.value c.in_ok-kind.ensures.unchanged

pub index_mut-requires : goal.index_mut-requires
index_mut-requires c =
    let nodes = ap (λ (s : State). s.history.nodes) c.self.view_is in
    omega (arith, nodes, c.requires.next.lawful.follows.node, c.self.invariant.held.one_each, c.self.inside.tables.ok.0)

pub returns-in_err-kind-clause-answer : goal.returns-in_err-kind-clause-answer
returns-in_err-kind-clause-answer c =
    let refused = err_from_is_err_and c.from_residual.result c.from_residual.ensures.1 in
    rw refused.1 (refused.2, c.self.view_is)

pub returns-in_err-kind-clause-sound : goal.returns-in_err-kind-clause-sound
returns-in_err-kind-clause-sound c = c.self.invariant.sound

pub returns-in_err-accepted-clause-answer : goal.returns-in_err-accepted-clause-answer
returns-in_err-accepted-clause-answer c =
    let refused = err_from_is_err_and c.from_residual-in_err-accepted.result c.from_residual-in_err-accepted.ensures.1 in
    let answer = c.in_err-accepted.ensures.answer in
    rw refused.1 (refused.2 ∙ answer.0, answer.1 ∙ c.self.view_is)

pub returns-in_err-accepted-clause-sound : goal.returns-in_err-accepted-clause-sound
returns-in_err-accepted-clause-sound c = c.add.ensures.sound
