use Rattle.std.proofs.Common.{◌≡◌, ◌∙◌, ℕ, List, ap, arith, refl, sym, subst}
use Rattle.std.specs.Prelude.{IfSome, IsSome}
use Rattle.std.proofs.lemmas.Result.{on_ok_weaker}
use Rattle.std.proofs.lemmas.Grind.{common_steps}
use Rattle.hlc_arena.specs.Arena.{history_of}
use Rattle.hlc_arena.specs.History.{IsWrite, StampedEvent, event_at}
use Rattle.hlc_arena.specs.Known.{key_at, key_of, rank_at, writes_learnt}
use Rattle.hlc_arena.proofs.Following.{well_formed_names_fit}
use Rattle.hlc_stamp.specs.declared.rank.Rank.{Rank}
use Rattle.hlc_table.specs.Rows.{Row, entry_at, learn_entry}
use Rattle.hlc_table.specs.Repeats.{IsRepeat}
use Rattle.hlc_table.specs.Tables.{NeedNoMemory, OneWriteARank, entry_for, rows_with}
use Rattle.hlc_table.proofs.OneWrites.{learnt_at_event, one_write_a_rank, own_write}
use Rattle.hlc_table.proofs.Ranks.{rank_of}
use Rattle.hlc_table.proofs.Repeats.{delivered_at_target, repeat_leaves_rows}
use Rattle.hlc_table.proofs.learner.learn_event.Goals as goal

pub learn-requires : goal.learn-requires
learn-requires c =
    let h = history_of c.args.history.now in
    let e = c.args.event.0 in
    let key = c.in-Some.key.now in
    let fit = well_formed_names_fit h c.keeps_a_well_formed_history.ensures in
    let exists = c.requires.exists in
    let record_is = rw c.unwrap-record.ensures at c.get.ensures.event in
    let rank : c.rank.result ≡ rank_at h.events e = c.rank.ensures ∙ ap rank_of record_is in
    let one_before = one_write_a_rank h.events (event_at h.events e).node e fit c.requires.least (omega arith) in
    let one : OneWriteARank h.events c.args.table.now = subst (OneWriteARank h.events) (sym c.requires.knows) one_before in
    let OneOfRank : Rank → Type 0 = λ r. IfSome (entry_at c.args.table.now key) (λ held. held.rank ≡ r → held.write ≡ c.args.event) in
    record { one_write_a_rank = subst OneOfRank (sym rank) (one key e exists) }

pub returns-in-Some-clause-rows : goal.returns-in-Some-clause-rows
returns-in-Some-clause-rows c =
    let events = c.args.history.now.events in
    let e = c.args.event.0 in
    let table = c.args.table.now in
    let record_is = rw c.unwrap-record.ensures at c.get.ensures.event in
    let rank : c.rank.result ≡ rank_at events e = c.rank.ensures ∙ ap rank_of record_is in
    let key : c.in-Some.key.now ≡ key_at events e = c.in-Some.ensures.key ∙ ap (λ (x : StampedEvent). key_of x.event.kind) record_is in
    let is_write : IsWrite (event_at events e).kind =
    subst (λ (x : StampedEvent). IsWrite x.event.kind) record_is (c.in-Some.ensures.written.0 refl) in
    let writes = own_write events e (event_at events e).kind is_write in
    let with_rank : Rank → List Row = λ r. learn_entry table c.in-Some.key.now (record { write = c.args.event; rank = r }) in
    on_ok_weaker c.learn.result
    (λ learnt. learnt ∙ ap with_rank rank
    ∙ ap (λ (k : List ℕ). learn_entry table k (entry_for events e)) key ∙ ap (rows_with events table) (sym writes))
    c.learn.ensures.learnt

pub returns-in-Some-clause-in_place : goal.returns-in-Some-clause-in_place
returns-in-Some-clause-in_place c = λ need.
    let events = c.args.history.now.events in
    let e = c.args.event.0 in
    let table = c.args.table.now in
    let record_is = rw c.unwrap-record.ensures at c.get.ensures.event in
    let key : c.in-Some.key.now ≡ key_at events e = c.in-Some.ensures.key ∙ ap (λ (x : StampedEvent). key_of x.event.kind) record_is in
    let is_write : IsWrite (event_at events e).kind =
    subst (λ (x : StampedEvent). IsWrite x.event.kind) record_is (c.in-Some.ensures.written.0 refl) in
    let writes = own_write events e (event_at events e).kind is_write in
    let known : IsSome (entry_at table (key_at events e)) = subst (NeedNoMemory events table) writes need in
    c.learn.ensures.known (subst (λ (k : List ℕ). IsSome (entry_at table k)) (sym key) known)

pub returns-then-is_repeat-clause-rows : goal.returns-then-is_repeat-clause-rows
returns-then-is_repeat-clause-rows c =
    let h = history_of c.args.history.now in
    let e = c.args.event.0 in
    let kind = (event_at h.events e).kind in
    let well = c.keeps_a_well_formed_history.ensures in
    let record_is = rw c.unwrap-record.ensures at c.get.ensures.event in
    let repeat : IsRepeat h.events e kind =
    subst (λ (x : StampedEvent). IsRepeat h.events e x.event.kind) record_is (c.is_repeat.ensures.0 c.if-is_repeat.true) in
    let stays = repeat_leaves_rows h (event_at h.events e).node e kind well repeat
    (λ sent is. delivered_at_target h well e sent c.requires.exists is) in
    subst (λ (rows : List Row). rows ≡ rows_with h.events rows (writes_learnt h.events e kind)) (sym c.requires.knows) (sym stays)

pub learn_all-requires-clause-writes : goal.learn_all-requires-clause-writes
learn_all-requires-clause-writes c =
    let fit = well_formed_names_fit (history_of c.args.history.now) c.keeps_a_well_formed_history.ensures in
    grind (arith, common_steps, learnt_at_event c.args.history.now.events fit c.args.event.0 c.requires.exists)

pub learn_all-requires-clause-one_write_a_rank : goal.learn_all-requires-clause-one_write_a_rank
learn_all-requires-clause-one_write_a_rank c =
    let h = history_of c.args.history.now in
    let fit = well_formed_names_fit h c.keeps_a_well_formed_history.ensures in
    let e = c.args.event.0 in
    let exists = c.requires.exists in
    let one_before = one_write_a_rank h.events (event_at h.events e).node e fit c.requires.least (omega arith) in
    subst (OneWriteARank h.events) (sym c.requires.knows) one_before
