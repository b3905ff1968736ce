use Rattle.std.proofs.Common.{◌≡◌, ◌∙◌, ℕ, ◌<◌, List, [], ◌∷◌, ◌++◌, length, map, sym, subst, ap, arith}
use Rattle.std.proofs.lemmas.List.{length_push}
use Rattle.std.proofs.lemmas.Option.{MatchOption-at_some}
use Rattle.std.proofs.lemmas.Result.{on_ok_weaker}
use Rattle.std.specs.Prelude.{All, IfSome}
use Rattle.hlc_stamp.specs.declared.id.EventId.{EventId}
use Rattle.hlc_stamp.specs.declared.rank.Rank.{Rank}
use Rattle.hlc_arena.specs.History.{Delivered, EventKind, StampedEvent, delivered_send, event_at}
use Rattle.hlc_arena.specs.Known.{carried_by, rank_at, writes_learnt}
use Rattle.hlc_arena.specs.Kinds.{event_kind_of}
use Rattle.hlc_arena.proofs.KnownWrites.{send_carries_writes}
use Rattle.hlc_table.specs.Rows.{Row, entry_at}
use Rattle.hlc_arena.proofs.Places.{stamped_at-last}
use Rattle.hlc_table.specs.NextEvent.{event_of}
use Rattle.hlc_table.specs.declared.next_event.NextEvent.{NextEvent}
use Rattle.hlc_table.specs.Tables.{OneWriteARank, rows_with}
use Rattle.hlc_table.proofs.Ranks.{rank_of}
use Rattle.hlc_table.proofs.NextWrites.{one_write_a_rank-before, rows_with-before}
use Rattle.hlc_table.proofs.learner.learn_next.Goals as goal

pub learn_all-requires-clause-one_write_a_rank : goal.learn_all-requires-clause-one_write_a_rank
learn_all-requires-clause-one_write_a_rank c =
    let x = event_of c.args.next.now in
    one_write_a_rank-before c.args.history.now.events x c.args.table.now c.requires.one_write_a_rank

pub returns-in-Deliver-clause-rows : goal.returns-in-Deliver-clause-rows
returns-in-Deliver-clause-rows c =
    let others = c.args.history.now.events in
    let x = event_of c.args.next.now in
    let sent = c.in-Deliver.sent in
    let kind : event_kind_of c.args.next.now.kind ≡ Delivered sent.0 = ap event_kind_of c.in-Deliver.is in
    let carried = carried_by (event_at others sent.0).kind in
    let writes : map (λ (w : EventId). w.0) c.carried.result.now ≡ carried = c.carried.ensures in
    let names_earlier = c.requires.names.earlier.delivered in
    let exists : sent.0 < length others =
    MatchOption-at_some (Unit {0}) (λ m. m < length others) sent.0 (ap delivered_send kind) names_earlier in
    let there = send_carries_writes others c.requires.fit sent.0 exists in
    let below : All (λ w. w < length others) carried = λ k d within. (there k d within).0 in
    on_ok_weaker c.learn_all.result
    (λ learnt. learnt ∙ ap (rows_with others c.args.table.now) writes ∙ rows_with-before others x c.args.table.now carried below
    ∙ ap (λ (k : EventKind). rows_with (others ++ x ∷ []) c.args.table.now (writes_learnt others (length others) k)) (sym kind))
    c.learn_all.ensures.rows

-- an entry of the event's rank is its own write
one_write : (others : List StampedEvent) (next : NextEvent) (table : List Row) (len : ℕ) (key : List ℕ)
    → OneWriteARank (others ++ event_of next ∷ []) table → len ≡ length others
    → IfSome (entry_at table key) (λ held. held.rank ≡ record { stamp = next.stamp; node = next.node } → held.write ≡ record { 0 = len })
one_write others next table len key one_a_rank is =
    let x = event_of next in
    let size = length_push others x in
    let one = one_a_rank key (length others) (omega arith) in
    let rank : rank_at (others ++ x ∷ []) (length others) ≡ rank_of x = ap rank_of (stamped_at-last others x) in
    let OneOfRank : Rank → ℕ → Type 0 = λ r n. IfSome (entry_at table key) (λ held. held.rank ≡ r → held.write ≡ record { 0 = n }) in
    subst (OneOfRank (rank_of x)) (sym is) (subst (λ (r : Rank). OneOfRank r (length others)) rank one)

pub learn-requires : goal.learn-requires
learn-requires c =
    let one = c.requires.one_write_a_rank in
    record { one_write_a_rank = one_write c.args.history.now.events c.args.next.now c.args.table.now c.len.result _ one c.len.ensures.value }

pub carried-requires : goal.carried-requires
carried-requires c =
    let names_earlier = c.requires.names.earlier.delivered in
    MatchOption-at_some (Unit {0}) (λ m. m < length c.args.history.now.events) c.in-Deliver.sent.0
    (ap (λ kind. delivered_send (event_kind_of kind)) c.in-Deliver.is) names_earlier

pub returns-in-Deliver-clause-unchanged : goal.returns-in-Deliver-clause-unchanged
returns-in-Deliver-clause-unchanged c = c.learn_all.ensures.unchanged

pub returns-in-Write-clause-unchanged : goal.returns-in-Write-clause-unchanged
returns-in-Write-clause-unchanged c = c.learn.ensures.unchanged
