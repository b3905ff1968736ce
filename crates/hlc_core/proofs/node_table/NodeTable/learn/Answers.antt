use Rattle.std.proofs.Common.{◌≡◌, ◌∙◌, ◌∷◌, ◌++◌, [], ℕ, List, length, sym, subst}
use Rattle.hlc_arena.specs.Arena.{history_of}
use Rattle.hlc_arena.proofs.Following.{well_formed_names_fit}
use Rattle.hlc_arena.proofs.KnownWrites.{fit_names_are_earlier}
use Rattle.hlc_arena.specs.Known.{writes_learnt}
use Rattle.hlc_table.specs.Rows.{Row}
use Rattle.hlc_table.specs.NextEvent.{event_of}
use Rattle.hlc_table.specs.Repeats.{IsRepeat}
use Rattle.hlc_table.specs.Tables.{OneWriteARank, rows_with}
use Rattle.hlc_table.proofs.NextWrites.{one_write_a_rank-next}
use Rattle.hlc_table.proofs.Repeats.{repeat_leaves_table}
use Rattle.hlc_core.proofs.node_table.NodeTable.learn.Goals as goal

pub is_repeat-requires : goal.is_repeat-requires
is_repeat-requires c = record { exists = c.requires.follows.names.earlier.delivered }

pub returns-then-is_repeat-clause-rows : goal.returns-then-is_repeat-clause-rows
returns-then-is_repeat-clause-rows c =
    let h = history_of c.args.history.now in
    let x = event_of c.args.next.now in
    let kind = x.event.kind in
    let repeat : IsRepeat h.events (length h.events) kind =
    subst (λ (n : ℕ). IsRepeat h.events n kind) c.len.ensures.value (c.is_repeat.ensures.0 c.if-is_repeat.true) in
    let stays = repeat_leaves_table h x c.len.ensures.well_formed repeat c.requires.follows in
    let learnt = writes_learnt h.events (length h.events) kind in
    subst (λ (rows : List Row). rows ≡ rows_with (h.events ++ x ∷ []) rows learnt) (sym c.requires.knows) (sym stays)

pub learn_next-requires : goal.learn_next-requires
learn_next-requires c =
    let h = history_of c.args.history.now in
    let x = event_of c.args.next.now in
    let fit = well_formed_names_fit h c.len.ensures.well_formed in
    let one = one_write_a_rank-next h.events x x.event.node (fit_names_are_earlier h.events fit) c.requires.least in
    record {
      fit = fit;
      names = c.requires.follows.names;
      one_write_a_rank = subst (OneWriteARank (h.events ++ x ∷ [])) (sym (c.self.view_is ∙ c.requires.knows)) one;
    }
