use Rattle.std.proofs.Common.{◌≡◌, ◌∙◌, ◌<◌, List, sym, ap, subst}
use Rattle.std.specs.Prelude.{option_map}
use Rattle.hlc_stamp.specs.declared.id.EventId.{EventId}
use Rattle.hlc_table.specs.declared.entry.Entry.{Entry}
use Rattle.hlc_table.specs.Rows.{Row, entry_at}
use Rattle.hlc_core.specs.State.{State}
use Rattle.hlc_core.specs.Step.{entry_in}
use Rattle.hlc_core.proofs.TableEntries.{found_entry}
use Rattle.hlc_arena.specs.Arena.{history_of}
use Rattle.hlc_core.proofs.cluster.Cluster.find_entry.Goals.{After-get}
use Rattle.hlc_core.proofs.cluster.Cluster.find_entry.Goals as goal

-- what the table answers is the entry
found : (c : After-get) → option_map (λ (e : Entry). e.write.0) c.get.result ≡ entry_in c.args.self.now c.args.node.0 c.args.key.now
found c =
    let h = history_of c.self.inside.history in
    let node = c.args.node.0 in
    let key = c.args.key.now in
    let exists : node < h.nodes = subst (λ (s : State). node < s.history.nodes) (sym c.self.view_is) c.requires in
    let answer = c.get.ensures.entry ∙ ap (λ (rows : List Row). entry_at rows key) c.table-table.ensures in
    found_entry c.self.invariant.held node exists c.index.ensures key c.get.result answer
    ∙ ap (λ (s : State). entry_in s node key) c.self.view_is

pub returns-in_err-get : goal.returns-in_err-get
returns-in_err-get c =
    ap (option_map (λ (w : EventId). w.0)) c.from_residual.ensures
    ∙ sym (ap (option_map (λ (e : Entry). e.write.0)) c.in_err-get.was)
    ∙ found (goal.at.returns-in_err-get c).After-get

pub returns : goal.returns
returns c = sym (ap (option_map (λ (e : Entry). e.write.0)) c.in_ok-get.was) ∙ found (goal.at.returns c).After-get
