use Rattle.std.proofs.Common.{◌≡◌, ◌≤◌, ◌∙◌, [], ◌∷◌, ap, codes, sym}
use Rattle.std.proofs.lemmas.Bool.{false≢true}
use Rattle.hlc_arena.specs.History.{History}
use Rattle.hlc_core.specs.Step.{entry_in}
use Rattle.hlc_csv.specs.Rows.{Fields}
use Rattle.hlc_text.specs.Questions.{entry_row, key_row}
use Rattle.hlc_text.proofs.QuestionFacts.{key_row-entry, key_row-none, if_node-there}
use Rattle.hlc_text.proofs.question_reply.entry_reply.Goals as goal

pub returns-in-Some-get : goal.returns-in-Some-get
returns-in-Some-get c =
    let old = c.args.cluster.now in
    let node = c.args.node.0 in
    let key = c.args.key.now in
    let row = key_row old.history.events key (entry_in old node key) in
    let within : ¬ (old.history.nodes ≤ node) = λ beyond. false≢true (sym (c.in-Some.ensures.none.1 beyond)) in
    let entry = c.in-Some-get.entry in
    let table = c.in-Some.table.now in
    let is : entry_row c.history.result.now.events key entry ≡ row =
    ap (λ (h : History). entry_row h.events key entry) c.history.ensures.history
    ∙ sym (key_row-entry old.history.events node key table entry c.in-Some.ensures.rows c.in-Some-get.ensures.entry) in
    (ap (λ (r : Fields). r ∷ []) is ∙ sym (if_node-there old node (row ∷ []) within))

pub returns-in-None-get : goal.returns-in-None-get
returns-in-None-get c =
    let old = c.args.cluster.now in
    let node = c.args.node.0 in
    let key = c.args.key.now in
    let row = key_row old.history.events key (entry_in old node key) in
    let within : ¬ (old.history.nodes ≤ node) = λ beyond. false≢true (sym (c.in-Some.ensures.none.1 beyond)) in
    let is : row ≡ codes "none" ∷ key ∷ [] =
    key_row-none old.history.events node key c.in-Some.table.now c.in-Some.ensures.rows c.in-None-get.ensures.entry in
    (ap (λ (r : Fields). r ∷ []) (sym is) ∙ sym (if_node-there old node (row ∷ []) within))
