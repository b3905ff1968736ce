use Rattle.std.proofs.Common.{◌≡◌, [], ◌∷◌, List, codes, decimal, subst, ℕ}
use Rattle.std.specs.Prelude.{OnOk}
use Rattle.hlc_csv.specs.Rows.{AddsRows, Fields}
use Rattle.std.proofs.lemmas.Result.{on_ok_weaker}
use Rattle.hlc_log_text.proofs.RowsAdded.{adds_joined, adds_one}
use Rattle.hlc_watched_log.proofs.summary.push_counts.Goals as goal

pub returns : goal.returns
returns g c =
    let counts = c.args.counts in
    let messages = codes "messages" ∷ decimal counts.sent ∷ decimal counts.received ∷ [] in
    let waiting = codes "waiting" ∷ decimal c.from.result ∷ [] in
    let forgotten = codes "forgotten" ∷ decimal c.args.forgotten ∷ [] in
    let left_out = codes "left-out" ∷ decimal counts.left_out ∷ [] in
    let same : c.from.result ≡ c.args.waiting = c.from.ensures in
    subst (λ (n : ℕ). (let rows : List Fields = messages ∷ (codes "waiting" ∷ decimal n ∷ []) ∷ forgotten ∷ left_out ∷ [] in
    OnOk c.push_numbers-4.result (AddsRows g.W.Write.contents c.args.writer.now c.push_numbers-4.new.writer c.args.rows.now c.push_numbers-4.new.self rows))) same
    (on_ok_weaker c.push_numbers-4.result (λ last.
    adds_joined _ _ _ _ _ _ (messages ∷ []) (waiting ∷ forgotten ∷ left_out ∷ []) (adds_one _ _ _ _ messages c.in_ok-push_numbers.ensures.added)
    (adds_joined _ _ _ _ _ _ (waiting ∷ []) (forgotten ∷ left_out ∷ []) (adds_one _ _ _ _ waiting c.in_ok-push_numbers-2.ensures.added)
    (adds_joined _ _ _ _ _ _ (forgotten ∷ []) (left_out ∷ []) (adds_one _ _ _ _ forgotten c.in_ok-push_numbers-3.ensures.added)
    (adds_one _ _ _ _ left_out last))))
    c.push_numbers-4.ensures.added)
