use Rattle.std.proofs.Common.{◌++◌}
use Rattle.std.specs.Prelude.{codes}
use Rattle.std.proofs.lemmas.Result.{on_ok_weaker}
use Rattle.hlc_log_audit.specs.LeftOut.{row_of_word}
use Rattle.hlc_log_text.proofs.RowsAdded.{adds_joined}
use Rattle.hlc_log_audit.proofs.left_out.push_left_out.Goals as goal

pub returns : goal.returns
returns g c =
    let left_out = c.args.left_out.now in
    let word = row_of_word c.args.files.now (codes "word") left_out in
    let fields = row_of_word c.args.files.now (codes "fields") left_out in
    let number = row_of_word c.args.files.now (codes "number") left_out in
    let name = row_of_word c.args.files.now (codes "name") left_out in
    let node = row_of_word c.args.files.now (codes "node") left_out in
    let field = row_of_word c.args.files.now (codes "field") left_out in
    let sent = row_of_word c.args.files.now (codes "sent-twice") left_out in
    let cycle = row_of_word c.args.files.now (codes "cycle") left_out in
    on_ok_weaker c.push_word-8.result (λ last.
    adds_joined _ _ _ _ _ _ word (fields ++ (number ++ (name ++ (node ++ (field ++ (sent ++ cycle)))))) c.in_ok-push_word.ensures
    (adds_joined _ _ _ _ _ _ fields (number ++ (name ++ (node ++ (field ++ (sent ++ cycle))))) c.in_ok-push_word-2.ensures
    (adds_joined _ _ _ _ _ _ number (name ++ (node ++ (field ++ (sent ++ cycle)))) c.in_ok-push_word-3.ensures
    (adds_joined _ _ _ _ _ _ name (node ++ (field ++ (sent ++ cycle))) c.in_ok-push_word-4.ensures
    (adds_joined _ _ _ _ _ _ node (field ++ (sent ++ cycle)) c.in_ok-push_word-5.ensures
    (adds_joined _ _ _ _ _ _ field (sent ++ cycle) c.in_ok-push_word-6.ensures
    (adds_joined _ _ _ _ _ _ sent cycle c.in_ok-push_word-7.ensures last)))))))
    c.push_word-8.ensures
