use Rattle.std.proofs.Common.{◌∙◌, ap, get_or, [], List, ℕ, Option, Bor}
use Rattle.std.specs.Prelude.{unwrap_or}
use Rattle.std.proofs.lemmas.Option.{unwrap_or-slice_get}
use Rattle.hlc_csv.proofs.RowFacts.{unwrap_or-now}
use Rattle.hlc_watched_log.proofs.log_names.LogNames.node.Goals as goal

pub returns : goal.returns
returns c =
    let found = ap (λ (o : Option (List ℕ)). unwrap_or o []) c.name.ensures in
    ap (λ (s : Bor (List ℕ)). s.now) c.unwrap_or.ensures ∙ unwrap_or-now c.name.result _ ∙ found
    ∙ unwrap_or-slice_get c.names.result.now c.args.node.0 [] ∙ ap (λ (names : List (List ℕ)). get_or names c.args.node.0 []) c.names.ensures
