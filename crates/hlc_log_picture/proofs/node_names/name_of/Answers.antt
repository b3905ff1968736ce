use Rattle.std.proofs.Common.{◌∙◌, ap, [], List, ℕ, Option, Bor}
use Rattle.std.specs.Prelude.{unwrap_or}
use Rattle.std.proofs.lemmas.Option.{unwrap_or-slice_get}
use Rattle.hlc_csv.proofs.RowFacts.{unwrap_or-now}
use Rattle.hlc_log_picture.proofs.node_names.name_of.Goals as goal

pub returns : goal.returns
returns c =
    ap (λ (s : Bor (List ℕ)). s.now) c.unwrap_or.ensures ∙ unwrap_or-now c.name.result _ ∙ ap (λ (o : Option (List ℕ)). unwrap_or o []) c.name.ensures
    ∙ unwrap_or-slice_get c.args.names.now c.args.number []
