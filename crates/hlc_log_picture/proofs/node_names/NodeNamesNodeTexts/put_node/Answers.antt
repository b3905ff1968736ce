use Rattle.std.proofs.Common.{◌∙◌, ◌++◌, List, ℕ, ap}
use Rattle.std.proofs.lemmas.Result.{on_ok_weaker}
use Rattle.hlc_log_picture.specs.NodeText.{spelled_name}
use Rattle.hlc_log_picture.proofs.node_names.NodeNamesNodeTexts.put_node.Goals as goal

pub returns : goal.returns
returns c =
    on_ok_weaker c.put_name.result
    (λ put. put ∙ ap (λ (name : List ℕ). c.args.text.now.items ++ spelled_name name c.args.number) c.name_of.ensures) c.put_name.ensures
