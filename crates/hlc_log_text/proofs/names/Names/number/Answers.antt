use Rattle.std.proofs.Common.{◌∙◌, ℕ, List, ap, position}
use Rattle.std.specs.Str.{bytes_eq}
use Rattle.hlc_log_text.proofs.NameFacts.{name_at_number}
use Rattle.hlc_log_text.proofs.names.Names.number.Goals as goal

pub returns-clause-name : goal.returns-clause-name
returns-clause-name c =
    let found = c.get_index_of-2.ensures.index
    ∙ ap (λ (name : List ℕ). position (bytes_eq name) c.self.inside.names.keys) c.borrowed.ensures
    ∙ ap (λ (names : List (List ℕ)). position (bytes_eq c.args.name.now) names) c.self.view_is in
    name_at_number c.args.self.now c.args.name.now c.get_index_of-2.result found
