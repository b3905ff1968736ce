use Rattle.std.proofs.Common.{◌≡◌, ◌∙◌, List, ℕ, Some, ap, position, subst, sym}
use Rattle.std.specs.Option.{is_some}
use Rattle.std.specs.Str.{bytes_eq}
use Rattle.hlc_log_text.proofs.NameFacts.{has_number, name_at_number}
use Rattle.hlc_log_text.proofs.node_names.NodeNames.number.Goals as goal

pub returns-then-has_number-clause-name : goal.returns-then-has_number-clause-name
returns-then-has_number-clause-name c =
    let found = sym (c.has_number.ensures.0 c.if-has_number.true) in
    name_at_number c.args.self.now c.args.name.now (Some c.from-hint.result)
    (subst (λ (names : List (List ℕ)). Some c.from-hint.result ≡ position (bytes_eq c.args.name.now) names) c.self.view_is found)

pub returns-then-has_number-clause-known : goal.returns-then-has_number-clause-known
returns-then-has_number-clause-known c =
    let found = sym (c.has_number.ensures.0 c.if-has_number.true) in
    let here = subst (λ (names : List (List ℕ)). Some c.from-hint.result ≡ position (bytes_eq c.args.name.now) names) c.self.view_is found in
    ap is_some here ∙ has_number c.args.self.now c.args.name.now
