use Rattle.std.proofs.Common.{◌∙◌, List, ℕ, ap, inl, inr, subst}
use Rattle.std.proofs.lemmas.Result.{err_from_is_err_and}
use Rattle.hlc_json_lines.specs.Rules.{Rules, field_of_text, kind_of_text}
use Rattle.hlc_command_line.specs.JsonOptions.{AddKinds, AddPaths, LacksMeaning}
use Rattle.hlc_page.specs.Given.{texts_in}
use Rattle.hlc_page.proofs.GivenFacts.{kind_mistake, path_mistake}
use Rattle.hlc_page.proofs.given.line_rules.Goals as goal

pub returns-in_err-fields-clause-mistaken : goal.returns-in_err-fields-clause-mistaken
returns-in_err-fields-clause-mistaken c =
    let from = err_from_is_err_and c.from_residual.result c.from_residual.ensures.1 in
    rw (from.1, from.2) (λ is. inl (inl (c.in_err-fields.ensures.other is)))

pub returns-in_err-kinds-clause-mistaken : goal.returns-in_err-kinds-clause-mistaken
returns-in_err-kinds-clause-mistaken c =
    let from = err_from_is_err_and c.from_residual-in_err-kinds.result c.from_residual-in_err-kinds.ensures.1 in
    rw (from.1, from.2) (λ is. inr (inl (c.in_err-kinds.ensures.other is)))

pub returns-in_err-add_fields-clause-mistaken : goal.returns-in_err-add_fields-clause-mistaken
returns-in_err-add_fields-clause-mistaken c =
    let from = err_from_is_err_and c.from_residual-in_err-add_fields.result c.from_residual-in_err-add_fields.ensures.1 in
    let same = ap texts_in c.deref.ensures.value ∙ c.in_ok-fields.ensures.texts in
    rw (from.1, from.2)
    (λ is. inl (inr (subst (λ (ts : List (List ℕ)). LacksMeaning field_of_text ts) same
    (path_mistake _ c.in_err-add_fields.field-0.0 c.in_err-add_fields.ensures.other is))))

pub returns-in_err-add_kinds-clause-mistaken : goal.returns-in_err-add_kinds-clause-mistaken
returns-in_err-add_kinds-clause-mistaken c =
    let from = err_from_is_err_and c.from_residual-in_err-add_kinds.result c.from_residual-in_err-add_kinds.ensures.1 in
    let same = ap texts_in c.deref-2.ensures.value ∙ c.in_ok-kinds.ensures.texts in
    rw (from.1, from.2)
    (λ is. inr (inr (subst (λ (ts : List (List ℕ)). LacksMeaning kind_of_text ts) same
    (kind_mistake _ c.in_err-add_kinds.field-0.0 c.in_err-add_kinds.ensures.other is))))

pub returns-clause-found : goal.returns-clause-found
returns-clause-found c =
    let fields = ap texts_in c.deref.ensures.value ∙ c.in_ok-fields.ensures.texts in
    let kinds = ap texts_in c.deref-2.ensures.value ∙ c.in_ok-kinds.ensures.texts in
    let paths =
    subst (λ (old : Rules). AddPaths (texts_in c.args.log.now.fields.now) old c.add_fields.new.rules) c.new-rules.ensures
    (subst (λ (ts : List (List ℕ)). AddPaths ts c.new-rules.result c.add_fields.new.rules) fields c.in_ok-add_fields.ensures.added) in
    let values = subst (λ (ts : List (List ℕ)). AddKinds ts c.add_fields.new.rules c.add_kinds.new.rules) kinds c.in_ok-add_kinds.ensures.added in
    (c.add_fields.new.rules, paths, values)
