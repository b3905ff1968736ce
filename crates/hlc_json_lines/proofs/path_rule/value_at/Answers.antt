use Rattle.std.proofs.Common.{◌∙◌, List, None, Some, ap, lit<, sym}
use Rattle.std.specs.Prelude.{option_and_then}
use Rattle.serde_json.specs.View.{view}
use Rattle.hlc_json_lines.specs.Paths.{Key, keys_in, value_at}
use Rattle.hlc_json_lines.proofs.PartFacts.{split-once, text-after}
use Rattle.hlc_json_lines.proofs.PathFacts.{at-once}
use Rattle.hlc_json_lines.proofs.path_rule.value_at.Goals as goal

pub loop-key-preserved : goal.loop-key-preserved
loop-key-preserved c =
    let inv = c.loop-key.invariant in
    let rest = c.loop-key.rest.now in
    let inner = view c.loop-key.inner.now in
    let split = split-once 46 rest (Some (c.in-Some.key, c.in-Some.after)) c.in-Some.ensures.cases (lit< tt) in (
      ap (option_and_then (value_at (keys_in c.in-Some.after.now))) c.in_ok-inner.ensures ∙ sym (ap (λ (keys : List Key). value_at keys inner) split) ∙ inv.0,
      text-after 46 rest (c.in-Some.key, c.in-Some.after) c.in-Some.ensures.cases inv.1,
    )

pub returns-in_err-inner : goal.returns-in_err-inner
returns-in_err-inner c =
    let rest = c.loop-key.rest.now in
    let inner = view c.loop-key.inner.now in
    let split = split-once 46 rest (Some (c.in-Some.key, c.in-Some.after)) c.in-Some.ensures.cases (lit< tt) in
    rw c.from_residual.ensures
    (ap (option_and_then (value_at (keys_in c.in-Some.after.now))) c.in_err-inner.ensures ∙ sym (ap (λ (keys : List Key). value_at keys inner) split)
    ∙ c.loop-key.invariant.0)

pub returns : goal.returns
returns c =
    let rest = c.loop-key.rest.now in
    let inner = view c.loop-key.inner.now in
    let split = split-once 46 rest None c.in_default.ensures.cases (lit< tt) in
    c.get-2.ensures ∙ sym (at-once _) ∙ sym (ap (λ (keys : List Key). value_at keys inner) split) ∙ c.loop-key.invariant.0
