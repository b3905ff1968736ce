use Rattle.std.proofs.Common.{◌≡◌, ◌∙◌, ◌<◌, ◌++◌, ◌∷◌, ℕ, List, ap, append_assoc, arith, false, length, sym}
use Rattle.std.proofs.lemmas.Bool.Decides.{nat_tests}
use Rattle.hlc_json_lines.specs.Lines.{lines_of}
use Rattle.hlc_log_commands.specs.Following.{is_marker, log_part}
use Rattle.hlc_log_commands.proofs.FollowingFacts.{log-past, questions-below, questions-past}
use Rattle.hlc_log_commands.proofs.following.parts.Goals as goal
use Rattle.hlc_log_commands.proofs.following.parts.Invariants.{IsPassed}

-- one line more is of the log
passed : (input rest line below : List ℕ) → IsPassed input rest → rest ≡ line ++ below → lines_of rest ≡ line ∷ lines_of below → is_marker line ≡ false
    → IsPassed input below
passed input rest line below so whole lines other = record {
  above = so.above ++ line;
  whole = so.whole ∙ ap (λ (t : List ℕ). so.above ++ t) whole ∙ sym (append_assoc so.above line below);
  log =
      so.log ∙ ap (λ (t : List ℕ). so.above ++ t) (log-past rest line below lines other) ∙ sym (append_assoc so.above line (log_part below));
  questions = so.questions ∙ questions-past rest line below lines other;
}

pub returns-then-is_marker-clause-questions : goal.returns-then-is_marker-clause-questions
returns-then-is_marker-clause-questions c =
    let rest = c.loop-line.rest.now in
    let line = c.first_line.result.0.now in
    let below = c.first_line.result.1.now in
    let some : 0 < length rest = grind (arith, nat_tests, c.is_empty.ensures, c.loop-line-test.true) in
    sym (c.loop-line.invariant.questions ∙ questions-below rest line below (c.first_line.ensures.lines some) (sym c.is_marker.ensures ∙ c.if-is_marker.true))

pub loop-line-preserved : goal.loop-line-preserved
loop-line-preserved c =
    let rest = c.loop-line.rest.now in
    let line = c.first_line.result.0.now in
    let below = c.first_line.result.1.now in
    let some : 0 < length rest = grind (arith, nat_tests, c.is_empty.ensures, c.loop-line-test.true) in
    passed c.args.input.now rest line below c.loop-line.invariant c.first_line.ensures.whole (c.first_line.ensures.lines some)
    (sym c.is_marker.ensures ∙ c.if-is_marker.false)
