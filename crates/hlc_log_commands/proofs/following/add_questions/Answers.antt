use Rattle.std.proofs.Common.{◌≡◌, ◌∙◌, ◌<◌, ◌+◌, ◌++◌, ◌∷◌, [], ℕ, List, Some, ap, append-nil, append_assoc, arith, length, length-append, subst, sym}
use Rattle.std.specs.Prelude.{slice_get}
use Rattle.std.proofs.lemmas.Bool.Decides.{nat_tests}
use Rattle.std.proofs.lemmas.Result.{err_from_is_err_and}
use Rattle.hlc_json_lines.specs.Lines.{lines_of}
use Rattle.hlc_log_text.specs.declared.question.LogQuestion.{LogQuestion}
use Rattle.hlc_log_commands.specs.Following.{AreAdded, IsMistaken, IsMistakenAt}
use Rattle.hlc_log_commands.proofs.FollowingFacts.{add-fault, added-both, line-after}
use Rattle.hlc_log_commands.proofs.following.add_questions.Goals as goal
use Rattle.hlc_log_commands.proofs.following.add_questions.Invariants.{AreRead}

-- one line more was read
read : (text rest line below : List ℕ) (number : ℕ) (before between after : List LogQuestion) → AreRead text rest number before between
    → lines_of rest ≡ line ∷ lines_of below → length below < length rest → AreAdded (line ∷ []) between after
    → AreRead text below (number + 1) before after
read text rest line below number before between after so lines fewer added = record {
  above = so.above ++ line ∷ [];
  whole = so.whole ∙ ap (λ (ls : List (List ℕ)). so.above ++ ls) lines ∙ sym (append_assoc so.above (line ∷ []) (lines_of below));
  count = let count = so.count in omega (arith, count, length-append so.above (line ∷ []));
  within = let within = so.within in omega (arith, within, fewer);
  added = added-both so.above (line ∷ []) before between after so.added added;
}

-- once no line is left all were read
all_read : (text rest : List ℕ) (number : ℕ) (before after : List LogQuestion) → AreRead text rest number before after → length rest ≡ 0
    → AreAdded (lines_of text) before after
all_read text [] number before after so none =
    subst (λ (ls : List (List ℕ)). AreAdded ls before after) (sym (so.whole ∙ append-nil so.above)) so.added
all_read text (byte ∷ rest) number before after so none = absurd (omega (arith, none))

-- the line at which it stopped is the next one
mistaken : (text rest line below : List ℕ) (number : ℕ) (before between : List LogQuestion) → AreRead text rest number before between
    → lines_of rest ≡ line ∷ lines_of below → (told : ℕ) → (told ≡ number + 1) × IsMistaken line → IsMistakenAt (lines_of text) told
mistaken text rest line below number before between so lines told is =
    let all : lines_of text ≡ so.above ++ line ∷ lines_of below = so.whole ∙ ap (λ (ls : List (List ℕ)). so.above ++ ls) lines in (
      length so.above,
      line,
      is.0 ∙ ap (λ (n : ℕ). n + 1) so.count,
      subst (λ (ls : List (List ℕ)). slice_get ls (length so.above) ≡ Some line) (sym all) (line-after so.above line (lines_of below)),
      is.1,
    )

pub loop-rest-preserved : goal.loop-rest-preserved
loop-rest-preserved c =
    let rest = c.loop-rest.rest.now in
    let some : 0 < length rest = grind (arith, nat_tests, c.is_empty.ensures, c.loop-rest-test.true) in
    read c.args.text.now rest c.first_line.result.0.now c.first_line.result.1.now c.loop-rest.number c.args.questions.now.items _ _ c.loop-rest.invariant
    (c.first_line.ensures.lines some) (c.first_line.ensures.fewer some) c.in_ok-add_line.ensures.added

pub returns-in_err-add_line-clause-other : goal.returns-in_err-add_line-clause-other
returns-in_err-add_line-clause-other c =
    let from = err_from_is_err_and c.from_residual.result c.from_residual.ensures.1 in
    let rest = c.loop-rest.rest.now in
    let line = c.first_line.result.0.now in
    let below = c.first_line.result.1.now in
    let number = c.loop-rest.number in
    let some : 0 < length rest = grind (arith, nat_tests, c.is_empty.ensures, c.loop-rest-test.true) in
    rw (from.1, from.2)
    (add-fault (λ (told : ℕ). (told ≡ number + 1) × IsMistaken line) (IsMistakenAt (lines_of c.args.text.now))
    (mistaken c.args.text.now rest line below number _ _ c.loop-rest.invariant (c.first_line.ensures.lines some)) c.in_err-add_line.field-0.0
    c.in_err-add_line.ensures.other)

pub returns-clause-added : goal.returns-clause-added
returns-clause-added c =
    let rest = c.loop-rest.rest.now in
    let none : length rest ≡ 0 = grind (arith, nat_tests, c.is_empty.ensures, c.loop-rest-test.false) in
    all_read c.args.text.now rest c.loop-rest.number _ _ c.loop-rest.invariant none
