use Rattle.std.proofs.Common.{◌≡◌, ◌∙◌, ◌==◌, ◌+◌, ◌++◌, ◌∷◌, [], ℕ, List, arith, ap, append_assoc, drop, eqb-true, get_or, length, sym, take, take_all}
use Rattle.std.proofs.lemmas.Result.{on_ok_weaker}
use Rattle.csv.proofs.WriteFacts.{slice-end}
use Rattle.hlc_csv.proofs.QuoteFacts.{none-before}
use Rattle.hlc_json_lines.specs.FieldText.{one_line, with_point}
use Rattle.hlc_json_lines.proofs.PartFacts.{around}
use Rattle.hlc_json_lines.proofs.TextFacts.{one_line-append, with_point-none, with_point-past}
use Rattle.hlc_json_lines.proofs.field_text.put_stamp.Goals as goal

pub returns-in_ok-extend_from_slice-in-Some : goal.returns-in_ok-extend_from_slice-in-Some
returns-in_ok-extend_from_slice-in-Some c =
    let stamp = c.before_byte-stamp.result.now in
    let at = c.in-Some.at in
    let found = c.in-Some.ensures in
    let none = none-before (λ b. b == 58) stamp at found.0.before in
    let run = take at stamp in
    let after = drop (at + 1) stamp in
    let before = c.args.field.now.items in
    let parts : stamp ≡ run ++ 58 ∷ after = around stamp at found.0.high ∙ ap (λ (b : ℕ). run ++ b ∷ after) (eqb-true (get_or stamp at 0) 58 found.1) in
    let pointed : with_point stamp ≡ run ++ 46 ∷ after = ap with_point parts ∙ with_point-past run after none in
    let whole : one_line (with_point stamp) ≡ one_line run ++ 46 ∷ one_line after = ap one_line pointed ∙ one_line-append run (46 ∷ after) in
    let grown = c.in_ok-extend_from_slice-in-Some.ensures.items ∙ ap (λ (t : List ℕ). t ++ 46 ∷ []) c.in_ok-put_one_line-in-Some.ensures in
    let last = rw (slice-end stamp (at + 1)) at c.put_one_line-in-Some.ensures in
    rw (sym c.before_byte-stamp.ensures, whole)
    (on_ok_weaker c.put_one_line-in-Some.result
    (λ items. items ∙ ap (λ (t : List ℕ). t ++ one_line after) grown ∙ append_assoc (before ++ one_line run) (46 ∷ []) (one_line after)
    ∙ append_assoc before (one_line run) (46 ∷ one_line after))
    last)

pub returns-in-None : goal.returns-in-None
returns-in-None c =
    let stamp = c.before_byte-stamp.result.now in
    let none = rw (take_all (length stamp) stamp (omega arith)) at (none-before (λ b. b == 58) stamp (length stamp) c.in-None.ensures) in
    rw (sym c.before_byte-stamp.ensures, with_point-none stamp none) c.put_one_line-in-None.ensures
