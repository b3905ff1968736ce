use Rattle.std.proofs.Common.{◌≡◌, ◌∙◌, ◌+◌, ◌++◌, ◌∷◌, [], ℕ, List, length, take, take_all, drop, get_or, refl, sym, ap, append_assoc, arith}
use Rattle.std.proofs.lemmas.Result.{on_ok_weaker}
use Rattle.csv.proofs.WriteFacts.{slice-end}
use Rattle.hlc_csv.proofs.QuoteFacts.{none-before}
use Rattle.hlc_csv.proofs.RowTextFacts.{on_ok-added}
use Rattle.hlc_json_lines.specs.FieldText.{line_byte, one_line}
use Rattle.hlc_json_lines.proofs.PartFacts.{around}
use Rattle.hlc_json_lines.proofs.TextFacts.{is_marked, one_line-append, one_line-past, one_line-plain}
use Rattle.hlc_json_lines.proofs.field_text.put_one_line.Goals as goal

pub loop-at-preserved : goal.loop-at-preserved
loop-at-preserved c =
    let inv = c.loop-at.invariant in
    let rest = c.loop-at.rest.now in
    let at = c.in-Some.at in
    let found = c.in-Some.ensures in
    let none = none-before is_marked rest at found.0.before in
    let byte = get_or rest at 0 in
    let run = take at rest in
    let before = c.args.field.now.items in
    let parts : rest ≡ (run ++ byte ∷ []) ++ drop (at + 1) rest = around rest at found.0.high ∙ sym (append_assoc run (byte ∷ []) (drop (at + 1) rest)) in
    let grown = c.in_ok-extend_from_slice.ensures.items ∙ ap (λ (t : List ℕ). t ++ run) inv.2 in
    let marked = rw c.marked_byte.ensures at c.in_ok-extend_from_slice-2.ensures.items in (
      inv.0 ++ (run ++ byte ∷ []),
      rw (slice-end rest (at + 1))
          (inv.1 ∙ ap (λ (t : List ℕ). inv.0 ++ t) parts ∙ sym (append_assoc inv.0 (run ++ byte ∷ []) (drop (at + 1) rest))),
      rw (one_line-past inv.0 run byte none)
          (marked ∙ ap (λ (t : List ℕ). t ++ line_byte byte) grown
          ∙ append_assoc (before ++ one_line inv.0) run (line_byte byte) ∙ append_assoc before (one_line inv.0) (run ++ line_byte byte)),
    )

pub returns : goal.returns
returns c =
    let inv = c.loop-at.invariant in
    let rest = c.loop-at.rest.now in
    let none = rw (take_all (length rest) rest (omega arith)) at (none-before is_marked rest (length rest) c.in_default.ensures) in
    let done = one_line inv.0 in
    let whole : one_line c.args.text.now ≡ done ++ rest =
    ap one_line inv.1 ∙ one_line-append inv.0 rest ∙ ap (λ (t : List ℕ). done ++ t) (one_line-plain rest none) in
    let before = c.args.field.now.items in
    let last = c.extend_from_slice-2 in
    let closed = on_ok-added last.result _ last.new.self.items _ rest last.ensures.items refl in
    rw whole (on_ok_weaker last.result (λ items. items ∙ ap (λ (t : List ℕ). t ++ rest) inv.2 ∙ append_assoc before done rest) closed)
