use Rattle.std.proofs.Common.{◌≡◌, ◌∙◌, ◌+◌, ◌==◌, ◌++◌, ◌∷◌, [], ℕ, List, length, take, take_all, refl, sym, ap, append_assoc, arith}
use Rattle.std.proofs.lemmas.Result.{err_from_is_err_and, on_ok_weaker}
use Rattle.csv.specs.Writing.{escaped}
use Rattle.csv.proofs.WriteFacts.{escaped-append, escaped-none, slice-end}
use Rattle.hlc_csv.proofs.QuoteFacts.{around-quote, escaped-past, none-before}
use Rattle.hlc_csv.proofs.RowTextFacts.{on_ok-added}
use Rattle.hlc_csv.specs.Rows.{row_setup}
use Rattle.hlc_csv.proofs.row_buffer.put_quoted.Goals as goal

pub loop-at-init : goal.loop-at-init
unfolding escaped
loop-at-init c = ([], refl, c.in_ok-extend_from_slice.ensures.items)

pub loop-at-preserved : goal.loop-at-preserved
loop-at-preserved c =
    let inv = c.loop-at.invariant in
    let rest = c.loop-at.rest.now in
    let at = c.in-Some.at in
    let found = c.in-Some.ensures in
    let none = none-before (λ b. b == 34) rest at found.0.before in
    let before = c.args.text.now.items in
    let so_far = 34 ∷ escaped row_setup inv.0 in
    let run = take at rest in
    let twice = 34 ∷ 34 ∷ [] in
    let around = around-quote rest at found.0.high found.1 in
    let grown = c.in_ok-extend_from_slice-2.ensures.items ∙ ap (λ (t : List ℕ). t ++ run) inv.2 in (
      inv.0 ++ (run ++ 34 ∷ []),
      rw (slice-end rest (at + 1)) (inv.1 ∙ ap (λ (t : List ℕ). inv.0 ++ t) around ∙ sym (append_assoc inv.0 _ _)),
      rw (escaped-past inv.0 run none)
          (c.in_ok-extend_from_slice-3.ensures.items ∙ ap (λ (t : List ℕ). t ++ twice) grown
          ∙ append_assoc (before ++ so_far) run twice ∙ append_assoc before so_far (run ++ twice)),
    )

pub returns : goal.returns
returns c =
    let inv = c.loop-at.invariant in
    let rest = c.loop-at.rest.now in
    let none = rw (take_all (length rest) rest (omega arith)) at (none-before (λ b. b == 34) rest (length rest) c.in_default.ensures) in
    let done = escaped row_setup inv.0 in
    let whole : escaped row_setup c.args.field.now ≡ done ++ rest =
    ap (escaped row_setup) inv.1 ∙ escaped-append row_setup inv.0 rest ∙ ap (λ (t : List ℕ). done ++ t) (escaped-none row_setup rest none) in
    let before = c.args.text.now.items in
    let close = 34 ∷ [] in
    let grown = c.in_ok-extend_from_slice-4.ensures.items ∙ ap (λ (t : List ℕ). t ++ rest) inv.2 in
    let last = c.extend_from_slice-3 in
    let closed = on_ok-added last.result _ last.new.self.items _ close last.ensures.items refl in
    rw whole (on_ok_weaker last.result
    (λ items. items ∙ ap (λ (t : List ℕ). t ++ close) grown ∙ append_assoc (before ++ 34 ∷ done) rest close
    ∙ append_assoc before (34 ∷ done) (rest ++ close) ∙ ap (λ (t : List ℕ). before ++ 34 ∷ t) (sym (append_assoc done rest close)))
    closed)

pub returns-in_err-extend_from_slice : goal.returns-in_err-extend_from_slice
returns-in_err-extend_from_slice c = rw (err_from_is_err_and c.from_residual.result c.from_residual.ensures.1).1 tt

pub returns-in_err-extend_from_slice-2 : goal.returns-in_err-extend_from_slice-2
returns-in_err-extend_from_slice-2 c = rw (err_from_is_err_and c.from_residual-in_err-extend_from_slice-2.result c.from_residual-in_err-extend_from_slice-2.ensures.1).1 tt

pub returns-in_err-extend_from_slice-3 : goal.returns-in_err-extend_from_slice-3
returns-in_err-extend_from_slice-3 c = rw (err_from_is_err_and c.from_residual-in_err-extend_from_slice-3.result c.from_residual-in_err-extend_from_slice-3.ensures.1).1 tt

pub returns-in_err-extend_from_slice-4 : goal.returns-in_err-extend_from_slice-4
returns-in_err-extend_from_slice-4 c = rw (err_from_is_err_and c.from_residual-in_err-extend_from_slice-4.result c.from_residual-in_err-extend_from_slice-4.ensures.1).1 tt
