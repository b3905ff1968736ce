use Rattle.std.proofs.Common.{◌≡◌, ◌∙◌, ℕ, ◌+◌, None, Some, ap, arith}
use Rattle.std.proofs.lemmas.Result.{err_from_is_err_and}
use Rattle.csv.specs.Records.{fields_of}
use Rattle.hlc_text.proofs.RunFacts.{so_far-ended, so_far-more, so_far-start}
use Rattle.hlc_text.proofs.script.answer_records.Goals as goal

pub loop-count-init : goal.loop-count-init
loop-count-init g c =
    (c.requires.script, c.requires.unused.unused.no_record, λ bytes start. so_far-start _ _ bytes _ _ c.requires.unused c.requires.script start)

pub answer-requires : goal.answer-requires
answer-requires g c = let count = c.loop-count.invariant.1 in omega arith

pub loop-count-preserved : goal.loop-count-preserved
loop-count-preserved g c =
    let read = rw c.in_default.is at c.in_ok-end.ensures in (
      read.0,
      c.in_ok-answer.ensures.answer.counted ∙ ap (λ (n : ℕ). n + 1) c.loop-count.invariant.1,
      λ bytes start.
          so_far-more _ _ _ bytes _ _ _ _ _ _ _ (fields_of c.read_next.new.fields) (c.loop-count.invariant.2 bytes start) read c.in_ok-answer.ensures.answer
          c.in_ok-answer.ensures.notes,
    )

pub returns-in-Some-2 : goal.returns-in-Some-2
returns-in-Some-2 g c = λ bytes start.
    let full : c.loop-count._count ≡ c.args.most = omega arith in
    so_far-ended _ _ c.read_next-2.new.input bytes _ _ _ _ _ _ (fields_of c.read_next-2.new.fields) (Some c.in-Some-2.end) (c.loop-count.invariant.2 bytes start) full (rw c.in-Some-2.is at c.in_ok-end-2.ensures)

pub returns-in-None : goal.returns-in-None
returns-in-None g c = λ bytes start.
    let full : c.loop-count._count ≡ c.args.most = omega arith in
    so_far-ended _ _ c.read_next-2.new.input bytes _ _ _ _ _ _ (fields_of c.read_next-2.new.fields) None (c.loop-count.invariant.2 bytes start) full (rw c.in-None.is at c.in_ok-end-2.ensures)

pub returns-in_err-end : goal.returns-in_err-end
returns-in_err-end g c = rw (err_from_is_err_and c.from_residual.result c.from_residual.ensures.1).1 tt

pub returns-in_err-answer : goal.returns-in_err-answer
returns-in_err-answer g c = rw (err_from_is_err_and c.from_residual-in_err-answer.result c.from_residual-in_err-answer.ensures.1).1 tt

pub returns-in_err-end-2 : goal.returns-in_err-end-2
returns-in_err-end-2 g c = rw (err_from_is_err_and c.from_residual-in_err-end-2.result c.from_residual-in_err-end-2.ensures.1).1 tt
