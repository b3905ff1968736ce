use Rattle.std.proofs.Common.{◌≡◌, ◌∷◌, [], ℕ, arith, inr, refl, subst, sym}
use Rattle.std.specs.Prelude.{Err, IfErr, IfOk, Ok, Result, Vec}
use Rattle.std.specs.List.{AllZip}
use Rattle.std.specs.declared.alloc.Global.{Global}
use Rattle.std.proofs.lemmas.List.Elements.{All-cons, All-nil}
use Rattle.std.proofs.lemmas.Result.{err_from_is_err_and}
use Rattle.hlc_shared.specs.declared.fate.Fate.{Fate}
use Rattle.hlc_shared.specs.declared.fate.Fate.TheVariants.{Memory, Shut}
use Rattle.hlc_shared.specs.Endings.{HaveEnded, IsDoneOrShutFrom, IsDueTo, IsFateOf}
use Rattle.hlc_shared.proofs.jobs.run_one.Goals as goal

module _ {T U : Type 0} (done : T → U → Type 0) (shut : T → ℕ → Type 0) (job : T) where
  -- the fate of a job that is the only one
  only_shut : (fate : Fate) → IsDueTo (shut job) fate → IsFateOf done shut (job ∷ []) fate
  only_shut Memory due = tt
  only_shut (Shut node) due = (
    (0, job, omega arith, refl, due),
    All-cons (IsDoneOrShutFrom done shut node.0) job [] (inr (node.0, omega arith, due)) (All-nil (IsDoneOrShutFrom done shut node.0)),
  )

  -- a job that is the only one was done, and memory may be refused for the list of its answer
  only_done : (answer : U) (r : Result (Vec U Global) Fate) → done job answer → IfOk r (λ answers. answers.items ≡ answer ∷ [])
      → IfErr r (λ fate. fate ≡ Memory)
      → HaveEnded done shut (job ∷ []) r
  only_done answer (Ok answers) was one memory = subst (λ us. AllZip done (job ∷ []) us) (sym one) (was, tt)
  only_done answer (Err fate) was one memory = subst (λ f. IsFateOf done shut (job ∷ []) f) (sym memory) tt

pub returns-in_err-answer : goal.returns-in_err-answer
returns-in_err-answer g c =
    let from = err_from_is_err_and c.from_residual.result c.from_residual.ensures.1 in
    rw (from.1, from.2)
    (only_shut (g.W.Work.done c.args.work.now) (g.W.Work.shut c.args.work.now) c.args.job c.in_err-answer.field-0.0 c.in_err-answer.ensures.shut)

pub returns : goal.returns
returns g c =
    only_done (g.W.Work.done c.args.work.now) (g.W.Work.shut c.args.work.now) c.args.job c.in_ok-answer.answer c.one_answer.result
    c.in_ok-answer.ensures.done c.one_answer.ensures.answer c.one_answer.ensures.memory
