use Rattle.std.proofs.Common.{◌≡◌, ◌∙◌, [], ◌∷◌, ℕ, List, ap, map, subst}
use Rattle.std.specs.Prelude.{codes}
use Rattle.std.proofs.lemmas.Result.{on_ok_weaker}
use Rattle.hlc_stamp.specs.Ids.{places_of}
use Rattle.hlc_stamp.specs.declared.id.EventId.{EventId}
use Rattle.hlc_explain.specs.Answer.{Answer}
use Rattle.hlc_explain.specs.EventQuestion.{Check}
use Rattle.hlc_log_text.specs.Files.{location_text}
use Rattle.hlc_log_audit.specs.Answers.{TellsAnswer, found_in, position_or_end}
use Rattle.hlc_log_audit.proofs.event_answer.push_check.Goals as goal

pub returns : goal.returns
returns g c =
    let files = c.args.files.now in
    let log = c.args.log.now in
    let at = position_or_end files log in
    let event = c.position_or_end-at in
    let listed = places_of c.deref.result.now in
    let chain : listed ≡ map at c.args.chain.now = ap (λ (ids : List EventId). places_of ids) c.deref.ensures.value ∙ c.in_ok-events.ensures in
    let found : found_in log (Check event.result.0 listed) ≡ found_in log (Check (at c.args.event.now) (map at c.args.chain.now)) =
    λ i. found_in log (Check (event.ensures i) (chain i)) in
    on_ok_weaker c.push_about.result (λ tells. (
      tells.0,
      subst (λ (a : Answer). TellsAnswer files log (codes "check") (location_text c.args.event.now ∷ []) a tells.0) found
          (subst (λ (text : List ℕ). TellsAnswer files log (codes "check") (text ∷ []) (found_in log (Check event.result.0 listed)) tells.0)
          c.in_ok-text.ensures tells.1),
      tells.2,
    )) c.push_about.ensures
