use Rattle.std.proofs.Common.{◌≡◌, ◌∙◌, ◌<◌, ℕ, List, ap, length, map, subst, sym}
use Rattle.std.specs.Prelude.{All}
use Rattle.std.proofs.lemmas.Result.{IfOk-weaker}
use Rattle.hlc_stamp.specs.Ids.{places_of}
use Rattle.hlc_stamp.specs.declared.id.EventId.{EventId}
use Rattle.hlc_explain.specs.EventQuestion.{events_asked, plain_question}
use Rattle.hlc_explain.proofs.Asked.{within_among}
use Rattle.hlc_ordered_log.specs.InOrder.{line_in}
use Rattle.hlc_log_text.specs.Files.{line_text}
use Rattle.hlc_log_audit.proofs.event_answer.texts_asked.Goals as goal

pub lines_of-requires : goal.lines_of-requires
lines_of-requires c =
    let log = c.args.log.now in
    let events = events_asked (plain_question c.args.question) in
    let same : places_of c.deref.result.now ≡ events = ap (λ (ids : List EventId). places_of ids) c.deref.ensures.value ∙ c.in_ok-events.ensures in
    subst (λ (xs : List ℕ). All (λ (k : ℕ). k < length log.events) xs) (sym same) (within_among (length log.events) events c.requires)

pub returns : goal.returns
returns c =
    let files = c.args.files.now in
    let log = c.args.log.now in
    let events = events_asked (plain_question c.args.question) in
    let same : places_of c.deref.result.now ≡ events = ap (λ (ids : List EventId). places_of ids) c.deref.ensures.value ∙ c.in_ok-events.ensures in
    IfOk-weaker c.line_texts.result _ _
    (λ texts is. is ∙ ap (map (line_text files)) (c.deref-2.ensures.value ∙ c.in_ok-lines.ensures ∙ ap (map (line_in log)) same)) c.line_texts.ensures
