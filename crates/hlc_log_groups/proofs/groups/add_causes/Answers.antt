use Rattle.std.proofs.Common.{◌≡◌, ◌++◌, ◌∙◌, Option, Some, ap, length, subst, sym}
use Rattle.std.specs.Prelude.{option_map, option_to_list}
use Rattle.std.proofs.lemmas.Result.{on_ok_weaker}
use Rattle.hlc_stamp.specs.declared.id.EventId.{EventId}
use Rattle.hlc_ordered_log.specs.Found.{wrong_at}
use Rattle.hlc_log_groups.specs.Groups.{AreGroups, KeyedCauses, cause_at, id_of, keyed_at}
use Rattle.hlc_log_groups.specs.declared.broken_rule.BrokenRule.TheVariants as rule
use Rattle.hlc_log_groups.proofs.GroupSteps.{five_more, id_of-place_of}
use Rattle.hlc_log_groups.proofs.groups.add_causes.Goals as goal

pub returns-clause-added : goal.returns-clause-added
returns-clause-added c =
    let log = c.args.log.now in
    let e = c.args.place.0 in
    let wrong : c.args.wrong ≡ id_of (wrong_at log e) = sym (id_of-place_of c.args.wrong) ∙ ap id_of c.requires.wrong in
    let carried : c.compared_cause-carried.result ≡ option_map (λ d. cause_at log e rule.Carried (Some d)) (id_of (wrong_at log e)) =
    c.compared_cause-carried.ensures.value ∙ ap (λ (o : Option EventId). option_map (λ d. cause_at log e rule.Carried (Some d)) o) wrong in
    on_ok_weaker c.add_cause-5.result (λ last causes are.
    (let all = five_more causes (option_to_list c.behind_cause-behind.result) (option_to_list c.compared_cause-previous.result)
    (option_to_list c.compared_cause-send.result) (option_to_list c.ahead_cause-ahead.result) (option_to_list c.compared_cause-carried.result) c.add_cause-5.new.groups.entries
    (last _ (c.in_ok-add_cause-4.ensures.added _ (c.in_ok-add_cause-3.ensures.added _ (c.in_ok-add_cause-2.ensures.added _ (c.in_ok-add_cause.ensures.added causes are))))) in
    let same : option_to_list c.behind_cause-behind.result ++ (option_to_list c.compared_cause-previous.result ++ (option_to_list c.compared_cause-send.result
    ++ (option_to_list c.ahead_cause-ahead.result ++ option_to_list c.compared_cause-carried.result))) ≡ keyed_at log e c.args.found =
    λ i. option_to_list (c.behind_cause-behind.ensures.value i) ++ (option_to_list (c.compared_cause-previous.ensures.value i)
    ++ (option_to_list (c.compared_cause-send.ensures.value i) ++ (option_to_list (c.ahead_cause-ahead.ensures.value i) ++ option_to_list (carried i)))) in
    subst (λ (cs : KeyedCauses). AreGroups (causes ++ cs) c.add_cause-5.new.groups.entries) same all)) c.add_cause-5.ensures.added

pub returns-clause-places : goal.returns-clause-places
returns-clause-places c =
    let n = length c.args.log.now.events in
    on_ok_weaker c.add_cause-5.result (λ last all.
    last n c.compared_cause-carried.ensures.exists (c.in_ok-add_cause-4.ensures.places n c.ahead_cause-ahead.ensures.exists
    (c.in_ok-add_cause-3.ensures.places n c.compared_cause-send.ensures.exists
    (c.in_ok-add_cause-2.ensures.places n c.compared_cause-previous.ensures.exists
    (c.in_ok-add_cause.ensures.places n c.behind_cause-behind.ensures.exists all))))) c.add_cause-5.ensures.places
