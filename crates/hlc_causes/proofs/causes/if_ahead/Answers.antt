use Rattle.std.proofs.Common.{◌≡◌, ◌∙◌, ℕ, ◌^◌, ◌<◌, ap, arith, max, subst, sym}
use Rattle.hlc_stamp.specs.Order.{Pair}
use Rattle.hlc_causality.specs.Assignment.{pair_at}
use Rattle.hlc_causality.specs.ReceiveEvents.{clock_events}
use Rattle.hlc_causes.specs.Causes.{IsLeastWritten, top_at}
use Rattle.hlc_causes.proofs.CauseLaws.{ahead_named, behind_not_ahead, behind_tested, disorder_not_ahead, kept_not_ahead, reached_tested}
use Rattle.hlc_causes.proofs.Disorder.{fit_in_order}
use Rattle.hlc_causes.proofs.LinksFound.{exists_received}
use Rattle.hlc_causes.proofs.Predecessors.{first_is, greater_l_left, greatest_is, none_if_none, written_is}
use Rattle.hlc_causes.proofs.Written.{ahead_unless_same, other_stamps, same_stamps}
use Rattle.hlc_causes.proofs.causes.if_ahead.Goals as goal

pub returns-then-is_behind : goal.returns-then-is_behind
returns-then-is_behind g c =
    let rules = c.args.execution.now.rules in
    let s = c.args.execution.now.events in
    let t = clock_events rules s in
    let f = c.args.event.0 in
    let claimed = g.C.Claims.claimed c.args.claims.now in
    let rule = c.rule_event-rule in
    let stamp = c.stamp-claimed in
    let test = c.is_behind in
    behind_not_ahead t claimed c.args.full f (exists_received rules s f c.requires.exists)
    ((behind_tested t claimed f stamp.result rule.result.floor test.result stamp.ensures rule.ensures.floor test.ensures).0 c.if-is_behind.true)

pub least_written-least-requires : goal.least_written-least-requires
least_written-least-requires g c =
    let rules = c.args.execution.now.rules in
    let s = c.args.execution.now.events in
    let t = clock_events rules s in
    let f = c.args.event.0 in
    let exists = exists_received rules s f c.requires.exists in
    let claimed = g.C.Claims.claimed c.args.claims.now in
    let rule = c.rule_event-rule in
    let found = c.greatest_claimed-before in
    let stamp = c.stamp-claimed in
    let test = c.is_behind in
    let reached =
    reached_tested t claimed f stamp.result rule.result.floor test.result stamp.ensures rule.ensures.floor test.ensures c.if-is_behind.false in
    let none = first_is t claimed f rule.result.previous rule.result.send c.first_not_above.result
    (c.first_not_above.ensures t f rule.ensures.ticks c.stamp-claimed.ensures) rule.ensures.previous rule.ensures.send
    ∙ none_if_none c.first_not_above.result (sym c.if-is_some.ensures) in
    let fit = fit_in_order t claimed f exists reached none in
    let is_before = greatest_is claimed _ _ _ _ found.result found.ensures rule.ensures.previous rule.ensures.send in
    let top_is : c.max.result ≡ top_at claimed c.args.full f = c.max.ensures ∙ ap (λ (p : Pair). max c.args.full p.c) c.stamp-claimed.ensures in
    let l_is : c.stamp-claimed.result.l ≡ (pair_at claimed f).l = ap (λ (p : Pair). p.l) c.stamp-claimed.ensures in
    let fits : c.stamp-claimed.result.l < 2 ^ 64 = omega arith in
    let top_below = greater_l_left t claimed f exists rule.result.ticks found.result rule.result.floor rule.ensures.ticks is_before rule.ensures.floor in
    λ full. let left = top_below c.max.result fit (omega arith) full in omega arith

pub returns-then-is_some : goal.returns-then-is_some
returns-then-is_some g c =
    let rules = c.args.execution.now.rules in
    let s = c.args.execution.now.events in
    let t = clock_events rules s in
    let f = c.args.event.0 in
    let claimed = g.C.Claims.claimed c.args.claims.now in
    let rule = c.rule_event-rule in
    let found = c.first_not_above in
    let first = first_is t claimed f rule.result.previous rule.result.send found.result
    (found.ensures t f rule.ensures.ticks c.stamp-claimed.ensures) rule.ensures.previous rule.ensures.send in
    disorder_not_ahead t claimed c.args.full f (exists_received rules s f c.requires.exists) found.result first (sym c.if-is_some.ensures)

pub returns-then-eq : goal.returns-then-eq
returns-then-eq g c =
    let rules = c.args.execution.now.rules in
    let s = c.args.execution.now.events in
    let t = clock_events rules s in
    let f = c.args.event.0 in
    let exists = exists_received rules s f c.requires.exists in
    let claimed = g.C.Claims.claimed c.args.claims.now in
    let rule = c.rule_event-rule in
    let found = c.greatest_claimed-before in
    let least = c.least_written-least in
    let is_before = greatest_is claimed _ _ _ _ found.result found.ensures rule.ensures.previous rule.ensures.send in
    let top_is : c.max.result ≡ top_at claimed c.args.full f = c.max.ensures ∙ ap (λ (p : Pair). max c.args.full p.c) c.stamp-claimed.ensures in
    let written = written_is t claimed f exists rule.result.ticks found.result rule.result.floor rule.ensures.ticks is_before rule.ensures.floor
    c.max.result least.result least.ensures in
    let same = same_stamps c.stamp-claimed.result least.result (sym c.if-eq.ensures) in
    kept_not_ahead t claimed c.args.full f exists
    (subst (λ (top : ℕ). IsLeastWritten t claimed top f (pair_at claimed f)) top_is
    (subst (λ (p : Pair). IsLeastWritten t claimed c.max.result f p) (sym same ∙ c.stamp-claimed.ensures) written))

pub returns-else-eq : goal.returns-else-eq
returns-else-eq g c =
    let rules = c.args.execution.now.rules in
    let s = c.args.execution.now.events in
    let t = clock_events rules s in
    let f = c.args.event.0 in
    let exists = exists_received rules s f c.requires.exists in
    let claimed = g.C.Claims.claimed c.args.claims.now in
    let rule = c.rule_event-rule in
    let found = c.greatest_claimed-before in
    let least = c.least_written-least in
    let stamp = c.stamp-claimed in
    let test = c.is_behind in
    let reached =
    reached_tested t claimed f stamp.result rule.result.floor test.result stamp.ensures rule.ensures.floor test.ensures c.if-is_behind.false in
    let none = first_is t claimed f rule.result.previous rule.result.send c.first_not_above.result
    (c.first_not_above.ensures t f rule.ensures.ticks c.stamp-claimed.ensures) rule.ensures.previous rule.ensures.send
    ∙ none_if_none c.first_not_above.result (sym c.if-is_some.ensures) in
    let is_before = greatest_is claimed _ _ _ _ found.result found.ensures rule.ensures.previous rule.ensures.send in
    let top_is : c.max.result ≡ top_at claimed c.args.full f = c.max.ensures ∙ ap (λ (p : Pair). max c.args.full p.c) c.stamp-claimed.ensures in
    let written = written_is t claimed f exists rule.result.ticks found.result rule.result.floor rule.ensures.ticks is_before rule.ensures.floor
    c.max.result least.result least.ensures in
    let there = subst (λ (top : ℕ). IsLeastWritten t claimed top f least.result) top_is written in
    ahead_named t claimed c.args.full f exists least.result
    (ahead_unless_same t claimed f c.args.full least.result there (fit_in_order t claimed f exists reached none)
    (λ same. other_stamps c.stamp-claimed.result least.result (sym c.if-eq.ensures) (c.stamp-claimed.ensures ∙ sym same)))
