use Rattle.hlc_text.proofs.RunFacts.{kept-all, kept-stopped, kept-past_limit}
use Rattle.hlc_text.proofs.script.run_keeping.Goals as goal

pub returns-clause-ok : goal.returns-clause-ok
returns-clause-ok g c =
    kept-all c.args.notes c.args.most c.args.settings _ _ _ _ _ c.answer_all-end.new.session c.finish.result c.answer_all-end.result c.in_ok-session.ensures.made.1
    c.in_ok-session.ensures.notes c.answer_all-end.ensures c.finish.ensures.sent c.finish.ensures.records c.finish.ensures.refused
    c.finish.ensures.events c.finish.ensures.history c.finish.ensures.notes

pub returns-clause-read : goal.returns-clause-read
returns-clause-read g c =
    kept-stopped c.args.most c.args.settings _ _ _ _ _ c.answer_all-end.new.session c.finish.result c.answer_all-end.result c.in_ok-session.ensures.made.1
    c.answer_all-end.ensures c.finish.ensures.sent

pub returns-clause-too_long : goal.returns-clause-too_long
returns-clause-too_long g c =
    kept-past_limit c.args.most c.args.settings _ _ _ _ _ c.answer_all-end.new.session c.finish.result c.answer_all-end.result c.in_ok-session.ensures.made.1
    c.answer_all-end.ensures c.finish.ensures.sent
