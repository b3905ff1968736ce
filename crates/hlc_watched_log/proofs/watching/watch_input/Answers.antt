use Rattle.hlc_watched_log.proofs.watching.watch_input.Goals as goal

pub watch_records-requires-clause-nothing : goal.watch_records-requires-clause-nothing
watch_records-requires-clause-nothing g c = c.in_ok-log.ensures.nothing
