use Rattle.hlc_examples.proofs.LineCounts.{lines-counted}
use Rattle.hlc_examples.proofs.counted_lines.count_lines.Goals as goal

pub returns : goal.returns
returns g c = lines-counted c.args.texts.items c.run_jobs.result c.run_jobs.ensures
