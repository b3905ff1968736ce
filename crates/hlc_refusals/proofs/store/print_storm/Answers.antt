use Rattle.hlc_refusals.proofs.store.print_storm.Goals as goal

pub print_steps-requires : goal.print_steps-requires
print_steps-requires c = record { one_length = (c.args.steps, rw c.deref.ensures.value c.in_ok-lists.ensures.steps) }
