use Rattle.std.proofs.Common.{rules}
use Rattle.hlc_text.proofs.request_row.push_request.Goals as goal

pub returns-in-DeliverOrWrite : goal.returns-in-DeliverOrWrite
returns-in-DeliverOrWrite g c = search rules

pub returns-in-Sync : goal.returns-in-Sync
returns-in-Sync g c = search rules
