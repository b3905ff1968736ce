use Rattle.std.proofs.Common.{◌≡◌, [], subst}
use Rattle.std.proofs.lemmas.Bool.{not-false}
use Rattle.hlc_log.specs.Log.{StoredLog}
use Rattle.hlc_log.specs.Standing.{seq_at}
use Rattle.hlc_log.proofs.StoredEvents.{none_has_seq}
use Rattle.hlc_log.proofs.log.Log.tells_seqs.Goals as goal

pub returns : goal.returns
returns c untold place =
    let asides = c.self.inside.asides in
    let none : asides.seqs.items ≡ [] = c.has_no_seq.ensures.0 (not-false c.has_no_seq.result untold) in
    subst (λ (log : StoredLog). seq_at log.events place ≡ 0) c.self.view_is (none_has_seq asides none c.self.inside.slots.items place)
