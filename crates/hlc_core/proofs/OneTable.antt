-- A node has one table.
use Rattle.hlc_arena.proofs.Following.{well_formed_names_fit}
use Rattle.hlc_arena.proofs.StampsRise.{allowed_stamps_rise}
use Rattle.hlc_table.proofs.OneTable.{one_table}
use Rattle.hlc_core.specs.Laws.{TablesAreUnique}

pub tables_are_unique : TablesAreUnique
tables_are_unique s node rows sound is =
    let fit = well_formed_names_fit s.history sound.lawful.history.well_formed in
    let rise = allowed_stamps_rise s.history.events sound.least.allowed in
    one_table s.history.events node fit rise rows is
