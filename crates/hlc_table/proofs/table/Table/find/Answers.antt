use Rattle.std.proofs.Common.{◌∙◌, ap, option_map, sym}
use Rattle.std.proofs.lemmas.List.{length-map}
use Rattle.std.proofs.lemmas.Option.{slice_get_within}
use Rattle.hlc_table.proofs.Pairs.{looked_up, place_looked_up}
use Rattle.hlc_table.proofs.table.Table.find.Goals as goal

pub returns-in_err-place-clause-entry : goal.returns-in_err-place-clause-entry
returns-in_err-place-clause-entry c =
    ap (option_map (λ found. found.1)) c.from_residual.ensures ∙ c.in_err-place.ensures.value
    ∙ looked_up _ c.self.view_is c.borrowed.ensures

pub returns-clause-entry : goal.returns-clause-entry
returns-clause-entry c = c.in_ok-place.ensures.value ∙ looked_up _ c.self.view_is c.borrowed.ensures

pub returns-clause-place : goal.returns-clause-place
returns-clause-place c = sym (place_looked_up _ c.self.view_is c.borrowed.ensures) ∙ sym c.in_ok-place.ensures.index

pub returns-clause-there : goal.returns-clause-there
returns-clause-there c =
    let pairs = c.self.inside.entries.entries in
    rw (← c.self.view_is, length-map) (slice_get_within pairs c.in_ok-place.place _ c.in_ok-place.ensures.entry)
