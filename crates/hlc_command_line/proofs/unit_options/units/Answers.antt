use Rattle.std.proofs.Common.{Option, subst, sym}
use Rattle.std.specs.Prelude.{option_map}
use Rattle.clap.specs.Matches.{found_of}
use Rattle.clap.specs.Walk.{Text, first_of, rows_of}
use Rattle.hlc_command_line.specs.UnitOptions.{AreUnitsNamed, IsUnitsMistake, l_unit, reading_unit}
use Rattle.hlc_command_line.proofs.App.Options.{text_is}
use Rattle.hlc_command_line.proofs.UnitFacts.{units_mistaken}
use Rattle.hlc_command_line.proofs.unit_options.units.Goals as goal

pub returns-in-Ok-clause-found : goal.returns-in-Ok-clause-found
returns-in-Ok-clause-found c =
    let found = found_of c.args.options.now in
    subst (λ (reading : Option Text). AreUnitsNamed reading (first_of l_unit (rows_of found)) c.in-Ok.units)
    (sym (text_is found reading_unit c.get_str.result c.get_str.ensures))
    (subst (λ (l : Option Text). AreUnitsNamed (option_map (λ s. s.now) c.get_str.result) l c.in-Ok.units)
    (sym (text_is found l_unit c.get_str-2.result c.get_str-2.ensures)) c.in-Ok.ensures.found)

pub returns-in-Err-clause-mistaken : goal.returns-in-Err-clause-mistaken
returns-in-Err-clause-mistaken c =
    let found = found_of c.args.options.now in
    units_mistaken (rows_of found) c.in-Err.mistake
    (subst (λ (reading : Option Text). IsUnitsMistake reading (first_of l_unit (rows_of found)) c.in-Err.mistake)
    (sym (text_is found reading_unit c.get_str.result c.get_str.ensures))
    (subst (λ (l : Option Text). IsUnitsMistake (option_map (λ s. s.now) c.get_str.result) l c.in-Err.mistake)
    (sym (text_is found l_unit c.get_str-2.result c.get_str-2.ensures)) c.in-Err.ensures.other))
