use Rattle.hlc_svg.proofs.Harmless.{labels_are_harmless}
use Rattle.hlc_svg.proofs.Reading.{letters_are_read}
use Rattle.hlc_svg.proofs.StandingAlone.{letters_stand_alone, scripts_are_letters}
use Rattle.hlc_svg.proofs.laws.labels_are_harmless.Goals as goal

pub returns : goal.returns
returns c = record { harmless = labels_are_harmless; read = letters_are_read; alone = letters_stand_alone; scripts = scripts_are_letters }
