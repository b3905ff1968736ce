-- The words of answers.
use Rattle.std.specs.Prelude.{List, ℕ, codes}
use Rattle.hlc_explain.specs.declared.answers.Missing.{Missing}
use Rattle.hlc_explain.specs.declared.answers.Missing.TheVariants.{Event, Node}
use Rattle.hlc_explain.specs.declared.answers.Relation.{Relation}
use Rattle.hlc_explain.specs.declared.answers.Relation.TheVariants.{After, Before, Concurrent, Same}

-- how two events stand in happened-before
abbrev pub relation_word : Relation → List ℕ
relation_word Before = codes "before"
relation_word After = codes "after"
relation_word Same = codes "same"
relation_word Concurrent = codes "concurrent"

-- why a question that names what isn't there is refused
abbrev pub missing_word : Missing → List ℕ
missing_word Node = codes "no-node"
missing_word Event = codes "no-event"
