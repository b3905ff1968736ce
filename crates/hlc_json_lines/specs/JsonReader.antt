-- A reader of JSON lines, and what it will give.
use Rattle.std.specs.Prelude.{ℕ, List, [], ◌++◌, Option, Some, drop, if◌then◌else◌, option_map}
use Rattle.std.specs.Io.Buffered.{reader_remaining}
use Rattle.std.specs.Io.KnownBytes.{prepend_known}
use Rattle.hlc_json_lines.specs.Lines.{log_text}
use Rattle.hlc_json_lines.specs.declared.json_reader.JsonReader.{JsonReader}

-- what is ready of a row and isn't given yet
abbrev pub ready_of : {R : Type 0} → JsonReader R → List ℕ
ready_of r = drop r.given r.row.items

-- what follows it: the text of what was read of a line and of the bytes that its reader will give, if they are known, and nothing after the end
abbrev pub later_of : {R : Type 0} → (R → Option (List ℕ)) → JsonReader R → Option (List ℕ)
later_of remaining r =
    if r.ended then Some [] else option_map (λ bytes. log_text (Some r.rules) (r.line.items ++ bytes)) (reader_remaining remaining r.input)

-- both
abbrev pub json_remaining : {R : Type 0} → (R → Option (List ℕ)) → JsonReader R → Option (List ℕ)
json_remaining remaining r = prepend_known (ready_of r) (later_of remaining r)
