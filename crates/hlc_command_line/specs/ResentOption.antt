-- Which send `--resent` says that receives are of.
use Rattle.std.specs.Prelude.{◌≡◌, ◌≢◌, List, Option, Some, codes, option_map}
use Rattle.clap.specs.Words.{Row, Text, first_of}
use Rattle.hlc_log.specs.declared.resent.Resent.{Resent}
use Rattle.hlc_log.specs.declared.resent.Resent.TheVariants as which

abbrev pub resent : Text
resent = codes "resent"

abbrev pub resent_word : Resent → Text
resent_word which.First = codes "first"
resent_word which.Last = codes "last"

-- the send is told by the word that was given, if one was
abbrev pub IsResentOf : List Row → Option Resent → Type 0
IsResentOf rows given = first_of resent rows ≡ option_map resent_word given

-- a word was given that tells none
abbrev pub IsNoResent : List Row → Type 0
IsNoResent rows = (text : Text) × (first_of resent rows ≡ Some text) × ((given : Resent) → text ≢ resent_word given)
