-- What is drawn of a script, by the numbers of its settings.
use Rattle.std.proofs.Common.{◌≡◌, ℕ, List, Some, [], subst}
use Rattle.hlc_stamp.specs.declared.settings.Settings.{Settings}
use Rattle.hlc_page.specs.Answer.{Command, IsAnswer, settings_of}

-- what is done with settings is done with their numbers, and writes the answer alone
pub done_by_numbers : (IsDone : Settings → Command) (settings : Settings) (nodes capacity limit : ℕ) (text before answer : List ℕ)
    → settings ≡ settings_of nodes capacity limit → before ≡ [] → IsDone settings (Some text) (Some before) (Some answer)
    → IsAnswer (IsDone (settings_of nodes capacity limit)) text answer
done_by_numbers IsDone settings nodes capacity limit text before answer settings_is empty done =
    subst (λ (s : Settings). IsDone s (Some text) (Some []) (Some answer)) settings_is
    (subst (λ (b : List ℕ). IsDone settings (Some text) (Some b) (Some answer)) empty done)
