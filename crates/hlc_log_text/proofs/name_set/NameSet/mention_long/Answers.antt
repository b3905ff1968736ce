use Rattle.std.proofs.Common.{◌≡◌, sym, true}
use Rattle.std.specs.List.{list_any}
use Rattle.std.specs.Str.{bytes_eq}
use Rattle.hlc_log_text.proofs.NameFacts.{with_known_name}
use Rattle.hlc_log_text.proofs.name_set.NameSet.mention_long.Goals as goal

pub returns-in-Some-clause-names : goal.returns-in-Some-clause-names
returns-in-Some-clause-names c =
    let known : list_any (bytes_eq c.args.name.now) c.args.self.now ≡ true = sym c.in-Some.ensures.known in
    sym (with_known_name c.args.self.now c.args.name.now known)
