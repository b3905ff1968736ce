use Rattle.std.proofs.Common.{◌≡◌, ◌||◌, Bool, false, true}
use Rattle.clap.specs.Matches.{found_of}
use Rattle.hlc_command_line.specs.JsonOptions.{field, kind}
use Rattle.hlc_command_line.proofs.JsonFacts.{is_option_given}
use Rattle.hlc_command_line.proofs.json_options.is_given.Goals as goal

first_given : (given first second : Bool) → given ≡ true → given ≡ first → given ≡ (first || second)
first_given given true second is_true same = is_true
first_given given false second is_true same = absurd cc

second_given : (before given first second : Bool) → before ≡ false → before ≡ first → given ≡ second → given ≡ (first || second)
second_given before given true second is_false same is = absurd cc
second_given before given false second is_false same is = is

pub returns-then-is_some : goal.returns-then-is_some
returns-then-is_some c =
    first_given _ _ _ c.if-is_some.true (is_option_given (found_of c.args.options.now) field c.get_strs.result _ c.is_some.ensures c.get_strs.ensures)

pub returns-else-is_some : goal.returns-else-is_some
returns-else-is_some c =
    let found = found_of c.args.options.now in
    second_given _ _ _ _ c.if-is_some.false (is_option_given found field c.get_strs.result _ c.is_some.ensures c.get_strs.ensures)
    (is_option_given found kind c.get_strs-else-is_some.result _ c.is_some-else-is_some.ensures c.get_strs-else-is_some.ensures)
