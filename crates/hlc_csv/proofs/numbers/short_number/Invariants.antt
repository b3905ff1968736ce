use Rattle.std.proofs.Common.{◌≡◌, ◌<◌, ◌^◌, drop}
use Rattle.hlc_csv.proofs.NumberFacts.{number_after}
use Rattle.hlc_csv.proofs.numbers.short_number.Given as goal

abbrev pub invariant-loop-digit : goal.invariant-loop-digit
invariant-loop-digit l = record {
  rest : number_after l.value (drop l.digit-index l.field) ≡ number_after 0 l.field;
  below : l.value < 10 ^ l.digit-index;
}
