-- Verdicts as C sees them.
use Rattle.std.specs.Prelude.{◌≡◌, ◌⊎◌, ℕ}
use Rattle.hlc_verdict.specs.declared.verdict.Verdict.{Verdict}
use Rattle.hlc_verdict.specs.declared.verdict.Verdict.TheVariants.{Ahead, Behind, Least, Low, NotAbove}
use Rattle.hlc_c.specs.declared.status.TheConstants.{HLC_BAD_TRACE, HLC_LENGTHS, HLC_MEMORY, HLC_OK}
use Rattle.hlc_c.specs.declared.verdict.CVerdict.{CVerdict}
use Rattle.hlc_c.specs.declared.verdict.TheConstants.{HLC_AHEAD, HLC_BEHIND, HLC_LEAST, HLC_LOW, HLC_NOT_ABOVE}

-- a verdict as C sees it
abbrev pub verdict_in_c : Verdict → CVerdict
verdict_in_c Least = record { l = 0; c = 0; event = 0; kind = HLC_LEAST }
verdict_in_c (Ahead least) = record { l = least.l; c = least.c; event = 0; kind = HLC_AHEAD }
verdict_in_c (Low least) = record { l = least.l; c = least.c; event = 0; kind = HLC_LOW }
verdict_in_c (NotAbove before) = record { l = 0; c = 0; event = before.0; kind = HLC_NOT_ABOVE }
verdict_in_c Behind = record { l = 0; c = 0; event = 0; kind = HLC_BEHIND }

-- what a judge's call may come to
abbrev pub IsJudgeStatus : ℕ → Type 0
IsJudgeStatus status = (status ≡ HLC_OK) ⊎ (status ≡ HLC_LENGTHS) ⊎ (status ≡ HLC_BAD_TRACE) ⊎ (status ≡ HLC_MEMORY)
