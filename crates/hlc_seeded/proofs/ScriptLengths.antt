-- How many seeded scripts there are, and how long each is.
use Rattle.std.proofs.Common.{◌≡◌, ◌∙◌, ℕ, List, length, ap, subst, sym, map}
use Rattle.std.specs.Prelude.{Vec}
use Rattle.std.specs.declared.alloc.Global.{Global}
use Rattle.std.specs.List.{range_with_len}
use Rattle.std.proofs.lemmas.List.{length-map}
use Rattle.std.proofs.lemmas.List.Elements.{All-map}
use Rattle.std.proofs.lemmas.List.FromFn.{length-map-range_with_len}
use Rattle.hlc_core.specs.declared.step.Step.{Step}
use Rattle.hlc_core.specs.Timed.{HaveLength, requests_in, timed_request_of}
use Rattle.hlc_seeded.specs.Storm.{generator_of, scripts_of, step_of, storm_of, word_at}
use Rattle.hlc_seeded.proofs.ScriptGrowth.{script_at}

scripts_have_length : (words : ℕ → ℕ) (nodes steps : ℕ) → HaveLength steps (scripts_of words nodes steps)
scripts_have_length words nodes steps =
    All-map (λ script. length script ≡ steps) (script_at words nodes steps) (range_with_len 0 nodes)
    (λ k d lt. length-map-range_with_len (step_of _ nodes _) 0 steps)

pub storm_has_length : (lists : List (Vec Step Global)) (seed nodes steps : ℕ) → requests_in lists ≡ storm_of seed nodes steps →
    HaveLength steps (requests_in lists)
storm_has_length lists seed nodes steps is =
    subst (HaveLength steps) (sym is) (scripts_have_length (word_at (generator_of seed)) nodes steps)

pub storm_one_each : (lists : List (Vec Step Global)) (seed nodes steps : ℕ) → requests_in lists ≡ storm_of seed nodes steps →
    length lists ≡ nodes
storm_one_each lists seed nodes steps is =
    sym (length-map lists (λ (list : Vec Step Global). map timed_request_of list.items)) ∙ ap length is
    ∙ length-map-range_with_len _ 0 nodes
