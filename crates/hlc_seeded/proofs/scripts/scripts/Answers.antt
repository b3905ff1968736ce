use Rattle.std.proofs.Common.{◌≡◌, ◌∙◌, ◌*◌, List, [], ◌∷◌, Vec, ap, arith, map, rules}
use Rattle.std.specs.declared.alloc.Global.{Global}
use Rattle.std.proofs.lemmas.List.{map-append}
use Rattle.hlc_core.specs.declared.step.Step.{Step}
use Rattle.hlc_core.specs.Timed.{TimedRequest, timed_request_of}
use Rattle.hlc_seeded.specs.Storm.{generator_of}
use Rattle.hlc_seeded.proofs.ScriptGrowth.{on-script, scripts-more}
use Rattle.hlc_seeded.proofs.Words.{on-none}
use Rattle.hlc_seeded.proofs.scripts.scripts.Goals as goal

abbrev requests_in : Vec Step Global → List TimedRequest
requests_in script = map timed_request_of script.items

pub loop-node-init : goal.loop-node-init
loop-node-init c =
    let none : 2 * (0 * c.args.steps) ≡ 0 = omega arith in
    record {
      scripts = ap (map requests_in) c.in_ok-scripts.ensures.items;
      generator = c.seed_from_u64-generator.ensures ∙ on-none (2 * (0 * c.args.steps)) (generator_of c.args.seed) none;
    }

pub loop-node-preserved : goal.loop-node-preserved
loop-node-preserved c =
    let g = generator_of c.args.seed in
    let h = c.loop-node.generator in
    let node = c.loop-node.node in
    let so_far = c.loop-node.invariant in
    let rest = on-script g h c.args.nodes c.args.steps node so_far.generator c.script.new.generator c.in_ok-script.ensures.rest in
    record {
      scripts = ap (map requests_in) c.in_ok-push.ensures.items ∙ map-append requests_in c.loop-node.scripts.items (_ ∷ [])
          ∙ scripts-more g h c.args.nodes c.args.steps node so_far.generator _ _ so_far.scripts c.in_ok-script.ensures.script;
      generator = search (rules, rest);
    }
