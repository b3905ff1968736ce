use Rattle.std.proofs.Common.{◌∙◌, None, Some, arith, sym}
use Rattle.hlc_causality.specs.Neighbours.{place_of}
use Rattle.hlc_explain.specs.Paths.{path_of, path_to}
use Rattle.hlc_explain.proofs.PathLengths.{length_fits, length_step}
use Rattle.hlc_explain.proofs.paths.PathLengths.next.Goals as goal

pub returns-in_err-length : goal.returns-in_err-length
returns-in_err-length c =
    let s = c.args.execution.now.events in
    let e = c.args.self.now.first.0 in
    let size = sym c.in_err-length.was ∙ c.length.ensures s c.requires.known in
    c.from_residual.ensures
    ∙ length_step s e c.args.event.0 (path_to (path_of s e) (place_of c.step_back-before.result)) None c.requires.exists
    (sym c.eq.ensures ∙ c.if-eq.false) c.step_back-before.ensures.path size

pub overflow_add-result : goal.overflow_add-result
overflow_add-result c =
    let s = c.args.execution.now.events in
    let size = sym c.in_ok-length.was ∙ c.length.ensures s c.requires.known in
    let most = length_fits s c.args.self.now.first.0 c.args.event.0 c.step_back-before.result c.in_ok-length.length c.requires.exists
    c.step_back-before.ensures.earlier size in
    omega (arith, most, c.requires.exists, c.requires.well_formed.few)

pub returns : goal.returns
returns c =
    let s = c.args.execution.now.events in
    let e = c.args.self.now.first.0 in
    let size = sym c.in_ok-length.was ∙ c.length.ensures s c.requires.known in
    length_step s e c.args.event.0 (path_to (path_of s e) (place_of c.step_back-before.result)) (Some c.in_ok-length.length) c.requires.exists
    (sym c.eq.ensures ∙ c.if-eq.false) c.step_back-before.ensures.path size
