use Rattle.std.proofs.Common.{◌≡◌, ◌∙◌, ◌++◌, [], ◌∷◌, Some, ap, sym}
use Rattle.std.specs.Prelude.{bytes_eq, option_map}
use Rattle.std.specs.Option.{option_copied_mut}
use Rattle.std.specs.Map.{lookup, set_value}
use Rattle.hlc_watch.specs.Lists.{lists_of}
use Rattle.hlc_watch.proofs.ListsKept.{lookup_lists, items_of, on_err_so, set_lists, set_same, waiting_items}
use Rattle.hlc_watch.proofs.awaited.push_to.Goals as goal

pub returns-in_err-push-clause-unchanged : goal.returns-in_err-push-clause-unchanged
returns-in_err-push-clause-unchanged g c =
    let m = c.args.message.now in
    let es = c.args.receives.now.entries in
    let found : lookup (bytes_eq m) es ≡ Some c.unwrap.result.now = sym c.peek_mut.ensures.value ∙ ap option_copied_mut c.unwrap.ensures in
    on_err_so c.from_residual.result (set_lists m es c.push.new.self ∙ ap (set_value (bytes_eq m) (lists_of es)) c.in_err-push.ensures.items
    ∙ set_same m (lists_of es) c.unwrap.result.now.items (lookup_lists m es ∙ ap (λ o. option_map items_of o) found))

pub returns-clause-waits : goal.returns-clause-waits
returns-clause-waits g c =
    let m = c.args.message.now in
    let es = c.args.receives.now.entries in
    let found : lookup (bytes_eq m) es ≡ Some c.unwrap.result.now = sym c.peek_mut.ensures.value ∙ ap option_copied_mut c.unwrap.ensures in
    set_lists m es c.push.new.self
    ∙ ap (set_value (bytes_eq m) (lists_of es)) (c.in_ok-push.ensures.items ∙ ap (λ ws. ws ++ c.args.records ∷ []) (sym (waiting_items m es c.unwrap.result.now found)))
