use Rattle.std.proofs.Common.{◌≡◌, ◌-◌, ◌++◌, length, List, ℕ, arith, ap, length-append, ◌∙◌}
use Rattle.hlc_pages.proofs.LogPages.{bytes_fit, is_last_page, last_has_space, push_extends, push_key, push_room, push_value, push_within}
use Rattle.hlc_pages.proofs.byte_log.ByteLog.push_reserved.Goals as goal

pub append-requires : goal.append-requires
append-requires c =
    let place : c.len-last.result - 1 ≡ length c.self.inside.pages.items - 1 =
    omega (arith, c.len-last.ensures, c.self.inside.pages.ok.0) in
    let space = last_has_space (is_last_page c.self.view_is c.self.invariant c.requires.room place c.index_mut-page.ensures.value) in
    omega (arith, c.index_mut-page.result.now.ok.0)

pub append-requires-2 : goal.append-requires-2
append-requires-2 c =
    let place : c.len-last.result - 1 ≡ length c.self.inside.pages.items - 1 =
    omega (arith, c.len-last.ensures, c.self.inside.pages.ok.0) in
    let space = last_has_space (is_last_page c.self.view_is c.self.invariant c.requires.room place c.index_mut-page.ensures.value) in
    let size = ap length c.append.ensures.items ∙ length-append c.index_mut-page.result.now.items c.args.key.now in
    omega (arith, c.append.new.page.ok.0, c.append.ensures.capacity)

pub overflow_cast-result-2 : goal.overflow_cast-result-2
overflow_cast-result-2 c =
    let place : c.len-last.result - 1 ≡ length c.self.inside.pages.items - 1 =
    omega (arith, c.len-last.ensures, c.self.inside.pages.ok.0) in
    let fit = bytes_fit (is_last_page c.self.view_is c.self.invariant c.requires.room place c.index_mut-page.ensures.value) in
    omega (arith, c.len-start.ensures, c.index_mut-page.result.now.ok.0)

pub returns : goal.returns
returns c =
    let place : c.len-last.result - 1 ≡ length c.self.inside.pages.items - 1 =
    omega (arith, c.len-last.ensures, c.self.inside.pages.ok.0) in
    let last = is_last_page c.self.view_is c.self.invariant c.requires.room place c.index_mut-page.ensures.value in
    let grown = c.append-2.new.page in
    let key = c.args.key.now in
    let value = c.args.value.now in
    let is_grown = c.append-2.ensures.items ∙ ap (λ (xs : List ℕ). xs ++ value) c.append.ensures.items in
    let is_start = c.len-start.ensures ∙ c.index_mut-page.result.now.ok.0 in
    record {
      extends = push_extends last grown key value is_grown;
      within = push_within last grown key value is_grown c.len-start.result is_start;
      key = push_key last grown key value is_grown c.len-start.result is_start;
      value = push_value last grown key value is_grown c.len-start.result is_start;
      room = push_room last grown key value is_grown c.requires.key c.requires.value;
    }
