use Rattle.hlc_pages.proofs.Paging.{length_shown}
use Rattle.hlc_pages.proofs.pages.Pages.len.Goals as goal

pub returns : goal.returns
returns g c = length_shown c.args.self.now c.self.inside.pages.items c.self.inside.len c.self.view_is c.self.invariant
