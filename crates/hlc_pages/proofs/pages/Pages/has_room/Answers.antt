use Rattle.std.proofs.Common.{rules}
use Rattle.hlc_pages.proofs.pages.Pages.has_room.Goals as goal

pub returns : goal.returns
returns g c = search rules
