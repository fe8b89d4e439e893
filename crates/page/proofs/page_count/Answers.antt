-- `page_count` meets its contract.
use mathlib.Core.Path.{◌∙◌}
use native.Mathlib.Omega.{arith}
use Rattle.page.specs.Pages.{page_count}
use Rattle.page.proofs.page_count.Goals as goal

pub returns : goal.returns
unfolding page_count
returns c = c.div_ceil.ensures ∙ omega arith
