-- The pages so far.
use Rattle.std.proofs.Common.{take}
use Rattle.jm_shared.specs.Records.{Writes}
use Rattle.jm_shared.specs.Pages.{flat}
use Rattle.jm_shared.proofs.pages.Pages.add_lines.Given as goal

abbrev pub invariant-loop-page : goal.invariant-loop-page
invariant-loop-page l =
    Writes (flat (take l.page-index l.page-items)) l.initial.text.bytes.items l.initial.text.turns l.text.bytes.items l.text.turns
