-- One part behind the other.
use Rattle.std.proofs.Common.{ap, ◌∙◌}
use Rattle.jm_execute.specs.Quotes.{up_to}
use Rattle.jm_execute.proofs.Advices.{four_parts}
use Rattle.jm_execute.proofs.advice.with_number.Goals as goal

pub returns : goal.returns
returns c =
    four_parts _ _ _ _ _ _ _ _ _ c.args.text.now c.args.said.now c.new-more.ensures.items c.in_ok-extend_from_slice.ensures.items c.in_ok-extend_from_slice-2.ensures.items
    c.in_ok-extend_from_slice-3.ensures.items c.in_ok-push.ensures.items c.as_bytes.ensures.value (c.up_to.ensures ∙ ap (up_to 32) c.as_bytes-2.ensures.value)
