-- What was written is what is shown.
use Rattle.std.proofs.Common.{sym, ap, Some}
use Rattle.jm_debug.specs.Views.{monitor_lines}
use Rattle.jm_debug.proofs.held_monitors.monitors.Goals as goal

pub returns : goal.returns
unfolding monitor_lines
returns g c = λ w m.
    let all = rw (c.new-out.ensures.bytes, c.deref.ensures.value, c.in_ok-monitors.ensures w m) at c.in_ok-write_monitors.ensures in
    ap Some (sym (c.in_ok-or_none.ensures (monitor_lines w) all))
