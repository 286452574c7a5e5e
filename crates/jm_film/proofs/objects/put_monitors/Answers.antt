-- The key, and what was written.
use Rattle.std.proofs.Common.{◌≡◌, ◌++◌, OnOk, subst}
use Rattle.jm_debug.specs.Views.{monitor_lines}
use Rattle.jm_film.specs.Shown.{section_of}
use Rattle.jm_film.proofs.objects.put_monitors.Goals as goal

pub returns : goal.returns
unfolding monitor_lines
returns g c = λ w m.
    let text = rw (c.new-text.ensures.bytes, c.deref.ensures.value, c.in-Ok.ensures w m) at c.in_ok-write_monitors.ensures in
    subst (λ k. OnOk c.put_if_any.result (c.put_if_any.new.view.items ≡ c.args.view.now.items ++ section_of k (monitor_lines w))) c.in_ok-key.ensures.ok (c.put_if_any.ensures (monitor_lines w) text)
