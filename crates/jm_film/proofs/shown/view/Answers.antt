-- The parts, one behind the other.
use Rattle.jm_film.proofs.ViewPut.{view_put}
use Rattle.jm_film.proofs.shown.view.Goals as goal

pub returns : goal.returns
returns g c = λ w m.
    view_put w c.args.waiting.now _ _ _ _ _ c.new-sections.ensures.items (c.in_ok-put_threads.ensures w m) (c.in_ok-put_monitors.ensures w m)
    (c.in_ok-put_statics.ensures w m) (c.in_ok-put_heap.ensures w m)
