use Rattle.std.proofs.Common.{◌≡◌, ◌++◌, ◌∙◌, ap, append_assoc}
use Rattle.std.specs.Prelude.{flat_map, map}
use Rattle.jm_values.specs.Rename.{stack_shape}
use Rattle.jm_values.specs.Shape.{list_shape}
use Rattle.jm_world.specs.Frames.{number_shape}
use Rattle.jm_monitors.specs.HeldMonitors.{held_shape}
use Rattle.jm_state.specs.Places.{held_thread, held_thread_shape, thread_places, places_of}
use Rattle.jm_state.proofs.Gathered.{gathered_mapped}
use Rattle.jm_state.proofs.places.gather.Goals as goal

pub returns : goal.returns
unfolding places_of
returns g c =
    let s = c.args.state.now in
    let ts = (list_shape held_thread_shape).refs (map held_thread s.threads.items) in
    let ss = stack_shape.refs s.statics.items in
    let ms = (list_shape held_shape).refs s.monitors in
    let ls = (list_shape number_shape).refs s.literals.items in
    let threads : c.push_threads.new.roots ≡ ts =
    c.in_ok-push_threads.ensures ∙ ap (λ xs. c.new-roots.result ++ flat_map thread_places xs) c.deref.ensures.value
    ∙ ap (λ l. l ++ flat_map thread_places s.threads.items) c.new-roots.ensures
    ∙ gathered_mapped held_thread_shape.refs held_thread s.threads.items in
    let statics : c.push_statics.new.roots ≡ ts ++ ss =
    c.in_ok-push_statics.ensures ∙ ap (λ xs. c.push_threads.new.roots ++ stack_shape.refs xs) c.deref-2.ensures.value ∙ ap (λ l. l ++ ss) threads in
    let monitors : c.push_monitors.new.roots ≡ ts ++ ss ++ ms =
    c.in_ok-push_monitors.ensures ∙ ap (λ l. l ++ ms) statics in
    c.in_ok-push_literals.ensures ∙ ap (λ xs. c.push_monitors.new.roots ++ (list_shape number_shape).refs xs) c.deref-3.ensures.value
    ∙ ap (λ l. l ++ ls) monitors
    ∙ append_assoc (ts ++ ss) ms ls ∙ append_assoc ts ss (ms ++ ls)
