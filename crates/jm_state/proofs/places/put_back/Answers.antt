use Rattle.std.proofs.Common.{◌≡◌, ◌∙◌, length, drop, refl, ap, arith}
use Rattle.std.specs.Prelude.{map}
use Rattle.std.specs.Slice.Iter.{iter_rest}
use Rattle.std.specs.Vec.{with_items}
use Rattle.jm_values.specs.Shape.{list_shape}
use Rattle.jm_values.specs.Rename.{stack_shape}
use Rattle.jm_world.specs.Frames.{number_shape}
use Rattle.jm_frames.proofs.Refilled.{written_back}
use Rattle.jm_monitors.specs.HeldMonitors.{held_shape}
use Rattle.jm_state.specs.Places.{held_thread, held_thread_shape}
use Rattle.jm_state.proofs.Runs.{is_put_back}
use Rattle.jm_state.proofs.places.put_back.Goals as goal

pub returns-clause-places : goal.returns-clause-places
returns-clause-places g c =
    let s = c.args.state.now in
    let of_threads = list_shape held_thread_shape in
    let of_monitors = list_shape held_shape in
    let of_literals = list_shape number_shape in
    let all = c.args.roots.now in
    let after_threads = drop (length (of_threads.refs (map held_thread s.threads.items))) all in
    let after_statics = drop (length (stack_shape.refs s.statics.items)) after_threads in
    let begun : iter_rest c.iter-places.result ≡ all = c.iter-places.ensures.rest ∙ c.as_slice.ensures in
    let threads : map held_thread (with_items s.threads c.put_threads.new.threads).items ≡ of_threads.refill all (map held_thread s.threads.items) =
    ap (map held_thread) (written_back c.put_threads.new.threads s.threads.items s.threads.len (omega arith))
    ∙ c.put_threads.ensures.threads ∙ ap (λ xs. of_threads.refill (iter_rest c.iter-places.result) (map held_thread xs)) c.deref_mut.ensures.value
    ∙ ap (λ ns. of_threads.refill ns (map held_thread s.threads.items)) begun in
    let second : iter_rest c.put_threads.new.places ≡ after_threads =
    c.put_threads.ensures.left ∙ ap (λ xs. drop (length (of_threads.refs (map held_thread xs))) (iter_rest c.iter-places.result)) c.deref_mut.ensures.value
    ∙ ap (drop (length (of_threads.refs (map held_thread s.threads.items)))) begun in
    let statics : (with_items s.statics c.put_statics.new.statics).items ≡ stack_shape.refill after_threads s.statics.items =
    written_back c.put_statics.new.statics s.statics.items s.statics.len (omega arith)
    ∙ c.put_statics.ensures.statics ∙ ap (stack_shape.refill (iter_rest c.put_threads.new.places)) c.deref_mut-2.ensures.value
    ∙ ap (λ ns. stack_shape.refill ns s.statics.items) second in
    let third : iter_rest c.put_statics.new.places ≡ after_statics =
    c.put_statics.ensures.left ∙ ap (λ xs. drop (length (stack_shape.refs xs)) (iter_rest c.put_threads.new.places)) c.deref_mut-2.ensures.value
    ∙ ap (drop (length (stack_shape.refs s.statics.items))) second in
    let monitors : c.put_places.new.self ≡ of_monitors.refill after_statics s.monitors =
    c.put_places.ensures.monitors ∙ ap (λ ns. of_monitors.refill ns s.monitors) third in
    let fourth : iter_rest c.put_places.new.places ≡ drop (length (of_monitors.refs s.monitors)) after_statics =
    c.put_places.ensures.left ∙ ap (drop (length (of_monitors.refs s.monitors))) third in
    let after_monitors = drop (length (of_monitors.refs s.monitors)) after_statics in
    let literals : (with_items s.literals c.put_literals.new.literals).items ≡ of_literals.refill after_monitors s.literals.items =
    written_back c.put_literals.new.literals s.literals.items s.literals.len (omega arith)
    ∙ c.put_literals.ensures ∙ ap (of_literals.refill (iter_rest c.put_places.new.places)) c.deref_mut-3.ensures.value
    ∙ ap (λ ns. of_literals.refill ns s.literals.items) fourth in
    is_put_back all _ _ (λ i. (threads i, (statics i, (monitors i, literals i)))) refl refl refl refl refl
