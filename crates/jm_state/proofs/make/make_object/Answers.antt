use Rattle.std.proofs.Common.{Err, [], sym, subst}
use Rattle.jm_world.specs.Matches.{as_named}
use Rattle.jm_heap.proofs.NewPlaces.{new_there, none_new_same}
use Rattle.jm_heap.specs.NewObject.{new_object}
use Rattle.jm_state.specs.Ends.{MadeOrNot, halt_from}
use Rattle.jm_state.specs.Parts.{named_type, parts}
use Rattle.jm_state.specs.View.{view_of}
use Rattle.jm_state.proofs.Made.{sound, made_here, refused_here}
use Rattle.jm_state.proofs.make.make_object.Goals as goal

pub allocate_here-requires : goal.allocate_here-requires
allocate_here-requires g c = sound _ _ _ c.requires

pub returns-in-Ok-Some-clause-made : goal.returns-in-Ok-Some-clause-made
returns-in-Ok-Some-clause-made g c w h = let here = rw c.in-Ok-Some.field-0-is at c.in-Ok-Some.ensures.ok in made_here _ _ _ h (new_object c.args.shape) here

pub returns-in-Err-clause-made : goal.returns-in-Err-clause-made
returns-in-Err-clause-made g c w h =
    let l = c.args.linked.now in
    let s = view_of c.args.state.now in
    let o = new_object c.args.shape in
    subst (λ r. MadeOrNot (Err r) (parts l (g.H.Heap.content c.allocate_here.new.self) s) w (as_named (named_type l.program) o)) (sym c.halt_of.ensures)
    (subst (λ d. MadeOrNot (Err (halt_from c.in-Err.fault)) (parts l d s) w (as_named (named_type l.program) o)) (sym c.in-Err.ensures.same)
    (refused_here _ _ _ h o c.in-Err.fault c.in-Err.ensures.err))

pub returns-in-Ok-Some-clause-nursery : goal.returns-in-Ok-Some-clause-nursery
returns-in-Ok-Some-clause-nursery g c =
    let here = rw c.in-Ok-Some.field-0-is at c.in-Ok-Some.ensures.ok in
    let lies = rw c.in-Ok-Some.field-0-is at c.in-Ok-Some.ensures.nursery in
    let made = here.made [] (λ p a. absurd a) in
    new_there _ _ _ made.kept.sound here.as_before _ made.placed lies

pub returns-in-Err-clause-nursery : goal.returns-in-Err-clause-nursery
returns-in-Err-clause-nursery g c = none_new_same _ _ _ c.in-Err.ensures.same
