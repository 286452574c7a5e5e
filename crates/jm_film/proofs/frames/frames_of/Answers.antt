-- The first number that has no frame is how many there are.
use Rattle.std.proofs.Common.{◌≡◌, ◌<◌, ◌≤◌, None, Some, length, arith}
use Rattle.std.specs.Prelude.{slice_get}
use Rattle.std.proofs.lemmas.Option.{slice_get_within}
use Rattle.jm_program.proofs.Sequences.{got_past}
use Rattle.jm_machine.specs.Readers.{model_frame}
use Rattle.jm_film.proofs.frames.frames_of.Goals as goal

pub loop-depth-init : goal.loop-depth-init
loop-depth-init g c = λ w t m is. omega arith

pub loop-depth-preserved : goal.loop-depth-preserved
loop-depth-preserved g c = λ w t m is.
    let there : slice_get t.frames c.loop-depth.depth ≡ Some (model_frame c.in-Some._frame) = rw is at (c.in-Some.ensures.frame w m) in
    let within : c.loop-depth.depth < length t.frames = slice_get_within t.frames c.loop-depth.depth _ there in
    omega (arith, within)

pub returns-in_default : goal.returns-in_default
returns-in_default g c = λ w t m is.
    let none : slice_get t.frames c.loop-depth.depth ≡ None = rw is at (c.in_default.ensures.frame w m) in
    let past : length t.frames ≤ c.loop-depth.depth = got_past t.frames c.loop-depth.depth none in
    let read : c.loop-depth.depth ≤ length t.frames = c.loop-depth.invariant w t m is in
    omega (arith, past, read)
