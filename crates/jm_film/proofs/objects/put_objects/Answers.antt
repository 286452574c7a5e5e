-- Each turn puts an object.
use Rattle.std.proofs.Common.{◌≤◌, length, refl, arith}
use Rattle.jm_program.proofs.Sequences.{got_past}
use Rattle.jm_film.specs.Shown.{object_section}
use Rattle.jm_film.proofs.Left.{one_more_object, none_left_of}
use Rattle.jm_film.proofs.objects.put_objects.Goals as goal

pub loop-index-init : goal.loop-index-init
loop-index-init g c = refl

pub returns-in_default : goal.returns-in_default
returns-in_default g c =
    let os = c.args.objects.now.objects in
    none_left_of (object_section c.args.objects.now.program) os c.loop-index.index _ _ (got_past os c.loop-index.index c.in_default.ensures.object) c.loop-index.invariant

pub loop-index-preserved : goal.loop-index-preserved
loop-index-preserved g c =
    let found = c.in-Some.found in
    one_more_object c.args.objects.now.program found.object.program c.args.objects.now.objects c.loop-index.index (found.number, found.object.object) _ _ _
    c.in-Some.ensures.object c.in-Some.ensures.program c.in_ok-put_object.ensures c.loop-index.invariant

pub returns : goal.returns
returns g c =
    let past : length c.args.objects.now.objects ≤ c.loop-index.index = omega arith in
    none_left_of (object_section c.args.objects.now.program) c.args.objects.now.objects c.loop-index.index _ _ past c.loop-index.invariant
