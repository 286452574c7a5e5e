-- Each turn writes the line of an object.
use Rattle.std.proofs.Common.{◌≤◌, ◌++◌, length, sym, ap, ◌∙◌, arith}
use Rattle.jm_program.proofs.Sequences.{got_past}
use Rattle.jm_debug.specs.Views.{numbered_lines, object_text}
use Rattle.jm_debug.proofs.Written.{all_left, one_line, one_more, no_more}
use Rattle.jm_debug.proofs.reached_objects.write_objects.Goals as goal

pub loop-index-init : goal.loop-index-init
loop-index-init g c = ap (λ t. c.args.out.now.bytes.items ++ t) (all_left numbered_lines c.args.objects.now.objects)

pub returns-in_default : goal.returns-in_default
returns-in_default g c =
    let os = c.args.objects.now.objects in
    no_more numbered_lines os c.loop-index.index _ _ (got_past os c.loop-index.index c.in_default.ensures.object) c.loop-index.invariant

pub loop-index-preserved : goal.loop-index-preserved
loop-index-preserved g c =
    let found = c.in-Some.found in
    let written = c.in_ok-write_object.ensures ∙ ap (λ t. c.loop-index.out.bytes.items ++ t) (sym (one_line (object_text found.number found.object.object))) in
    one_more numbered_lines c.args.objects.now.objects c.loop-index.index (found.number, found.object.object) _ _ _
    c.in-Some.ensures.object written c.loop-index.invariant

pub returns : goal.returns
returns g c =
    let past : length c.args.objects.now.objects ≤ c.loop-index.index = omega arith in
    no_more numbered_lines c.args.objects.now.objects c.loop-index.index _ _ past c.loop-index.invariant
