-- Each turn writes the line of a field.
use Rattle.std.proofs.Common.{◌≤◌, ◌++◌, length, sym, ap, ◌∙◌, arith}
use Rattle.std.specs.List.{zip}
use Rattle.jm_machine.specs.Seen.{fields_of_type}
use Rattle.jm_debug.specs.Views.{field_lines}
use Rattle.jm_debug.proofs.ObjectsShown.{zipped, zip_short}
use Rattle.jm_debug.proofs.Written.{all_left, one_read, no_more}
use Rattle.jm_debug.proofs.reached_object.write_fields.Goals as goal

pub loop-index-init : goal.loop-index-init
loop-index-init g c =
    ap (λ t. c.args.out.now.bytes.items ++ t)
    (all_left field_lines (zip (fields_of_type c.args.object.now.program c.args.object.now.object.type) c.args.object.now.object.values))

pub loop-index-preserved : goal.loop-index-preserved
loop-index-preserved g c =
    let fields = fields_of_type c.args.object.now.program c.args.object.now.object.type in
    one_read field_lines (zip fields c.args.object.now.object.values) c.loop-index.index _ _ _ _
    (c.field.ensures ∙ sym (zipped fields c.args.object.now.object.values c.loop-index.index)) c.in_ok-write_field.ensures c.loop-index.invariant

pub returns : goal.returns
returns g c =
    let fields = fields_of_type c.args.object.now.program c.args.object.now.object.type in
    let short = zip_short fields c.args.object.now.object.values in
    let past : length (zip fields c.args.object.now.object.values) ≤ c.loop-index.index = omega arith in
    no_more field_lines (zip fields c.args.object.now.object.values) c.loop-index.index _ _ past c.loop-index.invariant
