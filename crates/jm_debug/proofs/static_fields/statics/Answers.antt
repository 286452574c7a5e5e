-- What was written is what is shown.
use Rattle.std.proofs.Common.{sym, ◌∙◌}
use Rattle.jm_debug.specs.Views.{lines_from, static_lines}
use Rattle.jm_debug.proofs.Shown.{no_statics, statics_shown}
use Rattle.jm_debug.proofs.static_fields.statics.Goals as goal

pub returns-else-branch : goal.returns-else-branch
returns-else-branch g c = λ w m. no_statics w c.args.class.now c.program.result.now (c.program.ensures w m) (sym c.in_ok-is_class.ensures ∙ c.if-branch.false)

pub returns-in_ok-or_none : goal.returns-in_ok-or_none
returns-in_ok-or_none g c = λ w m.
    let lines = lines_from (static_lines c.args.class.now) 0 w.statics in
    let empty = rw c.new-out.ensures.bytes at c.in_ok-write_statics.ensures in
    let all = rw (c.statics-statics.ensures w m) at empty in
    statics_shown w c.args.class.now c.program.result.now _ (c.program.ensures w m) (sym c.in_ok-is_class.ensures ∙ c.if-branch.true)
    (c.in_ok-or_none.ensures lines all)
