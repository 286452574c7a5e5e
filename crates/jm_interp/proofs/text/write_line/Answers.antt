use Rattle.std.proofs.Common.{◌++◌, ap, ◌∙◌, append_assoc}
use Rattle.jm_interp.specs.Printing.{line_bytes}
use Rattle.jm_interp.proofs.text.write_line.Goals as goal

pub returns-in-Ok-write_line_end : goal.returns-in-Ok-write_line_end
returns-in-Ok-write_line_end g c =
    let (said, gives, behind) = c.in-Ok.ensures in
    (said, gives, c.in-Ok-write_line_end.ensures ∙ ap (λ bytes. bytes ++ line_bytes c.args.method) behind ∙ append_assoc _ said _)
