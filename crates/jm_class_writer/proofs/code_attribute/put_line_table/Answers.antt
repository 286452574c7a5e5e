use Rattle.std.proofs.Common.{◌≡◌, List, ℕ, ap, sym, ◌∙◌, subst, Result}
use Rattle.jm_class_writer.specs.declared.fault.WriteFault.{WriteFault}
use Rattle.jm_class_writer.specs.Drafts.{DraftParts, Leaves, closed}
use Rattle.jm_class_writer.specs.CodeParts.{put_line_table}
use Rattle.jm_class_writer.proofs.Steps.{line_table_steps}
use Rattle.jm_class_writer.proofs.code_attribute.put_line_table.Goals as goal

pub returns : goal.returns
returns c =
    let steps : put_line_table c.args.code.now c.args.lines.now c.args.draft.now ≡ closed c.put_name.new.draft.written c.put_lines.new.draft =
    line_table_steps c.args.code.now c.args.lines.now c.args.draft.now c.put_u2.new.self c.put_name.new.draft c.put_lines.new.draft c.in_ok-put_u2.ensures c.in_ok-put_name.ensures.name
    (rw (← c.open-before.ensures.new) c.in_ok-put_lines.ensures) in
    let same : closed c.open-before.result.items c.put_lines.new.draft ≡ put_line_table c.args.code.now c.args.lines.now c.args.draft.now =
    ap (λ (before : List ℕ). closed before c.put_lines.new.draft) c.open-before.ensures.before ∙ sym steps in
    subst (λ (step : Result (Unit {0} × DraftParts) WriteFault). Leaves {X = Unit {0}} {Y = Unit {0}} (λ _. tt) c.close.result c.close.new.self step) same c.close.ensures
