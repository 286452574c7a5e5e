-- No class of the program has the name.
use Rattle.std.proofs.Common.{◌≡◌, false, sym, ◌∙◌}
use Rattle.std.specs.List.{list_any}
use Rattle.jm_program.specs.Names.{same_text}
use Rattle.jm_program.specs.declared.class.ClassParts.{ClassParts}
use Rattle.jm_debug.proofs.ClassesNamed.{is_class_named}
use Rattle.jm_debug.proofs.static_fields.is_class.Goals as goal

pub returns : goal.returns
returns c =
    let none : list_any (λ (x : ClassParts). same_text x.name c.args.name.now) c.args.program.now ≡ false = sym c.is_of_program.ensures ∙ c.if-is_of_program.false in
    rw (is_class_named c.args.program.now c.args.name.now, none) (rw c.in_ok-classes.ensures at c.is_built_in.ensures)
