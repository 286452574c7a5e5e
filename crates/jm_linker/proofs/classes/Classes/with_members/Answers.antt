-- The methods of the built-in classes and of the program's, in order.
use Rattle.std.proofs.Common.{◌≡◌, ◌++◌, List, map, ap, subst, ◌∙◌}
use Rattle.jm_program.specs.declared.class.ClassParts.{ClassParts}
use Rattle.jm_linked.specs.Methods.{all_methods, methods_in}
use Rattle.jm_linker.specs.BuiltInClasses.{built_in_classes}
use Rattle.jm_linker.specs.Selectors.{HasFirst, found_methods}
use Rattle.jm_linker.specs.declared.members.Members.{Members}
use Rattle.jm_linker.specs.declared.selectors.ClassMethod.{ClassMethod}
use Rattle.jm_linker.proofs.classes.Classes.with_members.Goals as goal

all : (program : List ClassParts) (built_ins given : List Members) (ms : List ClassMethod) → given ≡ built_ins
    → found_methods ms ≡ methods_in (map (λ (m : Members). m.class.now) given ++ program)
    → map (λ (m : Members). m.class.now) built_ins ≡ built_in_classes → found_methods ms ≡ all_methods program
unfolding all_methods built_in_classes
all program built_ins given ms same are complete =
    are ∙ ap (λ bs. methods_in (map (λ (m : Members). m.class.now) bs ++ program)) same ∙ ap (λ cs. methods_in (cs ++ program)) complete

pub invariant_of-result-2-clause-selected : goal.invariant_of-result-2-clause-selected
invariant_of-result-2-clause-selected c =
    subst (HasFirst 0 c.in_ok-selectors_of.field-0) (ap found_methods c.deref-2.ensures.value
    ∙ all c.args.names.program.now c.in_ok-built_ins.built_ins.items c.deref.result.now c.in_ok-methods.methods.items c.deref.ensures.value
    c.in_ok-methods.ensures (c.in_ok-built_ins.ensures ∙ c.args.names.complete)) c.in_ok-selectors_of.ensures

pub invariant_of-result-2-clause-listed : goal.invariant_of-result-2-clause-listed
invariant_of-result-2-clause-listed c =
    all c.args.names.program.now c.in_ok-built_ins.built_ins.items c.deref.result.now c.in_ok-methods.methods.items c.deref.ensures.value
    c.in_ok-methods.ensures (c.in_ok-built_ins.ensures ∙ c.args.names.complete)
