-- One more method of the class.
use Rattle.std.proofs.Common.{◌++◌, ◌∷◌, [], take, sym, ap, ◌∙◌, arith}
use Rattle.std.proofs.lemmas.List.{append-nil, append_assoc}
use Rattle.jm_world.specs.Classes.{FoundMethod}
use Rattle.jm_linked.specs.Methods.{methods_of}
use Rattle.jm_linker.specs.Selectors.{found_methods}
use Rattle.jm_linker.specs.declared.selectors.ClassMethod.{ClassMethod}
use Rattle.jm_linker.proofs.MethodLaws.{map_more}
use Rattle.jm_linker.proofs.SelectorLaws.{methods_to}
use Rattle.jm_linker.proofs.selectors.push_methods.Goals as goal

pub loop-method-init : goal.loop-method-init
loop-method-init c = sym (append-nil (found_methods c.args.all.now.items))

pub loop-method-preserved : goal.loop-method-preserved
loop-method-preserved c =
    let class = c.args.class.now in
    let ms = c.as_slice-methods.result.now in
    let i = c.loop-method.method-index in
    let m = c.method-item.result in
    let old = found_methods c.args.all.now.items in
    ap found_methods c.in_ok-push.ensures.items
    ∙ map_more (λ (x : ClassMethod). let f : FoundMethod = record { class = x.class.now; method = x.method.now } in f) c.loop-method.all.items _
    ∙ ap (λ l. l ++ record { class = class; method = m } ∷ []) c.loop-method.invariant
    ∙ append_assoc old (methods_of class (take i ms)) (record { class = class; method = m } ∷ [])
    ∙ ap (λ l. old ++ l) (sym (methods_to class ms i m (omega arith) c.method-item.is))
