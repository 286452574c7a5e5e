use Rattle.std.proofs.Common.{◌≡◌, Some, ap, subst, sym, ◌∙◌}
use Rattle.std.specs.Prelude.{slice_get}
use Rattle.std.specs.List.{AllByRecursion}
use Rattle.jm_linked.specs.Links.{CatchesClass}
use Rattle.jm_linked.specs.declared.method.LinkedMethod.{LinkedMethod}
use Rattle.jm_state.specs.Parts.{named_type}
use Rattle.jm_interp.specs.Catching.{target_among}
use Rattle.jm_interp.proofs.Caught.{handlers_named, target_there, method_there}
use Rattle.jm_interp.proofs.handlers.target_in.Goals as goal

pub target_among-requires-clause-named : goal.target_among-requires-clause-named
target_among-requires-clause-named c =
    let l = c.args.linked.now in
    let m = c.index-methods-method.result in
    let is : slice_get l.methods c.args.method ≡ Some m = method_there l c.args.method m c.requires.there c.methods.ensures.methods c.index-methods-method.is in
    subst (AllByRecursion (CatchesClass l.program))
    (sym (c.as_slice-handlers.ensures ∙ ap (λ (x : LinkedMethod). x.handlers) (sym c.index-methods-method.is)))
    (handlers_named l c.methods.ensures.linked c.args.method m is)

pub returns : goal.returns
returns c w same =
    let l = c.args.linked.now in
    let m = c.index-methods-method.result in
    let type = named_type l.program c.args.thrown in
    let is : slice_get l.methods c.args.method ≡ Some m = method_there l c.args.method m c.requires.there c.methods.ensures.methods c.index-methods-method.is in
    c.target_among.ensures w same
    ∙ ap (target_among w l.program c.args.index type) (c.as_slice-handlers.ensures ∙ ap (λ (x : LinkedMethod). x.handlers) (sym c.index-methods-method.is))
    ∙ target_there w l c.methods.ensures.linked c.args.method m c.args.index type same is
