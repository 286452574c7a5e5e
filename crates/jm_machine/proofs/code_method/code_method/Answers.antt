use Rattle.std.proofs.Common.{sym, ap, ◌∙◌, subst, ◌<◌, List, length, ◌≡◌, Some}
use Rattle.std.specs.Prelude.{slice_get}
use Rattle.jm_program.specs.declared.class.ClassParts.{ClassParts}
use Rattle.jm_program.specs.declared.class.Method.{Method}
use Rattle.jm_machine.proofs.Parted.{indexed}
use Rattle.jm_machine.proofs.Told.{class_within, member_within, named_by, found_by}
use Rattle.jm_machine.proofs.code_method.code_method.Goals as goal

pub bounds-classes-entry : goal.bounds-classes-entry
bounds-classes-entry c =
    let l = c.args.linked.now in
    let entry = c.index-methods-number.result in
    let at : slice_get l.methods c.args.number ≡ Some entry =
    indexed _ l.methods c.args.number entry c.methods.ensures.methods c.requires c.index-methods-number.is in
    subst (λ (xs : List ClassParts). entry.class < length xs) (sym c.classes.ensures.classes) (class_within l c.methods.ensures.linked c.args.number entry at)

pub bounds-members-entry : goal.bounds-members-entry
bounds-members-entry c =
    let l = c.args.linked.now in
    let entry = c.index-methods-number.result in
    let class = c.index-classes-entry.result in
    let at : slice_get l.methods c.args.number ≡ Some entry =
    indexed _ l.methods c.args.number entry c.methods.ensures.methods c.requires c.index-methods-number.is in
    let here : slice_get l.program entry.class ≡ Some class =
    indexed _ l.program entry.class class c.classes.ensures.classes
    (class_within l c.methods.ensures.linked c.args.number entry at) c.index-classes-entry.is in
    let members : c.as_slice-members.result.now ≡ class.methods = c.as_slice-members.ensures ∙ ap (λ (x : ClassParts). x.methods) c.parts.ensures.parts in
    subst (λ (xs : List Method). entry.member < length xs) (sym members) (member_within l c.methods.ensures.linked c.args.number entry at class here)

pub returns : goal.returns
returns c =
    let l = c.args.linked.now in
    let entry = c.index-methods-number.result in
    let class = c.index-classes-entry.result in
    let at : slice_get l.methods c.args.number ≡ Some entry =
    indexed _ l.methods c.args.number entry c.methods.ensures.methods c.requires c.index-methods-number.is in
    let here : slice_get l.program entry.class ≡ Some class =
    indexed _ l.program entry.class class c.classes.ensures.classes
    (class_within l c.methods.ensures.linked c.args.number entry at) c.index-classes-entry.is in
    let members : c.as_slice-members.result.now ≡ class.methods = c.as_slice-members.ensures ∙ ap (λ (x : ClassParts). x.methods) c.parts.ensures.parts in
    let member = indexed _ class.methods entry.member c.index-members-entry.result members
    (member_within l c.methods.ensures.linked c.args.number entry at class here) c.index-members-entry.is in
    record {
      named = named_by l c.methods.ensures.linked c.args.number entry at class here c.index-members-entry.result member;
      found = found_by l c.methods.ensures.linked c.args.number entry at class here c.index-members-entry.result member;
    }
