use Rattle.std.proofs.Common.{List, Some, ap, sym, subst, length, arith, ◌∙◌, ◌≡◌, ◌≤◌, ◌-◌}
use Rattle.std.specs.Prelude.{slice_get}
use Rattle.jm_builtins.specs.declared.built_in.BuiltIn.{BuiltIn}
use Rattle.jm_program.specs.Flags.{is_interface}
use Rattle.jm_program.specs.declared.class.ClassParts.{ClassParts}
use Rattle.jm_values.proofs.Lists.{get_at}
use Rattle.jm_interp.proofs.FieldRows.{numbered_built_in, numbered_own, numbered_within}
use Rattle.jm_interp.proofs.fields.is_interface.Goals as goal

pub returns-then-number-built_ins : goal.returns-then-number-built_ins
returns-then-number-built_ins c parts at =
    let b = c.index-built_ins-number.result in
    let there = get_at c.built_ins-built_ins.result.now c.args.class b c.if-number-built_ins.true c.index-built_ins-number.is in
    let got = sym (ap (λ (bs : List BuiltIn). slice_get bs c.args.class) c.built_ins-built_ins.ensures) ∙ there in
    c.has.ensures
    ∙ ap (λ (x : BuiltIn). is_interface x.flags) (sym c.index-built_ins-number.is)
    ∙ ap (λ (x : ClassParts). is_interface x.flags) (numbered_built_in c.args.linked.now.program c.args.class parts at b got)

pub returns-then-own-classes : goal.returns-then-own-classes
returns-then-own-classes c parts at =
    let program = c.args.linked.now.program in
    let long = ap length c.built_ins-built_ins.ensures in
    let own = numbered_own program c.args.class parts at (subst (λ k. k ≤ c.args.class) long c.if-number-built_ins.false) in
    let got =
    get_at c.classes-classes.result.now (c.args.class - length c.built_ins-built_ins.result.now) c.index-classes-own.result c.if-own-classes.true
    c.index-classes-own.is in
    let some : Some c.index-classes-own.result ≡ Some parts =
    sym got
    ∙ ap (λ (cs : List ClassParts). slice_get cs (c.args.class - length c.built_ins-built_ins.result.now)) c.classes-classes.ensures.classes
    ∙ ap (λ k. slice_get program (c.args.class - k)) long
    ∙ own in
    let same : c.index-classes-own.result ≡ parts = cc in
    c.has-then-own-classes.ensures ∙ ap (λ (x : ClassParts). is_interface x.flags) (c.parts.ensures.parts ∙ same)

pub returns-else-own-classes : goal.returns-else-own-classes
returns-else-own-classes c parts at =
    let program = c.args.linked.now.program in
    let long = ap length c.built_ins-built_ins.ensures in
    let many = ap length c.classes-classes.ensures.classes in
    let inside = numbered_within program c.args.class parts at (subst (λ k. k ≤ c.args.class) long c.if-number-built_ins.false) in
    absurd (omega (arith, long, many, inside))
