-- The method of a built-in class, or of one of the program's.
use Rattle.std.proofs.Common.{List, Some, ap, sym, subst, length, arith, ◌∙◌, ◌≡◌, ◌≤◌, ◌-◌}
use Rattle.std.specs.Prelude.{slice_get}
use Rattle.jm_builtins.specs.declared.built_in.BuiltIn.{BuiltIn}
use Rattle.jm_program.specs.declared.class.ClassParts.{ClassParts}
use Rattle.jm_program.specs.declared.class.Method.{Method}
use Rattle.jm_values.proofs.Lists.{get_at}
use Rattle.jm_interp.proofs.DeclaredMethods.{looked_up}
use Rattle.jm_interp.proofs.FieldRows.{numbered_built_in, numbered_own, numbered_within}
use Rattle.jm_interp.proofs.declared.declared_method.Goals as goal

pub returns-then-number-built_ins : goal.returns-then-number-built_ins
returns-then-number-built_ins c found numbered =
    let b = c.index-built_ins-number.result in
    let there = get_at c.built_ins-built_ins.result.now c.args.method.class b c.if-number-built_ins.true c.index-built_ins-number.is in
    let got = sym (ap (λ (bs : List BuiltIn). slice_get bs c.args.method.class) c.built_ins-built_ins.ensures) ∙ there in
    let same = numbered_built_in c.args.linked.now.program c.args.method.class found.class numbered.class b got in
    looked_up c.as_slice.result.now c.args.method.member c.get.result c.get.ensures.lookup.3
    ∙ ap (λ (ms : List Method). slice_get ms c.args.method.member)
    (c.as_slice.ensures ∙ ap (λ (x : BuiltIn). x.methods) (sym c.index-built_ins-number.is) ∙ ap (λ (x : ClassParts). x.methods) same)
    ∙ numbered.method

pub returns-then-own-classes : goal.returns-then-own-classes
returns-then-own-classes c found numbered =
    let program = c.args.linked.now.program in
    let long = ap length c.built_ins-built_ins.ensures in
    let own =
    numbered_own program c.args.method.class found.class numbered.class (subst (λ k. k ≤ c.args.method.class) long c.if-number-built_ins.false) in
    let got =
    get_at c.classes-classes.result.now (c.args.method.class - length c.built_ins-built_ins.result.now) c.index-classes-own.result
    c.if-own-classes.true c.index-classes-own.is in
    let some : Some c.index-classes-own.result ≡ Some found.class =
    sym got
    ∙ ap (λ (cs : List ClassParts). slice_get cs (c.args.method.class - length c.built_ins-built_ins.result.now)) c.classes-classes.ensures.classes
    ∙ ap (λ k. slice_get program (c.args.method.class - k)) long
    ∙ own in
    let same : c.index-classes-own.result ≡ found.class = cc in
    looked_up c.as_slice-then-own-classes.result.now c.args.method.member c.get-then-own-classes.result
    c.get-then-own-classes.ensures.lookup.3
    ∙ ap (λ (ms : List Method). slice_get ms c.args.method.member)
    (c.as_slice-then-own-classes.ensures ∙ ap (λ (x : ClassParts). x.methods) (c.parts.ensures.parts ∙ same))
    ∙ numbered.method

pub returns : goal.returns
returns c found numbered =
    let program = c.args.linked.now.program in
    let long = ap length c.built_ins-built_ins.ensures in
    let many = ap length c.classes-classes.ensures.classes in
    let inside =
    numbered_within program c.args.method.class found.class numbered.class (subst (λ k. k ≤ c.args.method.class) long c.if-number-built_ins.false) in
    absurd (omega (arith, long, many, inside))
