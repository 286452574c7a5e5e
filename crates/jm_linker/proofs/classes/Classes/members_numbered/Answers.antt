-- A class of the program, behind the built-in ones, and a built-in one.
use Rattle.std.proofs.Common.{List, arith}
use Rattle.std.specs.Borrow.{Bor}
use Rattle.std.specs.List.{ItemBy}
use Rattle.std.proofs.Common.{subst}
use Rattle.jm_linker.specs.declared.members.Members.{Members}
use Rattle.jm_linker.proofs.ClassLaws.{many_built_ins}
use Rattle.jm_linker.proofs.NumberedLaws.{own_got, built_in_got}
use Rattle.jm_linker.proofs.classes.Classes.members_numbered.Goals as goal

pub returns-in-Some : goal.returns-in-Some
returns-in-Some c =
    let me = c.args.self.now in
    let many = many_built_ins me.built_ins.items me.complete in
    let count = c.len.ensures in
    let own = c.in-Some.ensures in
    own_got me.program.now me.members.items c.args.number c.in-Some.own c.get.result (omega (arith, many, count, own.0, own.1)) me.tabled
    (subst (λ (ms : List Members). ItemBy (λ (m : Bor Members). m.now) ms c.in-Some.own c.in-Some.own c.get.result) c.deref.ensures.value c.get.ensures.lookup)

pub returns-in-None : goal.returns-in-None
returns-in-None c =
    let me = c.args.self.now in
    let many = many_built_ins me.built_ins.items me.complete in
    let count = c.len.ensures in
    let few = c.in-None.ensures in
    built_in_got me.program.now me.built_ins.items c.args.number c.get-in-None.result (omega (arith, many, count, few)) me.complete
    (subst (λ (ms : List Members). ItemBy (λ (m : Bor Members). m.now) ms c.args.number c.args.number c.get-in-None.result) c.deref-in-None.ensures.value c.get-in-None.ensures.lookup)
