-- The initializer of one more class.
use Rattle.std.proofs.Common.{◌≡◌, ℕ, ◌+◌, List, Option, length, take, sym, subst, arith}
use Rattle.jm_linked.specs.Tables.{AreInitializers, IsInitializer}
use Rattle.jm_linker.proofs.InitializerLaws.{initializers_more}
use Rattle.jm_linker.proofs.initializers.initializers_of.Goals as goal

pub loop-class-preserved : goal.loop-class-preserved
loop-class-preserved c =
    let program = c.args.classes.now.program.now in
    let i = c.loop-class.class-index in
    let items = c.in_ok-push.ensures.items in
    let is_its = subst (λ d. IsInitializer d c.in_ok-initializer_number.field-0) c.parts.ensures.parts c.in_ok-initializer_number.ensures in
    subst (λ ns. (length ns ≡ i + 1) × AreInitializers (take (i + 1) program) ns) (sym {A = List (Option ℕ)} items)
    (initializers_more program c.loop-class.numbers.items i c.class-item.result c.in_ok-initializer_number.field-0
    (omega arith) c.class-item.is is_its c.loop-class.invariant)
