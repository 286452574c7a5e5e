-- The initializers of the classes so far.
use Rattle.std.proofs.Common.{◌≡◌, length, take}
use Rattle.jm_linked.specs.Tables.{AreInitializers}
use Rattle.jm_linker.proofs.initializers.initializers_of.Given as goal

abbrev pub invariant-loop-class : goal.invariant-loop-class
invariant-loop-class l = (length l.numbers.items ≡ l.class-index) × AreInitializers (take l.class-index l.classes.program.now) l.numbers.items
