-- What is left decides.
use Rattle.std.proofs.Common.{◌≡◌, drop}
use Rattle.std.specs.List.{list_all}
use Rattle.jm_linker.specs.Orders.{is_placed}
use Rattle.jm_linker.proofs.order.are_placed.Given as goal

abbrev pub invariant-loop-class : goal.invariant-loop-class
invariant-loop-class l = list_all (is_placed l.placed) l.classes ≡ list_all (is_placed l.placed) (drop l.class-index l.classes)
