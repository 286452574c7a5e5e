-- Which method is called.
use Rattle.std.specs.Prelude.{◌≡◌, ℕ, List, [], ◌∷◌, Some, refl, codes}
use Rattle.jm_program.specs.declared.class.ClassParts.{ClassParts}
use Rattle.jm_program.specs.declared.class.Method.{Method}
use Rattle.jm_program.specs.declared.instruction.operation.SmallInt.{SmallInt}
use Rattle.jm_program.specs.declared.instruction.operation.SmallInt.TheVariants as small
use Rattle.jm_program.specs.declared.instruction.operation.ShortIndex.TheVariants as short
use Rattle.jm_values.specs.declared.fault.TagFault.TheVariants as fault
use Rattle.jm_world.specs.World.{ended_by}
use Rattle.jm_world.specs.Written.{main, class_below, interface, abstract_method, method, iconst, out, println, int, return, ireturn, nothing_to, new, invokeinterface, invokevirtual, invokespecial, aload}
use Rattle.jm_world.specs.declared.stop.Stop.TheVariants as stop
use Rattle.jm_world.proofs.Runs.Computed.{computed, steps, ending_of}

abbrev gives : ℕ → SmallInt → Method
gives flags n = method flags (codes "m") (nothing_to int) (iconst n ∷ ireturn ∷ [])

-- an interface, a class that implements it, one that overrides, and one that does not
abbrev family : List ClassParts
family = interface (codes "I") (abstract_method (codes "m") (nothing_to int) ∷ [])
    ∷ class_below (codes "java/lang/Object") (codes "I" ∷ []) (codes "A") [] (gives 0x0001 small.One ∷ [])
    ∷ class_below (codes "A") [] (codes "B") [] (gives 0x0001 small.Two ∷ [])
    ∷ class_below (codes "A") [] (codes "C") [] [] ∷ []

abbrev overrides : List ClassParts
overrides = main (
    out ∷ new (codes "B") ∷ invokeinterface (codes "I") (codes "m") (nothing_to int) ∷ println int
    ∷ out ∷ new (codes "C") ∷ invokevirtual (codes "A") (codes "m") (nothing_to int) ∷ println int ∷ return ∷ []) ∷ family

the_override_is_selected : (computed overrides (steps 50 1)).output ≡ codes "2\n1\n"
unfolding computed
the_override_is_selected = refl

-- a private method of a subclass is passed over
abbrev hidden : List ClassParts
hidden = main (out ∷ new (codes "D") ∷ invokevirtual (codes "A") (codes "m") (nothing_to int) ∷ println int ∷ return ∷ [])
    ∷ class_below (codes "A") [] (codes "D") [] (gives 0x0002 small.Three ∷ []) ∷ family

a_private_method_is_passed_over : (computed hidden (steps 50 1)).output ≡ codes "1\n"
unfolding computed
a_private_method_is_passed_over = refl

-- a class without the interface
abbrev no_interface : List ClassParts
no_interface = main (new (codes "Main") ∷ invokeinterface (codes "I") (codes "m") (nothing_to int) ∷ return ∷ []) ∷ family

no_interface_throws : ending_of (computed no_interface (steps 6 1)) 1 ≡ Some (ended_by (codes "java/lang/IncompatibleClassChangeError"))
unfolding computed
no_interface_throws = refl

-- an abstract method
abbrev no_code : List ClassParts
no_code = main (new (codes "E") ∷ invokeinterface (codes "I") (codes "m") (nothing_to int) ∷ return ∷ [])
    ∷ class_below (codes "java/lang/Object") (codes "I" ∷ []) (codes "E") [] [] ∷ family

no_method_throws : ending_of (computed no_code (steps 10 1)) 1 ≡ Some (ended_by (codes "java/lang/AbstractMethodError"))
unfolding computed
no_method_throws = refl

-- invokespecial of a superclass's method begins at the direct superclass
abbrev calls_super : List ClassParts
calls_super = main (out ∷ new (codes "G") ∷ invokevirtual (codes "A") (codes "m") (nothing_to int) ∷ println int ∷ return ∷ [])
    ∷ class_below (codes "B") [] (codes "G") [] (method 0x0001 (codes "m") (nothing_to int) (aload short.Zero ∷ invokespecial (codes "A") (codes "m") (nothing_to int) ∷ ireturn ∷ []) ∷ []) ∷ family

super_is_the_direct_one : (computed calls_super (steps 50 1)).output ≡ codes "2\n"
unfolding computed
super_is_the_direct_one = refl

-- a receiver of another class
abbrev other_receiver : List ClassParts
other_receiver = main (new (codes "Main") ∷ invokevirtual (codes "A") (codes "m") (nothing_to int) ∷ return ∷ []) ∷ family

another_receiver_stops : (computed other_receiver (steps 5 1)).stop ≡ Some (stop.TagFault fault.WrongKind)
unfolding computed
another_receiver_stops = refl
