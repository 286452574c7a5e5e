-- Objects that are made at once: all or none.
use Rattle.std.specs.Prelude.{ℕ, List, [], ◌∷◌, ◌≡◌, codes, refl, length, Option, Some, None}
use Rattle.jm_program.specs.declared.class.ClassParts.{ClassParts}
use Rattle.jm_world.specs.Objects.{Object}
use Rattle.jm_world.specs.Next.{Next, goes, stops, blocks, exception, make_all}
use Rattle.jm_world.specs.Loading.{loaded_world}
use Rattle.jm_world.specs.Written.{main, return}
use Rattle.jm_world.specs.declared.stop.Stop.TheVariants as stop
use Rattle.jm_world.proofs.Runs.Computed.{computed}

-- 5 cells are there from the load, objects 0 and 1, and each of these takes 2
abbrev idle : List ClassParts
idle = main (return ∷ []) ∷ []

abbrev two : List Object
two = exception (codes "A") ∷ exception (codes "B") ∷ []

-- with a limit; the numbers stand in the place of what is printed
abbrev make_within : ℕ → List Object → Next
make_within limit os = make_all (loaded_world idle limit) os (λ made numbers. goes (record made { output = numbers }))

-- how many objects there are, and the numbers
abbrev objects_then : Next → Option (ℕ × List ℕ)
objects_then (goes w) = Some (length w.heap, w.output)
objects_then (stops s) = None
objects_then blocks = None

nine_cells_hold_two : objects_then (make_within 9 two) ≡ Some (4, 2 ∷ 3 ∷ [])
unfolding computed
nine_cells_hold_two = refl

eight_cells_hold_neither : make_within 8 two ≡ stops stop.HeapFull
unfolding computed
eight_cells_hold_neither = refl
