-- The reasons why a program is not linked, in the order in which they are looked for.
use Rattle.std.specs.Prelude.{List, Option, not}
use Rattle.jm_program.specs.declared.class.ClassParts.{ClassParts}
use Rattle.jm_world.specs.Loading.{main_in}
use Rattle.jm_world.specs.Loads.{Refusal, no_main, or_else, when, first_of_all, parents_refusal, cycle_refusal, is_main, method_code_refusal}

-- the reasons that are looked for when the members of all classes are known
abbrev pub after_members : List ClassParts → Option Refusal
after_members p =
    or_else (first_of_all (parents_refusal p) p)
    (or_else (first_of_all (cycle_refusal p) p)
    (or_else (when (not (is_main (main_in p))) no_main)
    (first_of_all (λ (c : ClassParts). first_of_all (method_code_refusal p) c.methods) p)))
