-- The methods of all classes by number, and the numbers of names and types (JVMS 5.4.5, 6.5 invokevirtual).
use Rattle.std.specs.Prelude.{ℕ, suc, ◌+◌, List, [], ◌∷◌, ◌++◌, map, Option, Some, None, true, false, ◌&&◌}
use Rattle.jm_program.specs.Names.{same_text}
use Rattle.jm_program.specs.declared.class.ClassParts.{ClassParts}
use Rattle.jm_program.specs.declared.class.Method.{Method}
use Rattle.jm_program.specs.declared.descriptor.MethodDescriptor.{MethodDescriptor}
use Rattle.jm_builtins.specs.List.{the_builtins}
use Rattle.jm_world.specs.Classes.{FoundMethod, as_class}
use Rattle.jm_world.specs.Types.{same_method_type}

abbrev pub methods_of : ClassParts → List Method → List FoundMethod
methods_of c [] = []
methods_of c (m ∷ ms) = record { class = c; method = m } ∷ methods_of c ms

abbrev pub methods_in : List ClassParts → List FoundMethod
methods_in [] = []
methods_in (c ∷ cs) = methods_of c c.methods ++ methods_in cs

-- the methods of all classes, the built-in ones first, of each as declared
unfoldable pub all_methods : List ClassParts → List FoundMethod
all_methods program = methods_in (map as_class the_builtins ++ program)

-- the number of the first method of a name and a type, counted from a number
abbrev pub first_named : ℕ → List FoundMethod → List ℕ → MethodDescriptor → Option ℕ
first_named k [] name t = None
first_named k (f ∷ fs) name t = elim (same_text f.method.name name && same_method_type f.method.descriptor t)
    [ true ↦ Some k | false ↦ first_named (k + 1) fs name t ]

-- a selector stands for a name and a type: it is the number of the first method that has both
unfoldable pub selector_of : List ClassParts → List ℕ → MethodDescriptor → Option ℕ
selector_of program name t = first_named 0 (all_methods program) name t

-- of each method its number among those with code, counted from a number, if it has code
abbrev pub numbered_codes : ℕ → List FoundMethod → List (Option ℕ)
numbered_codes k [] = []
numbered_codes k (f ∷ fs) = elim f.method.code [ None ↦ None ∷ numbered_codes k fs | Some code ↦ Some k ∷ numbered_codes (suc k) fs ]

unfoldable pub code_numbers : List ClassParts → List (Option ℕ)
code_numbers program = numbered_codes 0 (all_methods program)
