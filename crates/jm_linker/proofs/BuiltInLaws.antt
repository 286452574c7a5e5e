-- The built-in classes are those of their classes.
use Rattle.std.proofs.Common.{◌≡◌, List, [], ◌∷◌, refl, ap, ◌∙◌}
use Rattle.std.specs.Prelude.{map}
use Rattle.jm_program.specs.declared.class.ClassParts.{ClassParts}
use Rattle.jm_builtins.specs.declared.built_in.BuiltIn.{BuiltIn}
use Rattle.jm_builtins.specs.List.{the_builtins}
use Rattle.jm_world.specs.Classes.{as_class}
use Rattle.jm_linker.specs.BuiltIns.{as_built_in}
use Rattle.jm_linker.specs.BuiltInClasses.{built_in_classes}

there_and_back : (bs : List BuiltIn) → map as_built_in (map as_class bs) ≡ bs
there_and_back [] = refl
there_and_back (b ∷ bs) = ap (λ cs. b ∷ cs) (there_and_back bs)

pub built_ins_back : (cs : List ClassParts) → cs ≡ built_in_classes → map as_built_in cs ≡ the_builtins
unfolding built_in_classes
built_ins_back cs e = ap (map as_built_in) e ∙ there_and_back the_builtins
