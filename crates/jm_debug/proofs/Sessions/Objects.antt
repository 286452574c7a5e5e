-- Objects that refer to one another, and an array, with references cut and collections in between.
use Rattle.std.specs.Prelude.{List, [], ◌∷◌, refl, codes, pos}
use Rattle.jm_program.specs.declared.class.ClassParts.{ClassParts}
use Rattle.jm_program.specs.declared.instruction.operation.SmallInt.TheVariants as small
use Rattle.jm_program.specs.declared.instruction.operation.ShortIndex.TheVariants as short
use Rattle.jm_world.specs.Written.{main, class, field, iconst, bipush, getfield, putfield, class_of_name, return, areturn, new, aload, astore, aconst_null, newarray_int, iastore, goto}
use Rattle.jm_debug.proofs.Sessions.Computed.{answers_within, Goes, GoesWithin}

abbrev the_list : List ClassParts
the_list = main (
    new (codes "N") ∷ astore short.Zero ∷ new (codes "N") ∷ astore short.One
    ∷ aload short.Zero ∷ aload short.One ∷ putfield (codes "N") (codes "n") (class_of_name (codes "N"))
    ∷ aload short.One ∷ new (codes "N") ∷ putfield (codes "N") (codes "n") (class_of_name (codes "N"))
    ∷ aconst_null ∷ astore short.One
    ∷ aload short.Zero ∷ getfield (codes "N") (codes "n") (class_of_name (codes "N")) ∷ getfield (codes "N") (codes "n") (class_of_name (codes "N"))
    ∷ areturn ∷ []) ∷ class (codes "N") (field 0x0001 (codes "n") (class_of_name (codes "N")) ∷ []) [] ∷ []

a_list_is_cut : Goes the_list (
    (codes "step 1 9", codes "done\n")
    ∷ (codes "minor", codes "done\n")
    ∷ (codes "minor", codes "done\n")
    ∷ (codes "step 1 5", codes "done\n")
    ∷ (codes "minor", codes "done\n")
    ∷ (codes "step 1 5", codes "done\n")
    ∷ (codes "minor", codes "done\n")
    ∷ (codes "minor", codes "done\n")
    ∷ (codes "full", codes "done\n")
    ∷ (codes "step 1 3", codes "done\n")
    ∷ (codes "stack 1 0", codes "0 = #4\n")
    ∷ (codes "object #3", codes "#3 N 3 cells\nN.n LN; = #4\n")
    ∷ (codes "object #4", codes "#4 N 3 cells\nN.n LN; = null\n")
    ∷ (codes "object #1", codes "? 81 NoSuch\n")
    ∷ (codes "heap", codes "reachable 4 objects 11 cells limit 65536\n#0 java/io/PrintStream\n#2 N\n#3 N\n#4 N\n")
    ∷ (codes "step 1", codes "stopped\n")
    ∷ (codes "full", codes "stopped\n")
    ∷ (codes "continue", codes "stopped\n")
    ∷ [])
unfolding answers_within
a_list_is_cut = refl

abbrev the_array : List ClassParts
the_array = main (
    iconst small.Zero ∷ newarray_int ∷ astore short.One ∷ iconst small.Three ∷ newarray_int ∷ astore short.Two
    ∷ aload short.Two ∷ iconst small.One ∷ bipush (pos 7) ∷ iastore ∷ aconst_null ∷ astore short.Two ∷ return ∷ []) ∷ []

an_array_is_cut : Goes the_array (
    (codes "step 1 13", codes "done\n")
    ∷ (codes "object #3", codes "#3 [I 5 cells\n[0] = int 0\n[1] = int 7\n[2] = int 0\n")
    ∷ (codes "minor", codes "done\n")
    ∷ (codes "object #3", codes "#3 [I 5 cells\n[0] = int 0\n[1] = int 7\n[2] = int 0\n")
    ∷ (codes "full", codes "done\n")
    ∷ (codes "object #3", codes "#3 [I 5 cells\n[0] = int 0\n[1] = int 7\n[2] = int 0\n")
    ∷ (codes "locals 1 0", codes "0 = #1\n1 = #2\n2 = #3\n")
    ∷ (codes "step 1 2", codes "done\n")
    ∷ (codes "object #3", codes "? 81 NoSuch\n")
    ∷ [])
unfolding answers_within
an_array_is_cut = refl

-- arrays of a hundred ints, of which the last is held, in as many cells as two of them take: 53 each
abbrev the_loop : List ClassParts
the_loop = main (bipush (pos 100) ∷ newarray_int ∷ astore short.One ∷ goto 0 ∷ []) ∷ []

a_full_heap : GoesWithin 111 the_loop (
    (codes "step 1 23", codes "done\n")
    ∷ (codes "heap", codes "reachable 3 objects 58 cells limit 111\n#0 java/io/PrintStream\n#1 [Ljava/lang/String;\n#6 [I\n")
    ∷ (codes "object #1", codes "#1 [Ljava/lang/String; 3 cells\n")
    ∷ [])
unfolding answers_within
a_full_heap = refl
