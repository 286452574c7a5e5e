-- What lines denote.
use Rattle.std.specs.Prelude.{◌≡◌, ℕ, List, [], ◌∷◌, Option, Some, Bool, true, refl, codes, is_none}
use Rattle.std.specs.List.{list_all}
use Rattle.jm_program.specs.DescriptorReading.{base_of, class_at, letter_at, element_at, field_at, parameters_at, whole_field, whole_return, whole_method, whole_descriptor}
use Rattle.jm_world.specs.Written.{taking, class_of_name}
use Rattle.jm_debug.specs.Commands.{command}
use Rattle.jm_debug.specs.declared.command.Command.{Command}
use Rattle.jm_debug.specs.declared.command.Command.TheVariants.{Break, Clear, Step, Locals, Statics, Object}

unfoldable read : List ℕ → Option Command
unfolding command base_of class_at letter_at element_at field_at parameters_at whole_field whole_return whole_method whole_descriptor
read line = command line

a_break : read (codes "break a/B.<init>(La/C;)V:007") ≡ Some (Break (record { class = codes "a/B"; method = codes "<init>"; descriptor = taking (class_of_name (codes "a/C")); instruction = 7 }))
unfolding read
a_break = refl

-- the class ends at the first point, the name at the first bracket, and the number stands behind the last
-- colon
signs_in_names : read (codes "clear A(:.m:(La:b(;)V:1") ≡ Some (Clear (record { class = codes "A(:"; method = codes "m:"; descriptor = taking (class_of_name (codes "a:b(")); instruction = 1 }))
unfolding read
signs_in_names = refl

a_step : read (codes "step 3") ≡ Some (Step 3 1)
unfolding read
a_step = refl

a_million_steps : read (codes "step 0 1000000") ≡ Some (Step 0 1000000)
unfolding read
a_million_steps = refl

the_largest_number : read (codes "object #18446744073709551615") ≡ Some (Object 18446744073709551615)
unfolding read
the_largest_number = refl

locals : read (codes "locals 1 600") ≡ Some (Locals 1 600)
unfolding read
locals = refl

a_class_of_no_such_name : read (codes "statics [I.") ≡ Some (Statics (codes "[I."))
unfolding read
a_class_of_no_such_name = refl

-- each of these lines denotes nothing
unfoldable are_strange : List (List ℕ) → Bool
unfolding command base_of class_at letter_at element_at field_at parameters_at whole_field whole_return whole_method whole_descriptor
are_strange lines = list_all (λ line. is_none (command line)) lines

a_word_that_is_none : are_strange ([] ∷ codes "foo" ∷ codes "Step 1" ∷ codes "steps 1" ∷ codes " full" ∷ codes "full " ∷ codes "full\t" ∷ codes "full\r" ∷ codes "full\n" ∷ []) ≡ true
unfolding are_strange
a_word_that_is_none = refl

a_word_missing : are_strange (codes "break" ∷ codes "clear" ∷ codes "step" ∷ codes "where" ∷ codes "locals" ∷ codes "locals 1" ∷ codes "stack 1" ∷ codes "statics" ∷ codes "statics " ∷ codes "object" ∷ []) ≡ true
unfolding are_strange
a_word_missing = refl

a_word_too_many : are_strange (
    codes "minor 1" ∷ codes "full full" ∷ codes "continue 1" ∷ codes "step 1 2 3" ∷ codes "step 1  2" ∷ codes "where 1 0" ∷ codes "locals 1 0 0" ∷ codes "stack 1 0 "
    ∷ codes "statics A B" ∷ codes "object #1 #2" ∷ codes "heap 1" ∷ codes "monitors 1" ∷ codes "break A.m()V:0 A.m()V:1" ∷ []) ≡ true
unfolding are_strange
a_word_too_many = refl

a_number_that_is_none : are_strange (
    codes "step x" ∷ codes "step -1" ∷ codes "step +1" ∷ codes "step 1x" ∷ codes "step #1" ∷ codes "step 1 0" ∷ codes "step 1 1000001" ∷ codes "where 18446744073709551616"
    ∷ codes "locals 1 -0" ∷ codes "stack 0x1 0" ∷ codes "object 1" ∷ codes "object #" ∷ codes "object ##1" ∷ codes "object #1#" ∷ []) ≡ true
unfolding are_strange
a_number_that_is_none = refl

no_place : are_strange (
    codes "break Main" ∷ codes "break Main.main" ∷ codes "break Main.main:0" ∷ codes "break main()V:0" ∷ codes "break .main()V:0" ∷ codes "break Main.()V:0"
    ∷ codes "break Main.main()V" ∷ codes "break Main.main()V:" ∷ codes "break Main.main()V:-1" ∷ codes "break Main.main()V:18446744073709551616" ∷ codes "break Main.main()V0"
    ∷ codes "break Main.main():0" ∷ codes "break Main.main(V)V:0" ∷ codes "break Main.main()VV:0" ∷ codes "break Main.main(La.b;)V:0" ∷ codes "break Main.main)V(:0"
    ∷ codes "statics A\r" ∷ codes "break A\r.m()V:0" ∷ []) ≡ true
unfolding are_strange
no_place = refl
