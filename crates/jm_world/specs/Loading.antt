-- The world from which a run begins.
use Rattle.std.specs.Prelude.{ℕ, ◌+◌, List, [], ◌∷◌, ◌++◌, Option, Some, None, Bool, true, false, nat_lt, map, pos, codes}
use Rattle.std.specs.List.{filter, flat_map}
use Rattle.jm_program.specs.Names.{same_text}
use Rattle.jm_program.specs.Flags.{is_static}
use Rattle.jm_program.specs.declared.class.ClassParts.{ClassParts}
use Rattle.jm_program.specs.declared.class.Field.{Field}
use Rattle.jm_program.specs.declared.class.Method.{Method}
use Rattle.jm_program.specs.declared.constant.Constant.{Constant}
use Rattle.jm_program.specs.declared.constant.Constant.TheVariants as constant
use Rattle.jm_program.specs.declared.descriptor.BaseType.TheVariants as base
use Rattle.jm_program.specs.declared.descriptor.ElementType.TheVariants.{Base, Class}
use Rattle.jm_program.specs.declared.descriptor.FieldType.{FieldType}
use Rattle.jm_program.specs.declared.descriptor.MethodDescriptor.{MethodDescriptor}
use Rattle.jm_program.specs.declared.instruction.symbolic.Instr.{Instr}
use Rattle.jm_program.specs.declared.instruction.symbolic.Instr.TheVariants as instr
use Rattle.jm_values.specs.declared.value.Value.TheVariants.{Int, Ref}
use Rattle.jm_world.specs.Types.{instance_of, array_of, class_type, default_value}
use Rattle.jm_world.specs.Classes.{FoundMethod, method_in, name_of_method, string_class, print_stream_class, system_class}
use Rattle.jm_world.specs.Objects.{Object, FieldName, field_names, new_array, cells_of_all}
use Rattle.jm_world.specs.Frames.{Frame, method_frame, initialization_frame}
use Rattle.jm_world.specs.World.{World, Thread, Static, Literal, running}
use Rattle.jm_world.specs.Invocation.{activation_of}
use Rattle.jm_world.specs.declared.class_state.ClassState.TheVariants.{NotBegun}
use Rattle.jm_world.specs.declared.stage.Stage.TheVariants.{Begin}

-- main([Ljava/lang/String;)V
abbrev pub strings_type : FieldType
strings_type = record { dimensions = 1; element = Class string_class }

abbrev pub main_type : MethodDescriptor
main_type = record { parameters = strings_type ∷ []; return_type = None }

-- the main class is the first, and declares main
abbrev pub main_in : List ClassParts → Option FoundMethod
main_in [] = None
main_in (c ∷ cs) = elim (method_in c.methods (codes "main") main_type) [ None ↦ None | Some m ↦ Some (record { class = c; method = m }) ]

-- the literals of a class: constant fields, then methods, then their instructions
abbrev pub text_of : Constant → List (List ℕ)
text_of (constant.Int n) = []
text_of (constant.Long n) = []
text_of (constant.String units) = units ∷ []

abbrev pub texts_of_field : Field → List (List ℕ)
texts_of_field f = elim f.constant [ None ↦ [] | Some c ↦ elim (is_static f.flags) [ true ↦ text_of c | false ↦ [] ] ]

abbrev pub texts_of_instruction : Instr → List (List ℕ)
texts_of_instruction (instr.Constant c) = text_of c
texts_of_instruction _ = []

abbrev pub texts_of_method : Method → List (List ℕ)
texts_of_method m = elim m.code [ None ↦ [] | Some code ↦ flat_map texts_of_instruction code.instructions ]

abbrev pub texts_of_class : ClassParts → List (List ℕ)
texts_of_class c = flat_map texts_of_field c.fields ++ flat_map texts_of_method c.methods

abbrev pub has_text : List ℕ → List (List ℕ) → Bool
has_text text [] = false
has_text text (t ∷ ts) = elim (same_text t text) [ true ↦ true | false ↦ has_text text ts ]

-- equal literals are one
abbrev pub distinct_after : List (List ℕ) → List (List ℕ) → List (List ℕ)
distinct_after seen [] = []
distinct_after seen (t ∷ ts) = elim (has_text t seen) [ true ↦ distinct_after seen ts | false ↦ t ∷ distinct_after (t ∷ seen) ts ]

abbrev pub literal_texts : List ClassParts → List (List ℕ)
literal_texts program = distinct_after [] (flat_map texts_of_class program)

abbrev pub char_type : FieldType
char_type = record { dimensions = 0; element = Base base.Char }

-- a literal's array of chars, and the String that holds it
abbrev pub literal_objects : ℕ → List ℕ → List Object
literal_objects chars text =
    record { type = array_of char_type; values = map (λ u. Int (pos u)) text }
    ∷ record { type = instance_of string_class; values = Ref chars ∷ [] }
    ∷ []

-- the objects and the Strings of literals, numbered from a number on
abbrev pub objects_from : ℕ → List (List ℕ) → List Object
objects_from k [] = []
objects_from k (t ∷ ts) = literal_objects k t ++ objects_from (k + 2) ts

abbrev pub literals_from : ℕ → List (List ℕ) → List Literal
literals_from k [] = []
literals_from k (t ∷ ts) = record { units = t; string = k + 1 } ∷ literals_from (k + 2) ts

-- the print stream of System.out, main's empty array, and the literals
abbrev pub first_objects : List ClassParts → List Object
first_objects program =
    record { type = instance_of print_stream_class; values = [] }
    ∷ new_array (class_type string_class) 0
    ∷ objects_from 2 (literal_texts program)

-- every static field with its default value; a constant comes with the initialization
abbrev pub statics_of_class : ClassParts → List Static
statics_of_class c = map (λ f. record { field = f; value = default_value f.type }) (field_names c (filter (λ f. is_static f.flags) c.fields))

abbrev pub out_field : FieldName
out_field = record { class = system_class; name = codes "out"; type = class_type print_stream_class }

abbrev pub first_statics : List ClassParts → List Static
first_statics program = record { field = out_field; value = Ref 0 } ∷ flat_map statics_of_class program

-- the first thread: main's frame, and above it the initialization of the main class
abbrev pub first_frames : FoundMethod → List Frame
first_frames found = elim found.method.code [
  | None ↦ []
  | Some code ↦ initialization_frame found.class.name Begin ∷ method_frame (name_of_method found) (activation_of code (Ref 1 ∷ [])) None ∷ []
]

abbrev pub first_thread : Option FoundMethod → Thread
first_thread found = record {
  object = None;
  frames = elim found [ None ↦ [] | Some m ↦ first_frames m ];
  pending = None;
  ending = running;
}

-- the built-in classes are initialized, and all others are not begun
unfoldable pub loaded_world : List ClassParts → ℕ → World
loaded_world program limit = record {
  program = program;
  limit = limit;
  heap = first_objects program;
  literals = literals_from 2 (literal_texts program);
  statics = first_statics program;
  classes = map (λ c. record { class = c.name; state = NotBegun }) program;
  monitors = [];
  threads = first_thread (main_in program) ∷ [];
  output = [];
  stop = None;
}

-- the heap is too small for the first objects
abbrev pub is_too_small : List ClassParts → ℕ → Bool
is_too_small program limit = nat_lt limit (cells_of_all (first_objects program))
