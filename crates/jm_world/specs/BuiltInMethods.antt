-- What the built-in methods do: each is one event, without a frame.
use Rattle.std.specs.Prelude.{ℕ, List, [], ◌∷◌, ◌++◌, Option, Some, None, Bool, true, false, nat_eq, pos, length, slice_get, codes}
use Rattle.jm_program.specs.Names.{same_text}
use Rattle.jm_program.specs.declared.descriptor.FieldType.{FieldType}
use Rattle.jm_program.specs.declared.descriptor.BaseType.TheVariants as base
use Rattle.jm_program.specs.declared.descriptor.ElementType.{ElementType}
use Rattle.jm_program.specs.declared.descriptor.ElementType.TheVariants.{Base}
use Rattle.jm_values.specs.declared.value.Value.{Value}
use Rattle.jm_values.specs.declared.value.Value.TheVariants.{Int, Long, Null, Ref}
use Rattle.jm_values.specs.declared.fault.TagFault.TheVariants.{WrongKind}
use Rattle.jm_world.specs.Types.{ObjectType, instance_of, array_of}
use Rattle.jm_world.specs.Classes.{MethodName, print_stream_class, string_class, thread_class}
use Rattle.jm_world.specs.Objects.{Object}
use Rattle.jm_world.specs.Frames.{entry_frame}
use Rattle.jm_world.specs.Text.{char_text, number_text, utf8_text, units_of}
use Rattle.jm_world.specs.World.{World, Thread, running}
use Rattle.jm_world.specs.Next.{Next, goes, faults}
use Rattle.jm_world.specs.Here.{Here, topped, moved_on, go_on, go_on_in, push, throws}

-- the array of a String's chars
abbrev pub chars_in : World → List Value → Option (List Value)
chars_in w (Ref k ∷ vs) = elim (slice_get w.heap k) [ None ↦ None | Some o ↦ Some o.values ]
chars_in w _ = None

abbrev pub chars_of_type : World → Object → ObjectType → Option (List Value)
chars_of_type w o (instance_of class) = elim (same_text class string_class) [ true ↦ chars_in w o.values | false ↦ None ]
chars_of_type w o (array_of component) = None

-- the chars of the String of that number: an object that is no String is of a wrong kind
abbrev pub with_chars : Here → ℕ → (List Value → Next) → Next
with_chars here k go = elim (slice_get here.world.heap k) [
  | None ↦ faults WrongKind
  | Some o ↦ elim (chars_of_type here.world o o.type) [ None ↦ faults WrongKind | Some chars ↦ go chars ]
]

-- writes bytes at the end of the output
abbrev pub write : Here → List ℕ → List Value → Next
write here bytes s = go_on_in here (record here.world { output = here.world.output ++ bytes }) s

-- the bytes of the one argument of print: a char is told from an int by the method's type; a null
-- String is null
abbrev pub is_char : ElementType → Bool
is_char (Base base.Char) = true
is_char _ = false

abbrev pub is_char_type : List FieldType → Bool
is_char_type [] = false
is_char_type (t ∷ ts) = is_char t.element

abbrev pub with_printed : Here → List FieldType → List Value → (List ℕ → Next) → Next
with_printed here ts (Int n ∷ vs) go = elim (is_char_type ts) [ true ↦ go (char_text n) | false ↦ go (number_text n) ]
with_printed here ts (Long n ∷ vs) go = go (number_text n)
with_printed here ts (Null ∷ vs) go = go (codes "null")
with_printed here ts (Ref k ∷ vs) go = with_chars here k (λ chars. go (utf8_text (units_of chars)))
with_printed here ts [] go = go []

-- print, and println, which ends the line
abbrev pub print_stream_method : Here → MethodName → List Value → List Value → Next
print_stream_method here m arguments s = with_printed here m.descriptor.parameters arguments (λ bytes. elim (same_text m.name (codes "println")) [
  | true ↦ write here (bytes ++ 10 ∷ []) s
  | false ↦ write here bytes s
])

-- the char at an index of the chars: else StringIndexOutOfBoundsException
abbrev pub char_at : Here → List Value → List Value → List Value → Next
char_at here chars (Int (pos i) ∷ vs) s = elim (slice_get chars i) [
  | Some v ↦ push here v s
  | None ↦ throws here (codes "java/lang/StringIndexOutOfBoundsException")
]
char_at here chars _ s = throws here (codes "java/lang/StringIndexOutOfBoundsException")

-- length and charAt
abbrev pub string_method : Here → MethodName → ℕ → List Value → List Value → Next
string_method here m receiver arguments s = with_chars here receiver (λ chars. elim (same_text m.name (codes "length")) [
  | true ↦ push here (Int (pos (length chars))) s
  | false ↦ char_at here chars arguments s
])

abbrev pub is_object_of : ℕ → Option ℕ → Bool
is_object_of k None = false
is_object_of k (Some j) = nat_eq j k

abbrev pub was_started : ℕ → List Thread → Bool
was_started k [] = false
was_started k (t ∷ ts) = elim (is_object_of k t.object) [ true ↦ true | false ↦ was_started k ts ]

-- a thread that has not begun
abbrev pub new_thread : ℕ → Thread
new_thread k = record { object = Some k; frames = entry_frame ∷ []; pending = None; ending = running }

abbrev pub with_new_thread : World → Thread → World
with_new_thread w t = record w { threads = w.threads ++ t ∷ [] }

-- a second start of one object throws
abbrev pub start_thread : Here → ℕ → List Value → Next
start_thread here k s = elim (was_started k here.world.threads) [
  | true ↦ throws here (codes "java/lang/IllegalThreadStateException")
  | false ↦ goes (with_new_thread (topped here here.world (moved_on here.frame s)) (new_thread k))
]

-- start; run does nothing
abbrev pub thread_method : Here → MethodName → ℕ → List Value → Next
thread_method here m receiver s = elim (same_text m.name (codes "start")) [
  | true ↦ start_thread here receiver s
  | false ↦ go_on here s
]

-- a built-in method, by its class; a constructor changes nothing
abbrev pub row_built_in : Here → MethodName → ℕ → List Value → List Value → Next
row_built_in here m receiver arguments s = elim (same_text m.class print_stream_class) [
  | true ↦ print_stream_method here m arguments s
  | false ↦ elim (same_text m.class string_class) [
    | true ↦ string_method here m receiver arguments s
    | false ↦ elim (same_text m.class thread_class) [
      | true ↦ thread_method here m receiver s
      | false ↦ go_on here s
    ]
  ]
]
