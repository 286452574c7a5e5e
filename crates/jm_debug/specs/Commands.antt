-- The command that a line denotes. A line is the UTF-16 code units of its text, without its line
-- feed.
use Rattle.std.specs.Prelude.{◌≡◌, Result, Ok, Err, ℕ, ◌+◌, ◌||◌, List, [], ◌∷◌, Bool, Option, Some, None, codes, nat_eq, take, drop, position, if◌then◌else◌}
use Rattle.std.specs.List.{list_any, slice_split}
use Rattle.std.specs.Option.{option_and_then}
use Rattle.jm_program.specs.Names.{same_text}
use Rattle.jm_program.specs.Descriptors.{is_method_type}
use Rattle.jm_program.specs.DescriptorReading.{whole_descriptor}
use Rattle.jm_program.specs.declared.descriptor.Descriptor.{Descriptor}
use Rattle.jm_program.specs.declared.descriptor.Descriptor.TheVariants as descriptor
use Rattle.jm_program.specs.declared.descriptor.MethodDescriptor.{MethodDescriptor}
use Rattle.jm_world.specs.Schedules.{thread_number, repeat_count}
use Rattle.jm_debug.specs.declared.place.Place.{Place}
use Rattle.jm_debug.specs.declared.fault.DebugFault.{DebugFault}
use Rattle.jm_debug.specs.declared.fault.DebugFault.TheVariants.{BadCommand, NoSuch, OutOfMemory}
use Rattle.jm_debug.specs.declared.command.Command.{Command}
use Rattle.jm_debug.specs.declared.command.Command.TheVariants.{Break, Clear, Step, Minor, Full, Continue, Where, Locals, Stack, Statics, Object, Heap, Monitors}

-- the next reading, where the one before found something
infixl 10 ◌>>=◌
abbrev pub ◌>>=◌ : {A B : Type 0} → Option A → (A → Option B) → Option B
found >>= next = option_and_then next found

-- ---- words of a line

-- a number below 2^64 in decimal digits: of a thread, a frame, an instruction or an object
abbrev pub number : List ℕ → Option ℕ
number = thread_number

-- any word but the empty one
abbrev pub name : List ℕ → Option (List ℕ)
name [] = None
name (u ∷ us) = Some (u ∷ us)

-- how often, from 1 to a million
abbrev pub count : List ℕ → Option ℕ
count = repeat_count

-- #K
abbrev pub object_number : List ℕ → Option ℕ
object_number [] = None
object_number (u ∷ us) = if nat_eq u 35 then number us else None

-- the type of a method (JVMS 4.3.3)
abbrev pub method_of : Descriptor → Option MethodDescriptor
method_of (descriptor.Field t) = None
method_of (descriptor.Method d) = if is_method_type d then Some d else None

abbrev pub method_type : List ℕ → Option MethodDescriptor
method_type units = whole_descriptor units >>= method_of

-- where the first unit of a kind stands
abbrev pub first_of : ℕ → List ℕ → Option ℕ
first_of unit units = position (λ u. nat_eq u unit) units

-- where the last one stands, of those from an index on or that was found before
abbrev pub last_from : ℕ → Option ℕ → ℕ → List ℕ → Option ℕ
last_from unit found index [] = found
last_from unit found index (u ∷ us) = last_from unit (if nat_eq u unit then Some index else found) (index + 1) us

abbrev pub last_of : ℕ → List ℕ → Option ℕ
last_of unit units = last_from unit None 0 units

-- METHODDESC: the name ends before the first (
abbrev pub member : List ℕ → List ℕ → ℕ → Option Place
member class units instruction = do
  bracket ← first_of 40 units
  class ← name class
  method ← name (take bracket units)
  type ← method_type (drop bracket units)
  Some (record { class = class; method = method; descriptor = type; instruction = instruction })

-- CLASS.METHODDESC: the class ends before the first point
abbrev pub class_member : List ℕ → ℕ → Option Place
class_member units instruction = do
  point ← first_of 46 units
  member (take point units) (drop (point + 1) units) instruction

-- CLASS.METHODDESC:N, where N stands behind the last colon
abbrev pub place : List ℕ → Option Place
place units = do
  colon ← last_of 58 units
  instruction ← number (drop (colon + 1) units)
  class_member (take colon units) instruction

-- ---- commands

-- the words of a line are parted by one blank each
abbrev pub words_of : List ℕ → List (List ℕ)
words_of line = slice_split (λ u. nat_eq u 32) line

-- the words of a command that takes none, one or two
abbrev pub no_word : List (List ℕ) → Option (Unit {0})
no_word [] = Some tt
no_word (w ∷ ws) = None

abbrev pub one_word : List (List ℕ) → Option (List ℕ)
one_word (w ∷ []) = Some w
one_word _ = None

abbrev pub two_words : List (List ℕ) → Option (List ℕ × List ℕ)
two_words (v ∷ w ∷ []) = Some (v, w)
two_words _ = None

-- how often: once where nothing is said
abbrev pub times : List (List ℕ) → Option ℕ
times [] = Some 1
times (w ∷ words) = no_word words >>= λ _. count w

-- a thread, and how often it makes an event
abbrev pub steps : List (List ℕ) → Option Command
steps [] = None
steps (t ∷ words) = number t >>= λ thread. times words >>= λ often. Some (Step thread often)

abbrev pub frame_of : List (List ℕ) → Option (ℕ × ℕ)
frame_of words = two_words words >>= λ w. number w.0 >>= λ thread. number w.1 >>= λ frame. Some (thread, frame)

abbrev pub alone : Command → List (List ℕ) → Option Command
alone c words = no_word words >>= λ _. Some c

abbrev pub with_one : {A : Type 0} → (A → Command) → (List ℕ → Option A) → List (List ℕ) → Option Command
with_one command read words = one_word words >>= λ w. read w >>= λ x. Some (command x)

abbrev pub with_frame : (ℕ → ℕ → Command) → List (List ℕ) → Option Command
with_frame command words = frame_of words >>= λ f. Some (command f.0 f.1)

abbrev pub view_command : List ℕ → List (List ℕ) → Option Command
view_command w words =
    if same_text w (codes "where") then with_one Where number words
    else if same_text w (codes "locals") then with_frame Locals words
    else if same_text w (codes "stack") then with_frame Stack words
    else if same_text w (codes "statics") then with_one Statics name words
    else if same_text w (codes "object") then with_one Object object_number words
    else if same_text w (codes "heap") then alone Heap words
    else if same_text w (codes "monitors") then alone Monitors words
    else None

abbrev pub event_command : List ℕ → List (List ℕ) → Option Command
event_command w words =
    if same_text w (codes "step") then steps words
    else if same_text w (codes "minor") then alone Minor words
    else if same_text w (codes "full") then alone Full words
    else if same_text w (codes "continue") then alone Continue words
    else view_command w words

abbrev pub words_command : List (List ℕ) → Option Command
words_command [] = None
words_command (w ∷ words) =
    if same_text w (codes "break") then with_one Break place words
    else if same_text w (codes "clear") then with_one Clear place words
    else event_command w words

-- a line has neither line feed nor carriage return in it
abbrev pub ends_line : ℕ → Bool
ends_line u = nat_eq u 10 || nat_eq u 13

unfoldable pub command : List ℕ → Option Command
command line = if list_any ends_line line then None else words_command (words_of line)

-- ---- reading

-- what was read is what is denoted, and 80 comes where nothing is; want of memory says nothing
abbrev pub Fails : {X : Type 0} → DebugFault → Option X → Type 0
Fails BadCommand denoted = denoted ≡ None
Fails NoSuch denoted = ⊥
Fails OutOfMemory denoted = Unit {0}

abbrev pub Reads : {X : Type 0} → Result X DebugFault → Option X → Type 0
Reads (Ok x) denoted = denoted ≡ Some x
Reads (Err fault) denoted = Fails fault denoted

-- the same, where a view of what was read is denoted
abbrev pub ReadsAs : {X Y : Type 0} → (X → Y) → Result X DebugFault → Option Y → Type 0
ReadsAs view (Ok x) denoted = denoted ≡ Some (view x)
ReadsAs view (Err fault) denoted = Fails fault denoted
