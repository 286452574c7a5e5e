-- A session, and what a line makes of it.
use Rattle.std.specs.Option.{option_map}
use Rattle.std.specs.Prelude.{◌≡◌, ℕ, zero, suc, ◌+◌, ◌-◌, List, [], ◌∷◌, ◌++◌, Option, Some, None, Result, Ok, Err, Bool, true, false, ◌&&◌, not, codes, length, nat_eq, nat_lt, if◌then◌else◌}
use Rattle.std.specs.List.{filter, flat_map, list_any}
use Rattle.std.specs.Fmt.{decimal}
use Rattle.jm_program.specs.Names.{same_text}
use Rattle.jm_program.specs.declared.class.ClassParts.{ClassParts}
use Rattle.jm_program.specs.declared.class.Method.{Method}
use Rattle.jm_world.specs.Types.{same_method_type}
use Rattle.jm_world.specs.Classes.{method_named}
use Rattle.jm_world.specs.Frames.{Frame, method_frame, initialization_frame, entry_frame}
use Rattle.jm_world.specs.World.{World, Thread, thread_at, live_among}
use Rattle.jm_world.specs.Run.{After, after}
use Rattle.jm_world.specs.RoundRobin.{live_from, is_blocked, is_stopped}
use Rattle.jm_world.specs.declared.event.Event.{Event}
use Rattle.jm_world.specs.declared.event.Event.TheVariants as event
use Rattle.jm_world.specs.declared.reply.ReplyKind.{ReplyKind}
use Rattle.jm_debug.specs.Commands.{command}
use Rattle.jm_debug.specs.Texts.{place_text, place_in, kind_text}
use Rattle.jm_debug.specs.Views.{Lines, where_lines, locals_lines, stack_lines, statics_lines, object_lines, heap_lines, monitor_lines}
use Rattle.jm_debug.specs.declared.place.Place.{Place}
use Rattle.jm_debug.specs.declared.turn.Turn.{Turn}
use Rattle.jm_debug.specs.declared.turn.Turn.TheVariants as turn
use Rattle.jm_debug.specs.declared.command.Command.{Command}
use Rattle.jm_debug.specs.declared.command.Command.TheVariants.{Break, Clear, Step, Minor, Full, Continue, Where, Locals, Stack, Statics, Object, Heap, Monitors}
use Rattle.jm_debug.specs.declared.fault.DebugFault.{DebugFault}
use Rattle.jm_debug.specs.declared.fault.DebugFault.TheVariants.{BadCommand, NoSuch, OutOfMemory}

-- a world, the places that hold a break, and the thread from which the next turn is looked for
pub record Session : Type 0 where
  pub world : World
  pub breaks : List Place
  pub cursor : ℕ

-- the answer's bytes or a refusal, and the next session
pub record Shown : Type 0 where
  pub answer : Result (List ℕ) DebugFault
  pub next : Session

-- the session of a world
abbrev pub session_of : World → Session
session_of w = record { world = w; breaks = []; cursor = 1 }

-- ---- answers

-- a line, ended by a line feed
abbrev pub ended : List ℕ → List ℕ
ended line = line ++ codes "\n"

-- no line is told by one
abbrev pub bytes_of : Lines → List ℕ
bytes_of [] = codes "none\n"
bytes_of (l ∷ ls) = flat_map ended (l ∷ ls)

-- what a view answered: the bytes of its lines, or 81 where there are none to show; want of memory says
-- nothing
abbrev pub IsRefused : DebugFault → Option Lines → Type 0
IsRefused BadCommand lines = ⊥
IsRefused NoSuch lines = lines ≡ None
IsRefused OutOfMemory lines = Unit {0}

abbrev pub Shows : {X : Type 0} → (X → List ℕ) → Result X DebugFault → Option Lines → Type 0
Shows bytes (Ok x) lines = option_map bytes_of lines ≡ Some (bytes x)
Shows bytes (Err fault) lines = IsRefused fault lines

-- a refusal changes nothing, and neither does a view
abbrev pub refuses : DebugFault → Session → Shown
refuses fault s = record { answer = Err fault; next = s }

abbrev pub says : List ℕ → Session → Shown
says line s = record { answer = Ok (ended line); next = s }

abbrev pub lists : Lines → Session → Shown
lists lines s = record { answer = Ok (bytes_of lines); next = s }

abbrev pub views : Option Lines → Session → Shown
views None s = refuses NoSuch s
views (Some lines) s = lists lines s

-- ---- breaks

abbrev pub same_place : Place → Place → Bool
same_place p q =
    nat_eq p.instruction q.instruction && same_text p.class q.class && same_text p.method q.method
    && same_method_type p.descriptor q.descriptor

abbrev pub holds_break : List Place → Place → Bool
holds_break breaks p = list_any (same_place p) breaks

-- the method has code with an instruction of that number
abbrev pub has_instruction : ℕ → Option Method → Bool
has_instruction number None = false
has_instruction number (Some m) = elim m.code [ None ↦ false | Some code ↦ nat_lt number (length code.instructions) ]

abbrev pub is_place_of : List ClassParts → Place → Bool
is_place_of program p = has_instruction p.instruction (method_named program (record { class = p.class; name = p.method; descriptor = p.descriptor }))

abbrev pub is_place : World → Place → Bool
is_place w p = is_place_of w.program p

abbrev pub with_break : Place → List Place → List Place
with_break p breaks = if holds_break breaks p then breaks else breaks ++ (p ∷ [])

abbrev pub without_break : Place → List Place → List Place
without_break p breaks = filter (λ q. not (same_place p q)) breaks

abbrev pub with_breaks : Session → Place → List Place → Shown
with_breaks s p breaks = if is_place s.world p then says (codes "ok") (record s { breaks = breaks }) else refuses NoSuch s

-- ---- events

-- an event so many times more
abbrev pub more : ℕ → Event → After → After
more zero e made = made
more (suc n) e made = more n e (after made.world e)

-- the kind of the last reply
abbrev pub replies : Session → After → Shown
replies s made = says (kind_text made.reply.kind) (record s { world = made.world })

-- ---- continue

-- the first live thread from the cursor on, or else the first one
abbrev pub live_in_turn : World → ℕ → Option ℕ
live_in_turn w cursor = elim (live_from cursor 1 w.threads) [ Some n ↦ Some n | None ↦ live_from 1 1 w.threads ]

-- where a thread stands, if its top frame is a method's
abbrev pub place_of_frame : Frame → Option Place
place_of_frame (method_frame m a monitor) = Some (place_in m a.at)
place_of_frame (initialization_frame class stage) = None
place_of_frame entry_frame = None

abbrev pub place_of_frames : List Frame → Option Place
place_of_frames [] = None
place_of_frames (f ∷ fs) = place_of_frame f

abbrev pub place_of_thread : Option Thread → Option Place
place_of_thread None = None
place_of_thread (Some t) = place_of_frames t.frames

abbrev pub break_at : List Place → Option Place → Option Place
break_at breaks None = None
break_at breaks (Some p) = if holds_break breaks p then Some p else None

-- the break at which a thread stands; none counts before the first event
abbrev pub break_before : Session → Bool → ℕ → Option Place
break_before s first n = if first then None else break_at s.breaks (place_of_thread (thread_at s.world n))

-- whose turn it is, or why it is no thread's: none is live, or as many events in a row as threads are
-- live were blocked
abbrev pub turn_of : Session → ℕ → Turn
turn_of s blocked = elim (live_in_turn s.world s.cursor) [
  | None ↦ turn.Ended
  | Some n ↦ if nat_eq blocked (live_among s.world.threads) then turn.Blocked else turn.Of n
]

-- a break with its thread; the thread's turn is still to come
abbrev pub break_text : ℕ → Place → List ℕ
break_text n p = codes "break t" ++ decimal n ++ codes " " ++ place_text p

abbrev pub breaks_at : ℕ → Place → Session → Shown
breaks_at n p s = says (break_text n p) (record s { cursor = n })

-- a session after an event of the thread whose turn it was
abbrev pub turned : ℕ → Session → Session
turned n s = record s { world = (after s.world (event.Step n)).world; cursor = n + 1 }

-- how many events in a row were blocked, after one more
abbrev pub blocked_after : ReplyKind → ℕ → ℕ
blocked_after kind blocked = if is_blocked kind then blocked + 1 else 0

-- at most so many events; whether none was made yet, and how many in a row were blocked
unfoldable pub continue_from : ℕ → Bool → ℕ → Session → Shown
continue_from zero first blocked s = elim (turn_of s blocked) [
  | turn.Ended ↦ says (codes "ended") s
  | turn.Blocked ↦ says (codes "blocked") s
  | turn.Of n ↦ says (codes "limit") s
]
continue_from (suc left) first blocked s = elim (turn_of s blocked) [
  | turn.Ended ↦ says (codes "ended") s
  | turn.Blocked ↦ says (codes "blocked") s
  | turn.Of n ↦ elim (break_before s first n) [
    | Some p ↦ breaks_at n p s
    | None ↦ let kind : ReplyKind = (after s.world (event.Step n)).reply.kind in
        if is_stopped kind then says (codes "stopped") (turned n s) else continue_from left false (blocked_after kind blocked) (turned n s)
  ]
]

-- ---- commands

unfoldable pub obeyed : Session → Command → Shown
obeyed s (Break p) = with_breaks s p (with_break p s.breaks)
obeyed s (Clear p) = with_breaks s p (without_break p s.breaks)
obeyed s (Step n count) = replies s (more (count - 1) (event.Step n) (after s.world (event.Step n)))
obeyed s Minor = replies s (after s.world event.Minor)
obeyed s Full = replies s (after s.world event.Full)
obeyed s Continue = continue_from 1000000 true 0 s
obeyed s (Where n) = views (where_lines s.world n) s
obeyed s (Locals n depth) = views (locals_lines s.world n depth) s
obeyed s (Stack n depth) = views (stack_lines s.world n depth) s
obeyed s (Statics class) = views (statics_lines s.world class) s
obeyed s (Object k) = views (object_lines s.world k) s
obeyed s Heap = lists (heap_lines s.world) s
obeyed s Monitors = lists (monitor_lines s.world) s

abbrev pub obeyed_if : Session → Option Command → Shown
obeyed_if s None = refuses BadCommand s
obeyed_if s (Some c) = obeyed s c

-- the answer to a line, and the next session
unfoldable pub shown : Session → List ℕ → Shown
shown s line = obeyed_if s (command line)

-- ---- sessions

-- a refusal by its number and its name
abbrev pub fault_text : DebugFault → List ℕ
fault_text BadCommand = codes "80 BadCommand"
fault_text NoSuch = codes "81 NoSuch"
fault_text OutOfMemory = codes "61 OutOfMemory"

abbrev pub printed : Result (List ℕ) DebugFault → List ℕ
printed (Ok bytes) = bytes
printed (Err fault) = ended (codes "? " ++ fault_text fault)

-- what is printed for each of some lines, one after the other
abbrev pub answers : Session → List (List ℕ) → List (List ℕ)
answers s [] = []
answers s (line ∷ lines) = let here : Shown = shown s line in printed here.answer ∷ answers here.next lines
