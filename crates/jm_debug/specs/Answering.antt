-- What contracts see of a debugger, the sessions that it is at, and what a line comes to.
use Rattle.std.specs.Prelude.{◌≡◌, ◌+◌, ◌-◌, ◌≤◌, ◌<◌, ℕ, zero, suc, List, Bool, true, false, ◌&&◌, ◌||◌, Option, Some, None}
use Rattle.std.specs.Prelude.{Result, Ok, Err, codes, length, nat_eq}
use Rattle.jm_world.specs.Classes.{MethodName}
use Rattle.jm_world.specs.World.{World, live_among}
use Rattle.jm_world.specs.Run.{after}
use Rattle.jm_world.specs.declared.event.Event.{Event}
use Rattle.jm_world.specs.declared.event.Event.TheVariants as event
use Rattle.jm_world.specs.declared.reply.ReplyKind.{ReplyKind}
use Rattle.jm_world.specs.RoundRobin.{is_stopped}
use Rattle.jm_linked.specs.Links.{LinkedView, name_of_number}
use Rattle.jm_machine.specs.CodePlaces.{is_place}
use Rattle.jm_machine.specs.Collected.{Word, Collects}
use Rattle.jm_machine.specs.View.{MachineView, MatchesWorld}
use Rattle.jm_machine.specs.declared.code_place.CodePlace.{CodePlace}
use Rattle.jm_debug.specs.Commands.{command}
use Rattle.jm_debug.specs.Session.{Session, Shown, blocked_after, continue_from, holds_break, obeyed, shown, turn_of}
use Rattle.jm_debug.specs.Texts.{place_in}
use Rattle.jm_debug.specs.declared.place.Place.{Place}
use Rattle.jm_debug.specs.declared.command.Command.{Command}
use Rattle.jm_debug.specs.declared.command.Command.TheVariants.{Break, Clear, Step, Minor, Full, Continue, Where, Locals, Stack, Statics, Object, Heap, Monitors}
use Rattle.jm_debug.specs.declared.fault.DebugFault.{DebugFault}
use Rattle.jm_debug.specs.declared.fault.DebugFault.TheVariants.{BadCommand, NoSuch, OutOfMemory}
use Rattle.jm_debug.specs.declared.text.PlaceText.{PlaceText}
use Rattle.jm_debug.specs.declared.turn.Turn.{Turn}
use Rattle.jm_debug.specs.declared.turn.Turn.TheVariants.{Ended, Blocked, Of}
use Rattle.jm_debug.specs.declared.turn.Moved.{Moved}
use Rattle.jm_debug.specs.declared.turn.Moved.TheVariants.{Over, AtBreak, On}

-- a machine, the places that hold a break, and the thread from which the next turn is looked for
pub record DebuggerView (H : Type 0) : Type 0 where
  pub machine : MachineView H
  pub breaks : List Place
  pub cursor : ℕ

-- a debugger stands at a session
pub record IsSession {H : Type 0} (d : DebuggerView H) (s : Session) : Type 0 where
  pub world : MatchesWorld d.machine s.world
  pub breaks : d.breaks ≡ s.breaks
  pub cursor : d.cursor ≡ s.cursor

-- what a command that asks for a collection makes of the machine's heap
abbrev pub CollectsFor : {H : Type 0} → Word H → Option Command → DebuggerView H → DebuggerView H → Type 0
CollectsFor leaves (Some Minor) old new = Collects leaves event.Minor old.machine new.machine
CollectsFor leaves (Some Full) old new = Collects leaves event.Full old.machine new.machine
CollectsFor leaves command old new = Unit {0}

-- and a line
abbrev pub CollectsAt : {H : Type 0} → Word H → List ℕ → DebuggerView H → DebuggerView H → Type 0
CollectsAt leaves line old new = CollectsFor leaves (command line) old new

-- the place that is written
abbrev pub model_place : PlaceText → Place
model_place p = record { class = p.class.now; method = p.method.now; descriptor = p.descriptor.now; instruction = p.instruction }

-- ---- where want of memory leaves a session

-- the world after an event, so many times
abbrev pub repeated : ℕ → Event → World → World
repeated zero e w = w
repeated (suc made) e w = repeated made e (after w e).world

-- a session after an event, at most so many times
abbrev pub RepeatsWithin : ℕ → Event → Session → Session → Type 0
RepeatsWithin most e s t = (made : ℕ) × (made ≤ most) × (t ≡ record s { world = repeated made e s.world })

-- a session to which at most so many events of a continue lead
abbrev pub ContinuesWithin : ℕ → Session → Session → Type 0
ContinuesWithin most s t = (made : ℕ) × (made ≤ most) × (t ≡ (continue_from made true 0 s).next)

-- a session in which want of memory may leave a command: after some of the events of a step, fewer than
-- all, or of a continue; and else as it was
abbrev pub Leaves : Session → Command → Session → Type 0
Leaves s (Step n count) t = RepeatsWithin (count - 1) (event.Step n) s t
Leaves s Continue t = ContinuesWithin 1000000 s t
Leaves s (Break p) t = t ≡ s
Leaves s (Clear p) t = t ≡ s
Leaves s Minor t = t ≡ s
Leaves s Full t = t ≡ s
Leaves s (Where n) t = t ≡ s
Leaves s (Locals n depth) t = t ≡ s
Leaves s (Stack n depth) t = t ≡ s
Leaves s (Statics class) t = t ≡ s
Leaves s (Object k) t = t ≡ s
Leaves s Heap t = t ≡ s
Leaves s Monitors t = t ≡ s

-- a line that is no command leaves a session as it was
abbrev pub LeavesIf : Session → Option Command → Session → Type 0
LeavesIf s None t = t ≡ s
LeavesIf s (Some c) t = Leaves s c t

-- ---- what comes of a session

-- the answer's bytes and the next session; a refusal, which changes nothing; or want of memory, which
-- left it at one of some sessions
abbrev pub Comes : {H : Type 0} → {X : Type 0} → (X → List ℕ) → DebuggerView H → Session → Shown → (Session → Type 0) → Result X DebugFault → Type 0
Comes bytes d s is left (Ok x) = (is.answer ≡ Ok (bytes x)) × IsSession d is.next
Comes bytes d s is left (Err BadCommand) = (is.answer ≡ Err BadCommand) × IsSession d s
Comes bytes d s is left (Err NoSuch) = (is.answer ≡ Err NoSuch) × IsSession d s
Comes bytes d s is left (Err OutOfMemory) = (t : Session) × left t × IsSession d t

-- of a command
abbrev pub Obeys : {H : Type 0} → {X : Type 0} → (X → List ℕ) → DebuggerView H → Session → Command → Result X DebugFault → Type 0
Obeys bytes d s c result = Comes bytes d s (obeyed s c) (Leaves s c) result

-- of a line
abbrev pub Answers : {H : Type 0} → {X : Type 0} → (X → List ℕ) → DebuggerView H → Session → List ℕ → Result X DebugFault → Type 0
Answers bytes d s line result = Comes bytes d s (shown s line) (LeavesIf s (command line)) result

-- whose turn it is has a number from 1 on
abbrev pub IsThread : Turn → Type 0
IsThread Ended = Unit {0}
IsThread Blocked = Unit {0}
IsThread (Of n) = 0 < n

-- what the last of so many events of a turn makes of a continue: after a stop it is over, or else it goes on
abbrev pub MovesBy : ℕ → ReplyKind → ℕ → Moved → Type 0
MovesBy made kind blocked (Over line) = (is_stopped kind ≡ true) × (line.now ≡ codes "stopped\n")
MovesBy made kind blocked (AtBreak answer) = ⊥
MovesBy made kind blocked (On some count) = (is_stopped kind ≡ false) × (some ≡ made) × (count ≡ blocked_after kind blocked)

-- a turn that goes on has made an event, and no more than were left; there is one more blocked event in a
-- row at most
abbrev pub IsFew : ℕ → ℕ → Result Moved DebugFault → Type 0
IsFew most blocked (Ok (Over line)) = Unit {0}
IsFew most blocked (Ok (AtBreak answer)) = Unit {0}
IsFew most blocked (Ok (On made count)) = (0 < made) × (made ≤ most) × (count ≤ blocked + 1)
IsFew most blocked (Err fault) = Unit {0}

-- of one turn of a continue that has so many events left, and one at least: it is over, or goes on from
-- another session; want of memory leaves the session as it was
abbrev pub IsOver : {H : Type 0} → ℕ → Session → Bool → ℕ → DebuggerView H → List ℕ → Type 0
IsOver most s first blocked d line = let is : Shown = continue_from most first blocked s in (is.answer ≡ Ok line) × IsSession d is.next

abbrev pub Moves : {H : Type 0} → ℕ → Session → Bool → ℕ → DebuggerView H → Result Moved DebugFault → Type 0
Moves most s first blocked d (Ok (Over line)) = IsOver most s first blocked d line.now
Moves most s first blocked d (Ok (AtBreak answer)) = IsOver most s first blocked d answer.bytes.items
Moves most s first blocked d (Ok (On made count)) =
    (t : Session) × IsSession d t × ((left : ℕ) → continue_from (made + left) first blocked s ≡ continue_from left false count t)
Moves most s first blocked d (Err fault) = (fault ≡ OutOfMemory) × IsSession d s

-- a session in which one thread is live, whose turn it is
pub record IsAlone (s : Session) (n : ℕ) : Type 0 where
  pub one : live_among s.world.threads ≡ 1
  pub turn : turn_of s 0 ≡ Of n

-- ---- breaks by the numbers of a program's code

-- some places are others, and beside them the breaks in a method, by its number
abbrev pub AddsMarks : List CodePlace → List CodePlace → ℕ → MethodName → List Place → Type 0
AddsMarks new old number m breaks = (n at : ℕ) → is_place new n at ≡ (is_place old n at || (nat_eq n number && holds_break breaks (place_in m at)))

-- they are all breaks
abbrev pub AreMarks : LinkedView → List Place → List CodePlace → Type 0
AreMarks l breaks marks = (n at : ℕ) → n < length l.methods → is_place marks n at ≡ holds_break breaks (place_in (name_of_number l n) at)

-- those of a debugger
abbrev pub IsMarked : {H : Type 0} → DebuggerView H → List CodePlace → Type 0
IsMarked d marks = AreMarks d.machine.linked d.breaks marks

-- and of each that has the same code and the same breaks
pub record StaysMarked {H : Type 0} (old new : DebuggerView H) : Type 0 where
  pub linked : new.machine.linked ≡ old.machine.linked
  pub breaks : new.breaks ≡ old.breaks
