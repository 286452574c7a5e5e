-- A refusal leaves a session as it was.
use Rattle.std.proofs.Common.{◌≡◌, ℕ, zero, suc, List, Bool, true, false, Option, Some, None, Err, refl, sym, subst}
use Rattle.std.specs.Prelude.{codes, if◌then◌else◌}
use Rattle.jm_world.specs.Run.{after}
use Rattle.jm_world.specs.RoundRobin.{is_stopped}
use Rattle.jm_world.specs.declared.event.Event.TheVariants as event
use Rattle.jm_world.specs.declared.reply.ReplyKind.{ReplyKind}
use Rattle.jm_debug.specs.Commands.{command}
use Rattle.jm_debug.specs.Session.{Session, Shown, blocked_after, break_before, breaks_at, continue_from, is_place, obeyed, obeyed_if, refuses, says, shown, turn_of, turned, views}
use Rattle.jm_debug.specs.Views.{Lines, where_lines, locals_lines, stack_lines, statics_lines, object_lines}
use Rattle.jm_debug.specs.declared.command.Command.{Command}
use Rattle.jm_debug.specs.declared.command.Command.TheVariants.{Break, Clear, Step, Minor, Full, Continue, Where, Locals, Stack, Statics, Object, Heap, Monitors}
use Rattle.jm_debug.specs.declared.fault.DebugFault.{DebugFault}
use Rattle.jm_debug.specs.declared.fault.DebugFault.TheVariants.{NoSuch}
use Rattle.jm_debug.specs.declared.place.Place.{Place}
use Rattle.jm_debug.specs.declared.turn.Turn.{Turn}
use Rattle.jm_debug.specs.declared.turn.Turn.TheVariants as turn
use Rattle.jm_debug.proofs.Continues.{opened}

-- where it refuses, the next session is this one
abbrev Stays : Session → Shown → Type 0
Stays s is = (fault : DebugFault) → is.answer ≡ Err fault → is.next ≡ s

-- it refuses nothing
abbrev IsAnswer : Shown → Type 0
IsAnswer is = (fault : DebugFault) → is.answer ≡ Err fault → ⊥

no_refusal : (s : Session) (is : Shown) → IsAnswer is → Stays s is
no_refusal s is answers fault refused = absurd (answers fault refused)

said : (line : List ℕ) (s : Session) → IsAnswer (says line s)
said line s fault refused = absurd cc

-- ---- continue

abbrev at_end : Session → Turn → Shown
at_end s turn.Ended = says (codes "ended") s
at_end s turn.Blocked = says (codes "blocked") s
at_end s (turn.Of n) = says (codes "limit") s

end_said : (s : Session) (t : Turn) → IsAnswer (at_end s t)
end_said s turn.Ended = said (codes "ended") s
end_said s turn.Blocked = said (codes "blocked") s
end_said s (turn.Of n) = said (codes "limit") s

at_limit : (s : Session) (first : Bool) (blocked : ℕ) → continue_from zero first blocked s ≡ at_end s (turn_of s blocked)
unfolding continue_from
at_limit s first blocked = refl

abbrev on_event : ℕ → ℕ → Session → ℕ → ReplyKind → Bool → Shown
on_event left blocked s n kind stopped = if stopped then says (codes "stopped") (turned n s) else continue_from left false (blocked_after kind blocked) (turned n s)

abbrev on_break : ℕ → ℕ → Session → ℕ → Option Place → Shown
on_break left blocked s n None = let kind : ReplyKind = (after s.world (event.Step n)).reply.kind in on_event left blocked s n kind (is_stopped kind)
on_break left blocked s n (Some p) = breaks_at n p s

abbrev on_turn : ℕ → Bool → ℕ → Session → Turn → Shown
on_turn left first blocked s turn.Ended = says (codes "ended") s
on_turn left first blocked s turn.Blocked = says (codes "blocked") s
on_turn left first blocked s (turn.Of n) = on_break left blocked s n (break_before s first n)

-- a continue that has so many events left refuses nothing
abbrev AlwaysAnswers : ℕ → Type 0
AlwaysAnswers left = (first : Bool) (blocked : ℕ) (s : Session) → IsAnswer (continue_from left first blocked s)

event_said : (left blocked : ℕ) (s : Session) (n : ℕ) (kind : ReplyKind) (stopped : Bool) → AlwaysAnswers left → IsAnswer (on_event left blocked s n kind stopped)
event_said left blocked s n kind true rest = said (codes "stopped") (turned n s)
event_said left blocked s n kind false rest = rest false (blocked_after kind blocked) (turned n s)

break_said : (left blocked : ℕ) (s : Session) (n : ℕ) (met : Option Place) → AlwaysAnswers left → IsAnswer (on_break left blocked s n met)
break_said left blocked s n None rest = event_said left blocked s n _ _ rest
break_said left blocked s n (Some p) rest = λ fault refused. absurd cc

turn_said : (left : ℕ) (first : Bool) (blocked : ℕ) (s : Session) (t : Turn) → AlwaysAnswers left → IsAnswer (on_turn left first blocked s t)
turn_said left first blocked s turn.Ended rest = said (codes "ended") s
turn_said left first blocked s turn.Blocked rest = said (codes "blocked") s
turn_said left first blocked s (turn.Of n) rest = break_said left blocked s n (break_before s first n) rest

always_answers : (left : ℕ) → AlwaysAnswers left
always_answers zero first blocked s = subst IsAnswer (sym (at_limit s first blocked)) (end_said s (turn_of s blocked))
always_answers (suc left) first blocked s = subst IsAnswer (sym (opened s first blocked left)) (turn_said left first blocked s (turn_of s blocked) (always_answers left))

-- ---- commands

place_stays : (s : Session) (is : Bool) (breaks : List Place) → Stays s (if is then says (codes "ok") (record s { breaks = breaks }) else refuses NoSuch s)
place_stays s true breaks fault refused = absurd cc
place_stays s false breaks fault refused = refl

view_stays : (s : Session) (lines : Option Lines) → Stays s (views lines s)
view_stays s None fault refused = refl
view_stays s (Some lines) fault refused = refl

obeyed_stays : (s : Session) (c : Command) → Stays s (obeyed s c)
unfolding obeyed
obeyed_stays s (Break p) = place_stays s (is_place s.world p) _
obeyed_stays s (Clear p) = place_stays s (is_place s.world p) _
obeyed_stays s (Step n count) = λ fault refused. absurd cc
obeyed_stays s Minor = λ fault refused. absurd cc
obeyed_stays s Full = λ fault refused. absurd cc
obeyed_stays s Continue = no_refusal s (continue_from 1000000 true 0 s) (always_answers 1000000 true 0 s)
obeyed_stays s (Where n) = view_stays s (where_lines s.world n)
obeyed_stays s (Locals n depth) = view_stays s (locals_lines s.world n depth)
obeyed_stays s (Stack n depth) = view_stays s (stack_lines s.world n depth)
obeyed_stays s (Statics class) = view_stays s (statics_lines s.world class)
obeyed_stays s (Object k) = view_stays s (object_lines s.world k)
obeyed_stays s Heap = λ fault refused. refl
obeyed_stays s Monitors = λ fault refused. refl

line_stays : (s : Session) (c : Option Command) → Stays s (obeyed_if s c)
line_stays s None = λ fault refused. refl
line_stays s (Some c) = obeyed_stays s c

pub refused_stays : (s : Session) (line : List ℕ) (fault : DebugFault) → (shown s line).answer ≡ Err fault → (shown s line).next ≡ s
unfolding shown
refused_stays s line fault refused = line_stays s (command line) fault refused
