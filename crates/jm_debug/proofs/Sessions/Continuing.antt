-- Breaks, turns and the lines of the source.
use Rattle.std.specs.Prelude.{List, [], ◌∷◌, Some, refl, codes}
use Rattle.jm_program.specs.declared.class.ClassParts.{ClassParts}
use Rattle.jm_program.specs.declared.code.Code.{Code}
use Rattle.jm_program.specs.declared.instruction.symbolic.Instr.{Instr}
use Rattle.jm_program.specs.declared.instruction.plain.Simple.TheVariants as simple
use Rattle.jm_world.specs.Written.{main, main_method, class, class_below, method, one_byte, start, return, goto, nothing_to_nothing, new, code_with}
use Rattle.jm_debug.proofs.Sessions.Computed.{answers_within, Goes}

abbrev nop : Instr
nop = one_byte simple.Nop

abbrev two_threads : List ClassParts
two_threads = main (new (codes "W") ∷ start ∷ nop ∷ nop ∷ nop ∷ return ∷ [])
    ∷ class_below (codes "java/lang/Thread") [] (codes "W") [] (method 0x0001 (codes "run") nothing_to_nothing (nop ∷ nop ∷ nop ∷ return ∷ []) ∷ []) ∷ []

-- the thread that a break has stopped makes the next event
the_turn_is_kept : Goes two_threads (
    (codes "break W.run()V:1", codes "ok\n")
    ∷ (codes "continue", codes "break t2 W.run()V:1\n")
    ∷ (codes "where 1", codes "0 Main.main([Ljava/lang/String;)V:4\n")
    ∷ (codes "break Main.main([Ljava/lang/String;)V:4", codes "ok\n")
    ∷ (codes "break Main.main([Ljava/lang/String;)V:4", codes "ok\n")
    ∷ (codes "continue", codes "break t1 Main.main([Ljava/lang/String;)V:4\n")
    ∷ (codes "where 2", codes "0 W.run()V:2\n")
    ∷ (codes "continue", codes "ended\n")
    ∷ (codes "continue", codes "ended\n")
    ∷ (codes "where 2", codes "ended\n")
    ∷ [])
unfolding answers_within
the_turn_is_kept = refl

-- a break counts each time that a thread comes to it, also where it stands alone on the way
abbrev round_and_round : List ClassParts
round_and_round = main (nop ∷ goto 0 ∷ []) ∷ []

a_break_counts_each_time : Goes round_and_round (
    (codes "break Main.main([Ljava/lang/String;)V:1", codes "ok\n")
    ∷ (codes "continue", codes "break t1 Main.main([Ljava/lang/String;)V:1\n")
    ∷ (codes "continue", codes "break t1 Main.main([Ljava/lang/String;)V:1\n")
    ∷ (codes "break Main.main([Ljava/lang/String;)V:0", codes "ok\n")
    ∷ (codes "continue", codes "break t1 Main.main([Ljava/lang/String;)V:0\n")
    ∷ (codes "clear Main.main([Ljava/lang/String;)V:0", codes "ok\n")
    ∷ (codes "continue", codes "break t1 Main.main([Ljava/lang/String;)V:1\n")
    ∷ (codes "step 1", codes "done\n")
    ∷ (codes "where 1", codes "0 Main.main([Ljava/lang/String;)V:0\n")
    ∷ (codes "continue", codes "break t1 Main.main([Ljava/lang/String;)V:1\n")
    ∷ [])
unfolding answers_within
a_break_counts_each_time = refl

-- places that are none, and breaks that are not there
no_place : Goes two_threads (
    (codes "break W.run()V:3", codes "ok\n")
    ∷ (codes "break W.run()V:4", codes "? 81 NoSuch\n")
    ∷ (codes "break W.run()I:0", codes "? 81 NoSuch\n")
    ∷ (codes "break V.run()V:0", codes "? 81 NoSuch\n")
    ∷ (codes "break java/lang/Thread.run()V:0", codes "? 81 NoSuch\n")
    ∷ (codes "break W.start()V:0", codes "? 81 NoSuch\n")
    ∷ (codes "clear W.run()V:4", codes "? 81 NoSuch\n")
    ∷ (codes "clear W.run()V:0", codes "ok\n")
    ∷ [])
unfolding answers_within
no_place = refl

-- the entry that begins last counts, wherever it stands; of two, the second; none begins at 0
abbrev with_lines : Code
with_lines = record (code_with [] (nop ∷ nop ∷ nop ∷ nop ∷ return ∷ [])) {
  lines = record { start = 2; line = 12 } ∷ record { start = 2; line = 13 } ∷ record { start = 1; line = 10 } ∷ [];
}

abbrev lines_of_the_source : List ClassParts
lines_of_the_source = class (codes "Main") [] (record (main_method [] []) { code = Some with_lines } ∷ []) ∷ []

a_line_is_told : Goes lines_of_the_source (
    (codes "where 1", codes "0 init Main begin\n1 Main.main([Ljava/lang/String;)V:0\n")
    ∷ (codes "step 1 3", codes "done\n")
    ∷ (codes "where 1", codes "0 Main.main([Ljava/lang/String;)V:0\n")
    ∷ (codes "step 1", codes "done\n")
    ∷ (codes "where 1", codes "0 Main.main([Ljava/lang/String;)V:1 line 10\n")
    ∷ (codes "step 1 2", codes "done\n")
    ∷ (codes "where 1", codes "0 Main.main([Ljava/lang/String;)V:3 line 13\n")
    ∷ [])
unfolding answers_within
a_line_is_told = refl
