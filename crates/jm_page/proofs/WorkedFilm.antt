-- A small film, by computation: its first view, two events, and what a reader sees behind them.
use Rattle.std.proofs.Common.{◌≡◌, ℕ, List, [], ◌∷◌, ◌++◌, Some, None, refl}
use Rattle.std.specs.Prelude.{codes}
use Rattle.jm_page.specs.Escapes.{escaped_byte, joined_byte}
use Rattle.jm_page.specs.Sections.{Part, shown_at, delta, apply}
use Rattle.jm_page.specs.Data.{line_of, row_text, part_text, change_text, output_text, head_text, view_text}
use Rattle.jm_page.specs.Filming.{FilmView, Moment, all_told, replayed}
use Rattle.jm_page.specs.declared.row.Row.TheVariants.{Title, Instruction, End}

abbrev section : List ℕ → List ℕ → Part
section key text = record { key = key; text = text }

-- main is at its first instruction, and has an object in a variable
abbrev at_first : List Part
at_first = section (codes "w 1 0") (codes "Main.main()V:0\n") ∷ section (codes "l 1 0") (codes "0 = #1\n") ∷ section (codes "#1") (codes "Cell 2 cells\n") ∷ []

-- then at the next one; the variable is no more, and another object is there
abbrev at_second : List Part
at_second = section (codes "w 1 0") (codes "Main.main()V:1\n") ∷ section (codes "#1") (codes "Cell 2 cells\n") ∷ section (codes "#2") (codes "Cell 3 cells\nCell.v I = int 3\n") ∷ []

-- a thread waits for a class whose initialization another one makes; a section may have no lines
abbrev at_third : List Part
at_third = section (codes "b 2") [] ∷ at_second

abbrev began : FilmView
began = record { view = at_first; printed = 2 }

abbrev moments : List Moment
moments =
    record { who = codes "1"; kind = codes "done"; output = codes "x\na<b\\\n"; view = at_second }
    ∷ record { who = codes "2"; kind = codes "blocked"; output = codes "x\na<b\\\n"; view = at_third } ∷ []

title : row_text Title (codes "Main") ≡ codes "=Main\n"
unfolding line_of escaped_byte
title = refl

instruction : row_text Instruction (codes "ldc \"</script>\"") ≡ codes " ldc \"\\u003C/script>\"\n"
unfolding line_of escaped_byte
instruction = refl

ending : row_text End (codes "cut") ≡ codes ".cut\n"
unfolding line_of escaped_byte
ending = refl

first_view : view_text (codes "7") at_first ≡ codes "V7\n+w 1 0\tMain.main()V:0\t\n+l 1 0\t0 = #1\t\n+#1\tCell 2 cells\t\n"
unfolding line_of escaped_byte joined_byte part_text
first_view = refl

-- what did not change is not told again; of the output only what the event added
two_events : all_told began moments
    ≡ codes "E1 done\n\"a\\u003Cb\\u005C\\u000A\n+w 1 0\tMain.main()V:1\t\n+#2\tCell 3 cells\tCell.v I = int 3\t\n-l 1 0\n"
    ++ codes "E2 blocked\n+b 2\t\n"
unfolding line_of escaped_byte joined_byte part_text change_text output_text head_text delta
two_events = refl

-- a section that is gone
event_back : delta at_third at_second ≡ record { set = []; gone = codes "b 2" ∷ [] }
unfolding delta
event_back = refl

nothing_changed : delta at_second at_second ≡ record { set = []; gone = [] }
unfolding delta
nothing_changed = refl

-- the reader's view has the sections in another order, and shows the same
reader_sees : replayed at_first began moments
    ≡ section (codes "b 2") [] ∷ section (codes "w 1 0") (codes "Main.main()V:1\n") ∷ section (codes "#2") (codes "Cell 3 cells\nCell.v I = int 3\n")
    ∷ section (codes "w 1 0") (codes "Main.main()V:0\n") ∷ section (codes "#1") (codes "Cell 2 cells\n") ∷ []
unfolding delta apply
reader_sees = refl

place_seen : shown_at (replayed at_first began moments) (codes "w 1 0") ≡ Some (codes "Main.main()V:1\n")
unfolding delta apply
place_seen = refl

variable_gone : shown_at (replayed at_first began moments) (codes "l 1 0") ≡ None
unfolding delta apply
variable_gone = refl
