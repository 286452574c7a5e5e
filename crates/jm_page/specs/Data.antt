-- The lines of the data of a film: a letter says what each is.
use Rattle.std.specs.Prelude.{ℕ, List, [], ◌∷◌, ◌++◌, Bool, true, false, length, nat_eq, if◌then◌else◌}
use Rattle.std.specs.List.{flat_map}
use Rattle.jm_page.specs.Escapes.{escaped, joined}
use Rattle.jm_page.specs.Sections.{Part, Change, has_changed, is_gone}
use Rattle.jm_page.specs.declared.row.Row.{Row}
use Rattle.jm_page.specs.declared.row.Row.TheVariants.{Title, Method, Line, Instruction, Source, End}

abbrev pub letter : Row → ℕ
letter Title = 61
letter Method = 77
letter Line = 64
letter Instruction = 32
letter Source = 83
letter End = 46

-- a line of a letter and a text
unfoldable pub line_of : ℕ → List ℕ → List ℕ
line_of first text = first ∷ [] ++ escaped text ++ 10 ∷ []

abbrev pub row_text : Row → List ℕ → List ℕ
row_text row text = line_of (letter row) text

-- +KEY and the lines, each ended by a tab
unfoldable pub part_text : Part → List ℕ
part_text p = 43 ∷ [] ++ escaped p.key ++ 9 ∷ [] ++ joined p.text ++ 10 ∷ []

-- -KEY
abbrev pub gone_text : List ℕ → List ℕ
gone_text key = line_of 45 key

unfoldable pub change_text : Change → List ℕ
change_text change = flat_map part_text change.set ++ flat_map gone_text change.gone

-- "OUTPUT, if there is any
unfoldable pub output_text : List ℕ → List ℕ
output_text output = if nat_eq (length output) 0 then [] else line_of 34 output

-- EWHO KIND
unfoldable pub head_text : List ℕ → List ℕ → List ℕ
head_text who kind = 69 ∷ [] ++ escaped who ++ 32 ∷ [] ++ escaped kind ++ 10 ∷ []

-- an event: who made it, the kind of its reply, the output that it added, and what changed
abbrev pub event_text : List ℕ → List ℕ → List ℕ → Change → List ℕ
event_text who kind output change = head_text who kind ++ output_text output ++ change_text change

-- VNUMBER and each section: what is shown behind the event of a number
abbrev pub view_text : List ℕ → List Part → List ℕ
view_text number view = line_of 86 number ++ flat_map part_text view

-- what is written of a section of the next view, and of one of the view before
abbrev pub text_if : Bool → List ℕ → List ℕ
text_if true text = text
text_if false text = []

unfoldable pub text_if_changed : List Part → List Part → Part → List ℕ
text_if_changed old new p = text_if (has_changed old new p.key) (part_text p)

unfoldable pub text_if_gone : List Part → Part → List ℕ
text_if_gone new p = text_if (is_gone new p.key) (gone_text p.key)
