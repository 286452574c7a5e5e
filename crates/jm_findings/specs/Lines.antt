-- The line of a finding, and the lines of all findings of a program.
use Rattle.std.specs.Prelude.{ℕ, List, [], ◌∷◌, ◌++◌, Option, Some, None, codes, map, slice_get, if◌then◌else◌}
use Rattle.jm_program.specs.Names.{same_text}
use Rattle.jm_program.specs.declared.class.ClassParts.{ClassParts}
use Rattle.jm_program.specs.declared.class.Method.{Method}
use Rattle.jm_program.specs.declared.code.Handler.{Handler}
use Rattle.jm_program.specs.declared.instruction.symbolic.Instr.{Instr}
use Rattle.jm_linker.specs.FaultTexts.{fault_text}
use Rattle.jm_linker.specs.declared.fault.LinkFault.{LinkFault}
use Rattle.jm_linker.specs.declared.finding.Finding.{Finding}
use Rattle.jm_linker.specs.declared.finding.Site.{Site}
use Rattle.jm_linker.specs.declared.finding.Site.TheVariants as site
use Rattle.jm_findings.specs.Places.{class_text, needed_text, numbered_text, source_place_text}
use Rattle.jm_findings.specs.Others.{instead_text, main_text}
use Rattle.jm_findings.specs.Told.{told}
use Rattle.jm_findings.specs.declared.main_class.MainClass.{MainClass}

-- an instruction: what it refers to, where it stands, and what there is instead
unfoldable pub use_text : List ClassParts → LinkFault → ClassParts → Method → ℕ → Option Instr → List ℕ
use_text program f c m at None = []
use_text program f c m at (Some x) = needed_text f x ++ source_place_text c m at ++ instead_text program f x

-- a row of an exception table, by the instruction at which it catches
unfoldable pub catch_text : ClassParts → Method → Option Handler → List ℕ
catch_text c m None = []
catch_text c m (Some h) = source_place_text c m h.target ++ codes ", as a catch type"

abbrev pub instruction_in : Method → ℕ → Option Instr
instruction_in m i = elim m.code [ None ↦ None | Some code ↦ slice_get code.instructions i ]

abbrev pub handler_in : Method → ℕ → Option Handler
handler_in m h = elim m.code [ None ↦ None | Some code ↦ slice_get code.handlers h ]

unfoldable pub use_in_method : List ClassParts → LinkFault → ClassParts → Option Method → ℕ → List ℕ
use_in_method program f c None i = []
use_in_method program f c (Some m) i = use_text program f c m i (instruction_in m i)

unfoldable pub use_in_class : List ClassParts → LinkFault → Option ClassParts → ℕ → ℕ → List ℕ
use_in_class program f None m i = []
use_in_class program f (Some c) m i = use_in_method program f c (slice_get c.methods m) i

unfoldable pub catch_in_method : ClassParts → Option Method → ℕ → List ℕ
catch_in_method c None h = []
catch_in_method c (Some m) h = catch_text c m (handler_in m h)

unfoldable pub catch_in_class : Option ClassParts → ℕ → ℕ → List ℕ
catch_in_class None m h = []
catch_in_class (Some c) m h = catch_in_method c (slice_get c.methods m) h

unfoldable pub site_text : List ClassParts → LinkFault → Site → List ℕ
site_text program f (site.Class n) = numbered_text (slice_get program n) n
site_text program f (site.Superclass n) = class_text (slice_get program n) ++ codes ", as its superclass"
site_text program f (site.Interface n i) = class_text (slice_get program n) ++ codes ", as its superinterface"
site_text program f site.Main = main_text program
site_text program f (site.Instruction n m i) = use_in_class program f (slice_get program n) m i
site_text program f (site.Handler n m h) = catch_in_class (slice_get program n) m h

-- NUMBER NAME: WHERE
unfoldable pub finding_line : List ClassParts → Finding → List ℕ
finding_line program f = fault_text f.fault ++ codes ": " ++ site_text program f.fault f.site

-- lines, each once where it comes several times in a row
abbrev pub lines_after : List ℕ → List (List ℕ) → List ℕ
lines_after before [] = []
lines_after before (l ∷ ls) = if same_text l before then lines_after before ls else l ++ codes "\n" ++ lines_after l ls

-- all that is told of a program, a line for each
unfoldable pub finding_lines : MainClass → List ClassParts → List ℕ
finding_lines main program = lines_after [] (map (finding_line program) (told main program))
