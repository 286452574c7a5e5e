-- Of what is refused of a program: what is told, by whether its main class is known.
use Rattle.std.specs.Prelude.{List, Bool, true, false, filter}
use Rattle.jm_program.specs.declared.class.ClassParts.{ClassParts}
use Rattle.jm_linker.specs.Findings.{findings}
use Rattle.jm_linker.specs.declared.finding.Finding.{Finding}
use Rattle.jm_linker.specs.declared.finding.Site.{Site}
use Rattle.jm_linker.specs.declared.finding.Site.TheVariants as site
use Rattle.jm_findings.specs.declared.main_class.MainClass.{MainClass}
use Rattle.jm_findings.specs.declared.main_class.MainClass.TheVariants as main_class

-- of a main class that is unknown nothing is
abbrev pub is_told : MainClass → Site → Bool
is_told main_class.First s = true
is_told main_class.Unknown site.Main = false
is_told main_class.Unknown other = true

-- of findings those that are told
abbrev pub told_of : MainClass → List Finding → List Finding
told_of main found = filter (λ f. is_told main f.site) found

-- all that is told of a program
abbrev pub told : MainClass → List ClassParts → List Finding
told main program = told_of main (findings program)
