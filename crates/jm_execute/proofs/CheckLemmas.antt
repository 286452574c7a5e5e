-- Nothing is told of files exactly where they load.
use Rattle.std.proofs.Common.{◌≡◌, ℕ, List, false, [], ◌∷◌, ◌++◌, Result, Ok, Err, refl, sym, ap, subst, ◌∙◌, codes}
use Rattle.jm_bytes.specs.Reading.{and_then}
use Rattle.jm_program.specs.declared.class.ClassParts.{ClassParts}
use Rattle.jm_world.specs.Loads.{Loads}
use Rattle.jm_findings.specs.Lines.{finding_lines}
use Rattle.jm_findings.specs.declared.main_class.MainClass.TheVariants.{First}
use Rattle.jm_findings.proofs.LineLaws.{loads_unless_lines, no_lines}
use Rattle.jm_execute.specs.Checks.{LoadFrom, all_told, cause_says, class_held, classes_held, main_class_of, main_held, refused_line, refused_lines}
use Rattle.jm_execute.specs.Verdicts.{Cause, class_of, classes_of}
use Rattle.jm_job.specs.declared.job.InputFile.{InputFile}

no_front : (xs ys : List ℕ) → xs ++ ys ≡ [] → xs ≡ []
no_front [] ys e = refl
no_front (x ∷ xs) ys e = cc

no_rest : (xs ys : List ℕ) → xs ++ ys ≡ [] → ys ≡ []
no_rest [] ys e = e
no_rest (x ∷ xs) ys e = cc

some_line : (line rest : List ℕ) → line ++ codes "\n" ++ rest ≡ [] → ⊥
some_line [] rest e = cc
some_line (u ∷ us) rest e = cc

-- files of which no line is told all hold a class
all_hold : (files : List InputFile) → refused_lines false files ≡ [] → classes_of files ≡ Ok (classes_held files)
all_hold [] none = refl
all_hold (file ∷ files) none = by (class_of file) (λ e. all_hold files e) none
  where
    by : (seen : Result ClassParts Cause) → (refused_lines false files ≡ [] → classes_of files ≡ Ok (classes_held files)) → refused_line false file seen ++ refused_lines false files ≡ []
        → and_then seen (λ class. and_then (classes_of files) (λ classes. Ok (class ∷ classes))) ≡ Ok (class_held seen ++ classes_held files)
    by (Ok class) others e = ap (λ rest. and_then rest (λ classes. Ok (class ∷ classes))) (others e)
    by (Err cause) others e = absurd (some_line (cause_says cause) (refused_lines false files) e)

main_is_first : (files : List InputFile) → refused_lines false files ≡ [] → main_class_of files ≡ First
main_is_first [] none = refl
main_is_first (file ∷ files) none = by (class_of file) none
  where
    by : (seen : Result ClassParts Cause) → refused_line false file seen ++ refused_lines false files ≡ [] → main_held seen ≡ First
    by (Ok class) e = refl
    by (Err cause) e = absurd (some_line (cause_says cause) (refused_lines false files) e)

-- files that all hold a class
pub record AllHold (files : List InputFile) (classes : List ClassParts) : Type 0 where
  pub none : refused_lines false files ≡ []
  pub held : classes_held files ≡ classes

not_ok : (cause : Cause) (classes : List ClassParts) → Err cause ≡ Ok classes → ⊥
not_ok cause classes e = cc

some_class : (class : ClassParts) (classes : List ClassParts) → classes_of [] ≡ Ok (class ∷ classes) → ⊥
some_class class classes e = cc

ok_more : (class : ClassParts) (more classes : List ClassParts) (e : Result (List ClassParts) Cause) → e ≡ Ok (class ∷ more) → e ≡ Ok classes → class ∷ more ≡ classes
ok_more class more classes e p q = cc

ok_held : (files : List InputFile) (classes : List ClassParts) → classes_of files ≡ Ok classes → AllHold files classes
ok_held [] [] e = record { none = refl; held = refl }
ok_held [] (c ∷ cs) e = absurd (some_class c cs e)
ok_held (file ∷ files) classes e = by (class_of file) (classes_of files) refl refl (λ more are. ok_held files more are) e
  where
    by : (seen : Result ClassParts Cause) (rest : Result (List ClassParts) Cause) → class_of file ≡ seen → classes_of files ≡ rest
        → ((more : List ClassParts) → classes_of files ≡ Ok more → AllHold files more)
        → and_then seen (λ class. and_then rest (λ classes. Ok (class ∷ classes))) ≡ Ok classes → AllHold (file ∷ files) classes
    by (Ok class) (Ok more) is are others h =
        let held = others more are in
        record {
          none = ap (λ r. refused_line false file r ++ refused_lines false files) is ∙ held.none;
          held = ap (λ r. class_held r ++ classes_held files) is ∙ ap (λ t. class ∷ t) held.held ∙ ok_more class more classes (Ok (class ∷ more)) refl h;
        }
    by (Ok class) (Err cause) is are others h = absurd (not_ok cause classes h)
    by (Err cause) rest is are others h = absurd (not_ok cause classes h)

pub none_told : (files : List InputFile) → all_told files ≡ [] → LoadFrom files
none_told files none =
    let lines = finding_lines (main_class_of files) (classes_held files) in
    let nothing : refused_lines false files ≡ [] = no_front (refused_lines false files) lines none in
    let unlinked : finding_lines First (classes_held files) ≡ [] = subst (λ m. finding_lines m (classes_held files) ≡ []) (main_is_first files nothing) (no_rest (refused_lines false files) lines none) in
    (classes_held files, all_hold files nothing, loads_unless_lines (classes_held files) unlinked)

pub told_none : (files : List InputFile) → LoadFrom files → all_told files ≡ []
told_none files loads =
    let hold = ok_held files loads.0 loads.1 in
    ap (λ t. t ++ finding_lines (main_class_of files) (classes_held files)) hold.none
    ∙ ap (λ m. finding_lines m (classes_held files)) (main_is_first files hold.none)
    ∙ no_lines (classes_held files) (subst Loads (sym hold.held) loads.2)
