-- The files of a program, one file more.
use Rattle.std.proofs.Common.{◌≡◌, ℕ, ◌+◌, ◌<◌, List, [], ◌∷◌, ◌++◌, refl, sym, ap, subst, ◌∙◌, append_assoc, drop, length, get_or, Result, Ok, Err}
use Rattle.std.proofs.lemmas.List.{at_drop_more}
use Rattle.jm_bytes.specs.Reading.{and_then}
use Rattle.jm_program.specs.declared.class.ClassParts.{ClassParts}
use Rattle.jm_execute.specs.Verdicts.{Cause, all_read, bytes_of, class_of, classes_of}
use Rattle.jm_execute.specs.Refusals.{Hinders}
use Rattle.jm_job.specs.declared.job.InputFile.{InputFile}
use Rattle.jm_execute.specs.declared.refusal.Obstacle.{Obstacle}
use Rattle.jm_execute.proofs.Chains.{hindered}

at_file : {Y : Type 0} (F : List InputFile → Y) (files : List InputFile) (i : ℕ) (file : InputFile) → i < length files → file ≡ get_or files i file → F (drop i files) ≡ F (file ∷ drop (i + 1) files)
at_file F files i file within at = at_drop_more F files i file within ∙ ap (λ f. F (f ∷ drop (i + 1) files)) (sym at)

-- ---- read

-- behind a file that was read those that are left decide
pub read_more : (files : List InputFile) (i : ℕ) (file : InputFile) (bytes : List ℕ) → i < length files → file ≡ get_or files i file → bytes_of file ≡ Ok bytes → all_read (drop i files) ≡ all_read (drop (i + 1) files)
read_more files i file bytes within at is = at_file all_read files i file within at ∙ ap (λ b. and_then b (λ _. all_read (drop (i + 1) files))) is

-- a file that was not read
pub not_all_read : (files : List InputFile) (i : ℕ) (file : InputFile) (o : Obstacle) → i < length files → file ≡ get_or files i file → Hinders (bytes_of file) o → all_read files ≡ all_read (drop i files) → Hinders (all_read files) o
not_all_read files i file o within at h same =
    subst (λ r. Hinders r o) (sym (same ∙ at_file all_read files i file within at)) (hindered (bytes_of file) (λ _. all_read (drop (i + 1) files)) o h)

-- ---- their classes

-- classes, and behind them those of the files that are left
abbrev pub behind : List ClassParts → Result (List ClassParts) Cause → Result (List ClassParts) Cause
behind front rest = and_then rest (λ classes. Ok (front ++ classes))

behind_one : (front : List ClassParts) (class : ClassParts) (rest : Result (List ClassParts) Cause) → behind front (and_then rest (λ classes. Ok (class ∷ classes))) ≡ behind (front ++ class ∷ []) rest
behind_one front class (Ok classes) = ap Ok (sym (append_assoc front (class ∷ []) classes))
behind_one front class (Err cause) = refl

pub behind_none : (rest : Result (List ClassParts) Cause) → rest ≡ behind [] rest
behind_none (Ok classes) = refl
behind_none (Err cause) = refl

pub class_more : (files : List InputFile) (i : ℕ) (file : InputFile) (front : List ClassParts) (class : ClassParts) → i < length files → file ≡ get_or files i file → class_of file ≡ Ok class
    → behind front (classes_of (drop i files)) ≡ behind (front ++ class ∷ []) (classes_of (drop (i + 1) files))
class_more files i file front class within at is =
    at_file (λ left. behind front (classes_of left)) files i file within at
    ∙ ap (λ c. behind front (and_then c (λ class. and_then (classes_of (drop (i + 1) files)) (λ classes. Ok (class ∷ classes))))) is
    ∙ behind_one front class (classes_of (drop (i + 1) files))

-- a file that holds no class
pub no_class_here : (files : List InputFile) (i : ℕ) (file : InputFile) (front : List ClassParts) (o : Obstacle) → i < length files → file ≡ get_or files i file → Hinders (class_of file) o
    → classes_of files ≡ behind front (classes_of (drop i files)) → Hinders (classes_of files) o
no_class_here files i file front o within at h same =
    let rest = classes_of (drop (i + 1) files) in
    let one : ClassParts → Result (List ClassParts) Cause = λ class. and_then rest (λ classes. Ok (class ∷ classes)) in
    subst (λ r. Hinders r o) (sym (same ∙ at_file (λ left. behind front (classes_of left)) files i file within at))
    (hindered (and_then (class_of file) one) (λ classes. Ok (front ++ classes)) o (hindered (class_of file) one o h))
