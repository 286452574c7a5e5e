-- What comes of commands.
use Rattle.std.proofs.Common.{◌≡◌, ℕ, true, List, Option, Some, None, Result, Ok, Err, refl, sym, ap, subst, ◌∙◌, arith}
use Rattle.std.specs.Result.{IsErrAnd}
use Rattle.jm_debug.specs.Commands.{Fails, command}
use Rattle.jm_debug.specs.Views.{Lines}
use Rattle.jm_debug.specs.Session.{Session, Shown, Shows, bytes_of, obeyed, shown, views}
use Rattle.jm_debug.specs.Answering.{Answers, Comes, DebuggerView, IsSession, Leaves, LeavesIf, Obeys}
use Rattle.jm_debug.specs.declared.command.Command.{Command}
use Rattle.jm_debug.specs.declared.command.Command.TheVariants.{Break, Clear, Step, Minor, Full, Continue, Where, Locals, Stack, Statics, Object, Heap, Monitors}
use Rattle.jm_debug.specs.declared.fault.DebugFault.{DebugFault}
use Rattle.jm_debug.specs.declared.fault.DebugFault.TheVariants.{BadCommand, NoSuch, OutOfMemory}
use Rattle.jm_debug.proofs.Continues.{stays}

-- ---- views

pub of_view : {H : Type 0} {X : Type 0} (bytes : X → List ℕ) (d : DebuggerView H) (s : Session) (lines : Option Lines) (r : Result X DebugFault) → Shows bytes r lines → IsSession d s
    → Comes bytes d s (views lines s) (λ t. t ≡ s) r
of_view bytes d s None (Ok x) shows at = cc
of_view bytes d s (Some ls) (Ok x) shows at = let same : bytes_of ls ≡ bytes x = cc in (ap Ok same, at)
of_view bytes d s lines (Err BadCommand) shows at = absurd shows
of_view bytes d s None (Err NoSuch) shows at = (refl, at)
of_view bytes d s (Some ls) (Err NoSuch) shows at = cc
of_view bytes d s lines (Err OutOfMemory) shows at = (s, refl, at)

-- ---- refusals

pub no_memory : {H : Type 0} {X : Type 0} (bytes : X → List ℕ) (d : DebuggerView H) (s t : Session) (is : Shown) (left : Session → Type 0) (fault : DebugFault) → fault ≡ OutOfMemory
    → left t → IsSession d t → Comes bytes d s is left (Err fault)
no_memory bytes d s t is left BadCommand none lefts at = cc
no_memory bytes d s t is left NoSuch none lefts at = cc
no_memory bytes d s t is left OutOfMemory none lefts at = (t, lefts, at)

pub want_of_memory : {H : Type 0} {X : Type 0} (bytes : X → List ℕ) (d : DebuggerView H) (s t : Session) (is : Shown) (left : Session → Type 0) (r : Result X DebugFault)
    → IsErrAnd r (λ fault. fault ≡ OutOfMemory) → left t → IsSession d t → Comes bytes d s is left r
want_of_memory bytes d s t is left (Ok x) none lefts at = absurd none
want_of_memory bytes d s t is left (Err fault) none lefts at = no_memory bytes d s t is left fault none lefts at

-- that of a call, which is handed on
pub want_again : {H : Type 0} {X : Type 0} (bytes : X → List ℕ) (d : DebuggerView H) (s t : Session) (is : Shown) (left : Session → Type 0) (r : Result X DebugFault)
    (fault : DebugFault) → IsErrAnd r (λ f. f ≡ fault) → fault ≡ OutOfMemory → left t → IsSession d t → Comes bytes d s is left r
want_again bytes d s t is left (Ok x) fault same none lefts at = absurd same
want_again bytes d s t is left (Err f) fault same none lefts at = no_memory bytes d s t is left f (same ∙ none) lefts at

-- a refusal says the same of answers of any type
pub refused : {H : Type 0} {X Y : Type 0} (bytes : X → List ℕ) (others : Y → List ℕ) (d : DebuggerView H) (s : Session) (is : Shown) (left : Session → Type 0) (fault : DebugFault)
    → Comes bytes d s is left (Err fault) → Comes others d s is left (Err fault)
refused bytes others d s is left BadCommand comes = comes
refused bytes others d s is left NoSuch comes = comes
refused bytes others d s is left OutOfMemory comes = comes

-- a session in which a command may be left, of which no event was made
pub stays_at : (s : Session) (c : Command) → Leaves s c s
stays_at s (Break p) = refl
stays_at s (Clear p) = refl
stays_at s (Step n count) = (0, omega arith, refl)
stays_at s Minor = refl
stays_at s Full = refl
stays_at s Continue = (0, omega arith, sym (stays s true 0))
stays_at s (Where n) = refl
stays_at s (Locals n depth) = refl
stays_at s (Stack n depth) = refl
stays_at s (Statics class) = refl
stays_at s (Object k) = refl
stays_at s Heap = refl
stays_at s Monitors = refl

pub stays_if : (s : Session) (c : Option Command) → LeavesIf s c s
stays_if s None = refl
stays_if s (Some c) = stays_at s c

-- a line that was not read
pub unread : {H : Type 0} {X : Type 0} (bytes : X → List ℕ) (d : DebuggerView H) (s : Session) (line : List ℕ) (fault : DebugFault) → Fails fault (command line) → IsSession d s
    → Answers bytes d s line (Err fault)
unfolding shown
unread bytes d s line BadCommand none at = (rw none refl, at)
unread bytes d s line NoSuch none at = absurd none
unread bytes d s line OutOfMemory none at = (s, stays_if s (command line), at)

-- a line that was
pub read : {H : Type 0} {X : Type 0} (bytes : X → List ℕ) (d : DebuggerView H) (s : Session) (line : List ℕ) (c : Command) (r : Result X DebugFault) → command line ≡ Some c → Obeys bytes d s c r
    → Answers bytes d s line r
unfolding shown
read bytes d s line c r is obeys = rw is obeys

-- the same of the answer that says so
pub unread_in : {H : Type 0} {X : Type 0} (bytes : X → List ℕ) (d : DebuggerView H) (s : Session) (line : List ℕ) (r : Result X DebugFault) (fault : DebugFault)
    → IsErrAnd r (λ f. f ≡ fault) → Fails fault (command line) → IsSession d s → Answers bytes d s line r
unread_in bytes d s line (Ok x) fault same none at = absurd same
unread_in bytes d s line (Err f) fault same none at = unread bytes d s line f (subst (λ x. Fails x (command line)) (sym same) none) at

pub refused_in : {H : Type 0} {X Y : Type 0} (bytes : X → List ℕ) (others : Y → List ℕ) (d : DebuggerView H) (s : Session) (line : List ℕ) (c : Command)
    (r : Result Y DebugFault) (fault : DebugFault) → command line ≡ Some c → IsErrAnd r (λ f. f ≡ fault) → Obeys bytes d s c (Err fault) → Answers others d s line r
refused_in bytes others d s line c (Ok y) fault is same obeys = absurd same
refused_in bytes others d s line c (Err f) fault is same obeys =
    read others d s line c (Err f) is (refused bytes others d s (obeyed s c) (Leaves s c) f (subst (λ x. Obeys bytes d s c (Err x)) (sym same) obeys))
