-- Both answers are those of one session.
use Rattle.std.proofs.Common.{◌≡◌, ◌≢◌, ℕ, List, refl, sym, ◌∙◌}
use Rattle.std.specs.Prelude.{Result, Ok, Err, Vec}
use Rattle.std.specs.declared.alloc.Global.{Global}
use Rattle.jm_debug.specs.Answering.{Answers, DebuggerView}
use Rattle.jm_debug.specs.Session.{Session, shown}
use Rattle.jm_debug.specs.declared.fault.DebugFault.{DebugFault}
use Rattle.jm_debug.specs.declared.fault.DebugFault.TheVariants.{BadCommand, NoSuch, OutOfMemory}
use Rattle.jm_execute.specs.ViewsAgain.{told}
use Rattle.jm_execute.proofs.laws.equal_views.Goals as goal

is_told : {H : Type 0} (d : DebuggerView H) (s : Session) (line : List ℕ) (r : Result (Vec ℕ Global) DebugFault) → Answers (λ v. v.items) d s line r → told r ≢ Err OutOfMemory
    → (shown s line).answer ≡ told r
is_told d s line (Ok answer) h has = h.0
is_told d s line (Err BadCommand) h has = h.0
is_told d s line (Err NoSuch) h has = h.0
is_told d s line (Err OutOfMemory) h has = absurd (has refl)

pub returns : goal.returns
returns g c first entries line d e r q one other has has_too =
    sym (is_told d _ line r one has) ∙ is_told e _ line q other has_too
