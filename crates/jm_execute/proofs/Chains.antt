-- A chain of steps, one step more.
use Rattle.std.proofs.Common.{◌≡◌, ap, sym, subst, Result, Ok}
use Rattle.jm_bytes.specs.Reading.{and_then}
use Rattle.jm_execute.specs.Verdicts.{Cause}
use Rattle.jm_execute.specs.Refusals.{Gives, Hinders}
use Rattle.jm_execute.specs.declared.refusal.Obstacle.{Obstacle}
use Rattle.jm_execute.specs.declared.refusal.Obstacle.TheVariants.{Refused, OutOfMemory}

-- what hinders the first step hinders the chain
pub hindered : {A B : Type 0} (step : Result A Cause) (next : A → Result B Cause) (o : Obstacle) → Hinders step o → Hinders (and_then step next) o
hindered step next (Refused r) h = ap (λ s. and_then s next) h
hindered step next OutOfMemory h = tt

-- behind a step that has an answer the next one says what the chain gives
pub given_next : {A B C : Type 0} (result : Result C Obstacle) (view : C → B) (step : Result A Cause) (next : A → Result B Cause) (a : A) → step ≡ Ok a → Gives result (next a) view → Gives result (and_then step next) view
given_next result view step next a is h = subst (λ v. Gives result v view) (sym (ap (λ s. and_then s next) is)) h

pub hindered_next : {A B : Type 0} (step : Result A Cause) (next : A → Result B Cause) (a : A) (o : Obstacle) → step ≡ Ok a → Hinders (next a) o → Hinders (and_then step next) o
hindered_next step next a o is h = subst (λ v. Hinders v o) (sym (ap (λ s. and_then s next) is)) h
