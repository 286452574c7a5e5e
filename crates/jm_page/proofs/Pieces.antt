-- A text that is written piece by piece.
use Rattle.std.proofs.Common.{◌≡◌, ℕ, List, [], ◌++◌, refl, sym, ap, subst, ◌∙◌, append_assoc}
use Rattle.std.specs.Prelude.{Result, Ok, Err}
use Rattle.jm_program.specs.Lists.{Begins}
use Rattle.jm_page.specs.Writing.{Puts}
use Rattle.jm_page.specs.declared.writer.PageFault.{PageFault}
use Rattle.jm_page.specs.declared.writer.PageFault.TheVariants.{OutOfMemory, WriteFailed}

begins_none : (text : List ℕ) → Begins [] text
begins_none text = (text, refl)

begins_more : (front rest more : List ℕ) → Begins front rest → Begins front (rest ++ more)
begins_more front rest more (left, is) = (left ++ more, ap (λ t. t ++ more) is ∙ append_assoc front left more)

begins_behind : (done front text : List ℕ) → Begins front text → Begins (done ++ front) (done ++ text)
begins_behind done front text (left, is) = (left, ap (λ t. done ++ t) is ∙ sym (append_assoc done front left))

module _ {W : Type 0} (wrote broke : W → List ℕ → W → Type 0) where
  -- another text that is the same
  pub put_text : {A : Type 0} (r : Result A PageFault) (a b : W) (text other : List ℕ) → text ≡ other → Puts wrote broke r a text b → Puts wrote broke r a other b
  put_text r a b text other is put = subst (λ t. Puts wrote broke r a t b) is put

  -- a fault at a beginning is one of the whole
  pub put_short : (A B : Type 0) (fault : PageFault) (a b : W) (text more : List ℕ) → Puts {A = A} wrote broke (Err fault) a text b → Puts {A = B} wrote broke (Err fault) a (text ++ more) b
  put_short A B OutOfMemory a b text more (front, begins, is) = (front, begins_more front text more begins, is)
  put_short A B WriteFailed a b text more (front, begins, is) = (front, begins_more front text more begins, is)

  -- memory was refused before anything was written
  pub put_nothing : (A : Type 0) (none : (a : W) → wrote a [] a) (a : W) (text : List ℕ) → Puts {A = A} wrote broke (Err OutOfMemory) a text a
  put_nothing A none a text = ([], begins_none text, none a)

  module _ (more : (a b c : W) (front rest : List ℕ) → wrote a front b → wrote b rest c → wrote a (front ++ rest) c) (behind : (a b c : W) (front rest : List ℕ) → wrote a front b → broke b rest c → broke a (front ++ rest) c) where
    -- behind what was written
    pub put_then : {A : Type 0} (r : Result A PageFault) (a b c : W) (done text : List ℕ) → wrote a done b → Puts wrote broke r b text c → Puts wrote broke r a (done ++ text) c
    put_then (Ok v) a b c done text p q = more a b c done text p q
    put_then (Err OutOfMemory) a b c done text p (front, begins, q) = (done ++ front, begins_behind done front text begins, more a b c done front p q)
    put_then (Err WriteFailed) a b c done text p (front, begins, q) = (done ++ front, begins_behind done front text begins, behind a b c done front p q)
