-- What is written piece by piece, of a list's elements.
use Rattle.std.proofs.Common.{◌≡◌, ℕ, ◌+◌, ◌≤◌, List, [], ◌∷◌, ◌++◌, length, drop, sym, ap, subst, ◌∙◌, append_assoc, append-nil, Result, Err}
use Rattle.std.specs.List.{flat_map}
use Rattle.std.proofs.lemmas.List.{drop_all}
use Rattle.jm_page.specs.Writing.{Puts}
use Rattle.jm_page.specs.declared.writer.PageFault.{PageFault}
use Rattle.jm_page.specs.declared.writer.PageFault.TheVariants.{OutOfMemory}
use Rattle.jm_page.proofs.Pieces.{put_text, put_short, put_then, put_nothing}

-- the rows that were written, and those of the elements that are left
pub one_more_row : {X : Type 0} (f : X → List ℕ) (xs : List X) (i : ℕ) (x : X) (done total : List ℕ) → drop i xs ≡ x ∷ drop (i + 1) xs
    → total ≡ done ++ flat_map f (drop i xs) → total ≡ (done ++ f x) ++ flat_map f (drop (i + 1) xs)
one_more_row f xs i x done total is so_far =
    so_far ∙ ap (λ ys. done ++ flat_map f ys) is ∙ sym (append_assoc done (f x) (flat_map f (drop (i + 1) xs)))

pub all_rows : {X : Type 0} (f : X → List ℕ) (xs : List X) (i : ℕ) (done total : List ℕ) → length xs ≤ i
    → total ≡ done ++ flat_map f (drop i xs) → done ≡ total
all_rows f xs i done total past so_far =
    sym (so_far ∙ ap (λ ys. done ++ flat_map f ys) (drop_all i xs past) ∙ append-nil done)

-- two texts, one behind the other, of which the second was told otherwise
pub behind_one : (a b c x s y : List ℕ) → b ≡ a ++ x → c ≡ b ++ s → s ≡ y → c ≡ a ++ (x ++ y)
behind_one a b c x s y first second is = second ∙ ap (λ t. b ++ t) is ∙ ap (λ t. t ++ y) first ∙ append_assoc a x y

-- the element that is next, and those behind it
pub one_next : {X : Type 0} (f : X → List ℕ) (xs : List X) (i : ℕ) (x : X) (done total : List ℕ) → drop i xs ≡ x ∷ drop (i + 1) xs
    → total ≡ done ++ flat_map f (drop i xs) → total ≡ done ++ (f x ++ flat_map f (drop (i + 1) xs))
one_next f xs i x done total is so_far = so_far ∙ ap (λ ys. done ++ flat_map f ys) is

-- the text above the data, the title, the classes and the sources
pub front_parts : (above title classes sources : List ℕ) → above ++ (title ++ classes ++ sources) ≡ (above ++ title) ++ (classes ++ sources)
front_parts above title classes sources = ap (λ t. above ++ t) (append_assoc title classes sources) ∙ sym (append_assoc above title (classes ++ sources))

pub front_whole : (above title classes sources : List ℕ) → above ++ (title ++ classes ++ sources) ≡ ((above ++ title) ++ classes) ++ sources
front_whole above title classes sources = front_parts above title classes sources ∙ sym (append_assoc (above ++ title) classes sources)

module _ {W : Type 0} (wrote broke : W → List ℕ → W → Type 0) where
  -- a piece that was empty before
  pub put_of : {A : Type 0} (r : Result A PageFault) (a b : W) (piece old text : List ℕ) → piece ≡ old ++ text → old ≡ [] → Puts wrote broke r a piece b → Puts wrote broke r a text b
  put_of r a b piece old text is none put = put_text wrote broke r a b piece text (is ∙ ap (λ xs. xs ++ text) none) put

  -- the same text
  pub put_same : (a b : W) (text other : List ℕ) → text ≡ other → wrote a text b → wrote a other b
  put_same a b text other is put = subst (λ t. wrote a t b) is put

  -- a fault is one whatever would have been answered
  pub put_as : (A B : Type 0) (fault : PageFault) (a b : W) (text : List ℕ) → Puts {A = A} wrote broke (Err fault) a text b → Puts {A = B} wrote broke (Err fault) a text b
  put_as A B fault a b text put = put_text wrote broke {A = B} (Err fault) a b (text ++ []) text (append-nil text) (put_short wrote broke A B fault a b text [] put)

  -- a piece that was empty before, and was written, or was not
  pub written_of : (a b : W) (piece old text : List ℕ) → piece ≡ old ++ text → old ≡ [] → wrote a piece b → wrote a text b
  written_of a b piece old text is none put = put_same a b piece text (is ∙ ap (λ xs. xs ++ text) none) put

  pub fault_of : (A B : Type 0) (fault : PageFault) (a b : W) (piece old text : List ℕ) → piece ≡ old ++ text → old ≡ [] → Puts {A = A} wrote broke (Err fault) a piece b → Puts {A = B} wrote broke (Err fault) a text b
  fault_of A B fault a b piece old text is none put = put_as A B fault a b text (put_of {A = A} (Err fault) a b piece old text is none put)

  -- a fault at the first piece
  pub put_fault_first : (A B : Type 0) (fault : PageFault) (a b : W) (text rest total : List ℕ) → total ≡ text ++ rest → Puts {A = A} wrote broke (Err fault) a text b → Puts {A = B} wrote broke (Err fault) a total b
  put_fault_first A B fault a b text rest total whole put = put_text wrote broke {A = B} (Err fault) a b (text ++ rest) total (sym whole) (put_short wrote broke A B fault a b text rest put)

  module _ (more : (a b c : W) (front rest : List ℕ) → wrote a front b → wrote b rest c → wrote a (front ++ rest) c) (behind : (a b c : W) (front rest : List ℕ) → wrote a front b → broke b rest c → broke a (front ++ rest) c) where
    -- the last piece
    pub put_last : {A : Type 0} (r : Result A PageFault) (a b c : W) (done text total : List ℕ) → total ≡ done ++ text → wrote a done b → Puts wrote broke r b text c → Puts wrote broke r a total c
    put_last r a b c done text total whole before put = put_text wrote broke r a c (done ++ text) total (sym whole) (put_then wrote broke more behind r a b c done text before put)

    -- memory was refused behind what was written
    pub put_refused : (A : Type 0) (none : (a : W) → wrote a [] a) (a b : W) (done rest total : List ℕ) → total ≡ done ++ rest → wrote a done b
        → Puts {A = A} wrote broke (Err OutOfMemory) a total b
    put_refused A none a b done rest total whole before = put_last {A = A} (Err OutOfMemory) a b b done rest total whole before (put_nothing wrote broke A none b rest)

    -- a fault before the last piece
    pub put_fault : (A B : Type 0) (fault : PageFault) (a b c : W) (done text rest total : List ℕ) → total ≡ done ++ (text ++ rest) → wrote a done b
        → Puts {A = A} wrote broke (Err fault) b text c → Puts {A = B} wrote broke (Err fault) a total c
    put_fault A B fault a b c done text rest total whole before put = put_last {A = B} (Err fault) a b c done (text ++ rest) total whole before (put_short wrote broke A B fault b c text rest put)
