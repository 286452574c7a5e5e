-- What holds of all that lines say holds of what is read from them.
use Rattle.std.proofs.Common.{◌≡◌, ℕ, zero, suc, Bool, true, false, List, [], ◌∷◌, ◌++◌, Option, Some, None, Result, Ok, Err, refl, subst}
use Rattle.std.specs.Prelude.{if◌then◌else◌}
use Rattle.std.specs.List.{list_all}
use Rattle.std.proofs.lemmas.Bool.{and_from}
use Rattle.jm_program.proofs.Truths.{both_true}
use Rattle.jm_bytes.specs.Reading.{and_then}
use Rattle.jm_bytes.specs.Laws.{and_then_ok, same_Ok}
use Rattle.jm_jasmin_lex.specs.Token.{TokenParts}
use Rattle.jm_jasmin_lex.specs.Lines.{first_line}
use Rattle.jm_jasmin_ops.specs.declared.fault.AsmFault.{AsmFault}
use Rattle.jm_jasmin.specs.Lines.{Reading, begins, misplaced, by_line, required, optional, taken_on, one_more}

-- ---- tests

pub either_way : {A : Type 0} (Q : Type 0) (b : Bool) (r s : Result A AsmFault) (p : A) → (if b then r else s) ≡ Ok p → (r ≡ Ok p → Q) → (s ≡ Ok p → Q) → Q
either_way Q true r s p h first second = first h
either_way Q false r s p h first second = second h

-- ---- lines

pub by_line_is : {A : Type 0} (f : List TokenParts → Result A AsmFault) (ts : List TokenParts) (p : A × List TokenParts) → by_line f ts ≡ Ok p → f (first_line ts).0 ≡ Ok p.0
unfolding by_line
by_line_is {A} f ts p h =
    let make : A → Result (A × List TokenParts) AsmFault = λ x. Ok (x, (first_line ts).1) in
    let a = and_then_ok (f (first_line ts).0) make p h in
    subst (λ (q : A × List TokenParts). f (first_line ts).0 ≡ Ok q.0) (same_Ok {F = AsmFault} (a.0, (first_line ts).1) p a.2) a.1

refused : {A : Type 0} (Q : Type 0) (e : AsmFault) (p : A) → Err e ≡ Ok p → Q
refused Q e p h = absurd cc

pub required_is : {A : Type 0} (directive : List ℕ) (f : List TokenParts → Result A AsmFault) (ts : List TokenParts) (p : A × List TokenParts) → required directive f ts ≡ Ok p → f (first_line ts).0 ≡ Ok p.0
unfolding required
required_is directive f ts p h =
    let Q : Type 0 = f (first_line ts).0 ≡ Ok p.0 in
    either_way Q (begins directive ts) (by_line f ts) (Err (misplaced ts)) p h (by_line_is f ts p) (refused Q (misplaced ts) p)

some_line : {A : Type 0} (f : List TokenParts → Result A AsmFault) (ts : List TokenParts) (p : Option A × List TokenParts) → by_line (λ line. and_then (f line) (λ x. Ok (Some x))) ts ≡ Ok p → (x : A) × (f (first_line ts).0 ≡ Ok x) × (Some x ≡ p.0)
some_line {A} f ts p h =
    let some : A → Result (Option A) AsmFault = λ x. Ok (Some x) in
    let a = and_then_ok (f (first_line ts).0) some p.0 (by_line_is (λ line. and_then (f line) some) ts p h) in
    (a.0, a.1, same_Ok {F = AsmFault} (Some a.0) p.0 a.2)

pub optional_holds : {A : Type 0} (Q : Option A → Type 0) (directive : List ℕ) (f : List TokenParts → Result A AsmFault) (ts : List TokenParts) (p : Option A × List TokenParts)
    → Q None → ((x : A) → f (first_line ts).0 ≡ Ok x → Q (Some x)) → optional directive f ts ≡ Ok p → Q p.0
unfolding optional
optional_holds {A} Q directive f ts p none some h =
    let there : Result (Option A × List TokenParts) AsmFault = by_line (λ line. and_then (f line) (λ x. Ok (Some x))) ts in
    let absent : Option A × List TokenParts = (None, ts) in
    either_way (Q p.0) (begins directive ts) there (Ok absent) p h
    (λ k. let x = some_line f ts p k in subst Q x.2 (some x.0 x.1))
    (λ k. subst (λ (q : Option A × List TokenParts). Q q.0) (same_Ok {F = AsmFault} absent p k) none)

-- ---- lines that are taken on

pub taken_keeps : {S : Type 0} (P : S → Type 0) (goes_on : List TokenParts → Bool) (f : S → Reading S) → ((s : S) (ts : List TokenParts) (p : S × List TokenParts) → P s → f s ts ≡ Ok p → P p.0)
    → (n : ℕ) (s : S) (ts : List TokenParts) (p : S × List TokenParts) → P s → taken_on goes_on f n s ts ≡ Ok p → P p.0
unfolding taken_on
taken_keeps {S} P goes_on f step zero s ts p h e = subst (λ (q : S × List TokenParts). P q.0) (same_Ok {F = AsmFault} (s, ts) p e) h
taken_keeps {S} P goes_on f step (suc n) s ts p h e =
    let here : S × List TokenParts = (s, ts) in
    either_way (P p.0) (goes_on ts) (and_then (f s ts) (λ x. taken_on goes_on f n x.0 x.1)) (Ok here) p e
    (λ k. let a = and_then_ok (f s ts) (λ x. taken_on goes_on f n x.0 x.1) p k in taken_keeps P goes_on f step n a.0.0 a.0.1 p (step s ts a.0 h a.1) a.2)
    (λ k. subst (λ (q : S × List TokenParts). P q.0) (same_Ok {F = AsmFault} here p k) h)

pub all_more : {A : Type 0} (ok : A → Bool) (xs : List A) (x : A) → list_all ok xs ≡ true → ok x ≡ true → list_all ok (xs ++ x ∷ []) ≡ true
all_more ok [] x h k = and_from (ok x) true k refl
all_more ok (y ∷ xs) x h k =
    let p = both_true (ok y) (list_all ok xs) h in
    and_from (ok y) (list_all ok (xs ++ x ∷ [])) p.0 (all_more ok xs x p.1 k)

more_keeps : {A : Type 0} (ok : A → Bool) (read : Reading A) → ((ts : List TokenParts) (p : A × List TokenParts) → read ts ≡ Ok p → ok p.0 ≡ true)
    → (xs : List A) (ts : List TokenParts) (p : List A × List TokenParts) → list_all ok xs ≡ true → one_more read xs ts ≡ Ok p → list_all ok p.0 ≡ true
unfolding one_more
more_keeps {A} ok read one xs ts p all h =
    let make : A × List TokenParts → Result (List A × List TokenParts) AsmFault = λ x. Ok (xs ++ x.0 ∷ [], x.1) in
    let a = and_then_ok (read ts) make p h in
    subst (λ (q : List A × List TokenParts). list_all ok q.0 ≡ true) (same_Ok {F = AsmFault} (xs ++ a.0.0 ∷ [], a.0.1) p a.2) (all_more ok xs a.0.0 all (one ts a.0 a.1))

pub list_keeps : {A : Type 0} (ok : A → Bool) (goes_on : List TokenParts → Bool) (read : Reading A) → ((ts : List TokenParts) (p : A × List TokenParts) → read ts ≡ Ok p → ok p.0 ≡ true)
    → (n : ℕ) (ts : List TokenParts) (p : List A × List TokenParts) → taken_on goes_on (one_more read) n [] ts ≡ Ok p → list_all ok p.0 ≡ true
list_keeps {A} ok goes_on read one n ts p h = taken_keeps (λ (xs : List A). list_all ok xs ≡ true) goes_on (one_more read) (more_keeps ok read one) n [] ts p refl h
