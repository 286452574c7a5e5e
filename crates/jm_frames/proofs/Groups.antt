-- Groups of operands beside the words that pop them.
use Rattle.std.proofs.Common.{◌≡◌, ℕ, zero, suc, ◌+◌, List, [], ◌∷◌, ◌++◌, Result, Ok, Err, length, drop, refl, sym, ap, subst, ◌∙◌, zero-add, arith}
use Rattle.std.proofs.lemmas.List.{drop-drop}
use Rattle.std.specs.Prelude.{slice_get}
use Rattle.jm_values.specs.Outcome.{Outcome, faults}
use Rattle.jm_values.specs.Steps.{with_single, with_double}
use Rattle.jm_values.specs.declared.value.Value.{Value}
use Rattle.jm_values.specs.declared.value.Value.TheVariants.{Long}
use Rattle.jm_values.specs.declared.fault.TagFault.{TagFault}
use Rattle.jm_frames.specs.Operands.{single_of, double_of, values_of}
use Rattle.jm_frames.specs.declared.operand_stack.Group.{Group}
use Rattle.jm_frames.specs.declared.operand_stack.Group.TheVariants.{One, Two}

-- what a word pops, and what is left of the operands
pub record Taken (with_group : (List Value → List Value → Outcome) → Outcome) (operands : List Value) (group : Group) : Type 0 where
  pub on_top : operands ≡ values_of group ++ drop (length (values_of group)) operands
  pub gives : (go : List Value → List Value → Outcome) → with_group go ≡ go (values_of group) (drop (length (values_of group)) operands)

-- a word for one operand of category 1, kept as a list of it
abbrev pub single_list : List Value → (List Value → List Value → Outcome) → Outcome
single_list s go = with_single s (λ v r. go (v ∷ []) r)

same_group : (h g : Group) → (let r : Result Group TagFault = Ok h in r) ≡ Ok g → h ≡ g
same_group h g e = cc

-- one operand of category 1 is on top
top_single : (s : List Value) (g : Group) → single_of (slice_get s zero) ≡ Ok g → Taken (single_list s) s g
top_single [] g e = absurd (cc)
top_single (Long n ∷ s) g e = absurd (cc)
top_single (v ∷ s) g e =
    subst (Taken (single_list (v ∷ s)) (v ∷ s)) (same_group (One v) g e) (record { on_top = refl; gives = λ go. refl })

-- one operand of category 2 or two of category 1 are on top
top_double : (s : List Value) (g : Group) → double_of (slice_get s zero) (slice_get s (suc zero)) ≡ Ok g → Taken (with_double s) s g
top_double [] g e = absurd (cc)
top_double (Long n ∷ s) g e =
    subst (Taken (with_double (Long n ∷ s)) (Long n ∷ s)) (same_group (One (Long n)) g e) (record { on_top = refl; gives = λ go. refl })
top_double (v ∷ []) g e = absurd (cc)
top_double (v ∷ Long k ∷ s) g e = absurd (cc)
top_double (v ∷ u ∷ s) g e =
    subst (Taken (with_double (v ∷ u ∷ s)) (v ∷ u ∷ s)) (same_group (Two v u) g e) (record { on_top = refl; gives = λ go. refl })

-- they are not, and so the instruction cannot be made
single_refused : (s : List Value) (fault : TagFault) → single_of (slice_get s zero) ≡ Err fault → (go : Value → List Value → Outcome) → with_single s go ≡ faults fault
single_refused [] fault e go = cc
single_refused (Long n ∷ s) fault e go = cc
single_refused (v ∷ s) fault e go = absurd (cc)

double_refused : (s : List Value) (fault : TagFault) → double_of (slice_get s zero) (slice_get s (suc zero)) ≡ Err fault → (go : List Value → List Value → Outcome) → with_double s go ≡ faults fault
double_refused [] fault e go = cc
double_refused (Long n ∷ s) fault e go = absurd (cc)
double_refused (v ∷ []) fault e go = cc
double_refused (v ∷ Long k ∷ s) fault e go = cc
double_refused (v ∷ u ∷ s) fault e go = absurd (cc)

get_drop : (s : List Value) (d k : ℕ) → slice_get s (d + k) ≡ slice_get (drop d s) k
get_drop s zero k = ap (slice_get s) (zero-add k)
get_drop [] (suc d) k = refl
get_drop (v ∷ s) (suc d) k = let e : suc d + k ≡ suc (d + k) = omega arith in ap (slice_get (v ∷ s)) e ∙ get_drop s d k

get_first : (s : List Value) (d : ℕ) → slice_get s d ≡ slice_get (drop d s) zero
get_first s d = let e : d ≡ d + zero = omega arith in ap (slice_get s) e ∙ get_drop s d zero

get_second : (s : List Value) (d : ℕ) → slice_get s (d + 1) ≡ slice_get (drop d s) (suc zero)
get_second s d = get_drop s d 1

pub single_at : (s : List Value) (d n : ℕ) (g : Group) → d ≡ n → single_of (slice_get s d) ≡ Ok g → Taken (single_list (drop n s)) (drop n s) g
single_at s d n g depth e = subst (λ k. Taken (single_list (drop k s)) (drop k s) g) depth (top_single (drop d s) g (ap single_of (sym (get_first s d)) ∙ e))

pub double_at : (s : List Value) (d n : ℕ) (g : Group) → d ≡ n → double_of (slice_get s d) (slice_get s (d + 1)) ≡ Ok g → Taken (with_double (drop n s)) (drop n s) g
double_at s d n g depth e =
    subst (λ k. Taken (with_double (drop k s)) (drop k s) g) depth
    (top_double (drop d s) g (ap (λ v. double_of v (slice_get (drop d s) 1)) (sym (get_first s d)) ∙ ap (double_of (slice_get s d)) (sym (get_second s d)) ∙ e))

pub single_refused_at : (s : List Value) (d n : ℕ) (fault : TagFault) → d ≡ n → single_of (slice_get s d) ≡ Err fault → (go : Value → List Value → Outcome) → with_single (drop n s) go ≡ faults fault
single_refused_at s d n fault depth e go =
    ap (λ k. with_single (drop k s) go) (sym depth) ∙ single_refused (drop d s) fault (ap single_of (sym (get_first s d)) ∙ e) go

pub double_refused_at : (s : List Value) (d n : ℕ) (fault : TagFault) → d ≡ n → double_of (slice_get s d) (slice_get s (d + 1)) ≡ Err fault → (go : List Value → List Value → Outcome) → with_double (drop n s) go ≡ faults fault
double_refused_at s d n fault depth e go =
    ap (λ k. with_double (drop k s) go) (sym depth) ∙ double_refused (drop d s) fault (ap (λ v. double_of v (slice_get (drop d s) 1)) (sym (get_first s d)) ∙ ap (double_of (slice_get s d)) (sym (get_second s d)) ∙ e) go

-- one group and then another
pub both_on_top : (with_first with_second : (List Value → List Value → Outcome) → Outcome) (s : List Value) (x y : Group) → Taken with_first s x → Taken with_second (drop (length (values_of x)) s) y → s ≡ values_of x ++ (values_of y ++ drop (length (values_of x) + length (values_of y)) s)
both_on_top with_first with_second s x y first second =
    first.on_top ∙ ap (λ r. values_of x ++ r) (second.on_top ∙ ap (λ r. values_of y ++ r) (drop-drop (length (values_of y)) (length (values_of x)) s))

pub both_taken : (with_first : (List Value → List Value → Outcome) → Outcome) (word : List Value → (List Value → List Value → Outcome) → Outcome) (s : List Value) (x y : Group) (go : List Value → List Value → List Value → Outcome) → Taken with_first s x → Taken (word (drop (length (values_of x)) s)) (drop (length (values_of x)) s) y → with_first (λ xs r. word r (go xs)) ≡ go (values_of x) (values_of y) (drop (length (values_of x) + length (values_of y)) s)
both_taken with_first word s x y go first second =
    first.gives (λ xs r. word r (go xs)) ∙ second.gives (go (values_of x)) ∙ ap (go (values_of x) (values_of y)) (drop-drop (length (values_of y)) (length (values_of x)) s)
