-- What the loop over the parameters of a method type keeps.
use Rattle.std.proofs.Common.{◌≡◌, ℕ, zero, suc, ◌+◌, ◌<◌, ◌≤◌, Bool, true, false, cond, eqb, List, [], ◌∷◌, ◌++◌, length, Option, Some, None, refl, sym, ap, subst, ◌∙◌, append_assoc, arith}
use Rattle.std.proofs.lemmas.List.{length-append, append-nil}
use Rattle.std.specs.List.{list_all, flat_map}
use Rattle.jm_program.specs.DescriptorReading.{and_then, field_at, parameters_at}
use Rattle.jm_program.specs.Descriptors.{field_text, is_field_shape}
use Rattle.jm_program.specs.declared.descriptor.FieldType.{FieldType}
use Rattle.jm_program.specs.DescriptorFaults.{Fails}
use Rattle.jm_program.specs.declared.fault.DescriptorFault.{DescriptorFault}
use Rattle.jm_program.specs.declared.fault.DescriptorFault.TheVariants.{BadDescriptor, BadName, OutOfMemory}
use Rattle.jm_program.proofs.DescriptorLaws.{field_front, field_sound, parameters_sound, parameters_complete}

-- each type has a text of at least one unit
pub texts_long : (ps : List FieldType) → length ps ≤ length (flat_map field_text ps)
texts_long [] = omega arith
texts_long (p ∷ ps) =
    let front = field_front p (flat_map field_text ps) in
    let own = field_front p [] in
    let one : length (field_text p ++ []) ≡ length (own.0 ∷ own.1) = ap length own.2 in
    omega (arith, texts_long ps, one, length-append (field_text p) [], length-append (field_text p) (flat_map field_text ps))

parameters_more : (n m : ℕ) (units : List ℕ) (ps : List FieldType) (rest : List ℕ) → length units ≤ m → parameters_at n units ≡ Some (ps, rest) → parameters_at m units ≡ Some (ps, rest)
parameters_more n m units ps rest le h =
    let found = parameters_sound n units ps rest h in
    let long : length units ≡ length (flat_map field_text ps ++ 41 ∷ rest) = ap length found.0 in
    let few : length ps ≤ m = omega (arith, texts_long ps, long, length-append (flat_map field_text ps) (41 ∷ rest)) in
    subst (λ (us : List ℕ). parameters_at m us ≡ Some (ps, rest)) (sym found.0) (parameters_complete m ps rest few found.1)

pub options_agree : {A : Type 0} (o p : Option A) → ((x : A) → o ≡ Some x → p ≡ Some x) → ((x : A) → p ≡ Some x → o ≡ Some x) → o ≡ p
options_agree None None f g = refl
options_agree None (Some x) f g = g x refl
options_agree (Some x) p f g = sym (f x refl)

-- how many at most does not matter, from one for each unit on
pub parameters_most : (n m : ℕ) (units : List ℕ) → length units ≤ n → length units ≤ m → parameters_at n units ≡ parameters_at m units
parameters_most n m units le le' =
    options_agree (parameters_at n units) (parameters_at m units)
    (λ x h. parameters_more n m units x.0 x.1 le' h)
    (λ x h. parameters_more m n units x.0 x.1 le h)

-- a type takes at least one unit
pub field_shorter : (units : List ℕ) (t : FieldType) (rest : List ℕ) → field_at units ≡ Some (t, rest) → length rest < length units
field_shorter units t rest h =
    let found = field_sound units t rest h in
    let own = field_front t [] in
    let one : length (field_text t ++ []) ≡ length (own.0 ∷ own.1) = ap length own.2 in
    let long : length units ≡ length (field_text t ++ rest) = ap length found.0 in
    omega (arith, one, long, length-append (field_text t) [], length-append (field_text t) rest)

-- what was read before, and what is still read
abbrev pub with_front : List FieldType → Option (List FieldType × List ℕ) → Option (List FieldType × List ℕ)
with_front front read = and_then read (λ x. Some (front ++ x.0, x.1))

-- the parameters of what is left
abbrev pub left_at : List ℕ → Option (List FieldType × List ℕ)
left_at units = parameters_at (length units) units

pub begins : (units : List ℕ) → with_front [] (left_at units) ≡ left_at units
begins units =
    (elim (left_at units) as (λ (o : Option (List FieldType × List ℕ)). with_front [] o ≡ o) [ None ↦ refl | Some x ↦ refl ])

regroup : (front : List FieldType) (p : FieldType) (read : Option (List FieldType × List ℕ)) → with_front front (and_then read (λ y. Some (p ∷ y.0, y.1))) ≡ with_front (front ++ p ∷ []) read
regroup front p None = refl
regroup front p (Some y) = ap (λ (ps : List FieldType). Some (ps, y.1)) (simp append_assoc)

pub is_empty : (front : List FieldType) (total : Option (List FieldType × List ℕ)) → with_front front (left_at []) ≡ total → total ≡ None
unfolding parameters_at
is_empty front total h = sym h

pub closes : (front : List FieldType) (u : ℕ) (units : List ℕ) (total : Option (List FieldType × List ℕ)) → eqb u 41 ≡ true → with_front front (left_at (u ∷ units)) ≡ total → total ≡ Some (front, units)
unfolding parameters_at
closes front u units total is h =
    let one : with_front front (left_at (u ∷ units)) ≡ Some (front, units) = rw is (ap (λ (ps : List FieldType). Some (ps, units)) (append-nil front)) in
    sym h ∙ one

pub fails : (front : List FieldType) (u : ℕ) (units : List ℕ) (total : Option (List FieldType × List ℕ)) → eqb u 41 ≡ false → field_at (u ∷ units) ≡ None → with_front front (left_at (u ∷ units)) ≡ total → total ≡ None
unfolding parameters_at
fails front u units total is none h =
    let nothing : Option (List FieldType × List ℕ) = None in
    let one : with_front front (left_at (u ∷ units)) ≡ nothing = rw (is, none) refl in
    sym h ∙ one

pub goes_on : (front : List FieldType) (u : ℕ) (units : List ℕ) (p : FieldType) (after : List ℕ) (total : Option (List FieldType × List ℕ)) → eqb u 41 ≡ false → field_at (u ∷ units) ≡ Some (p, after)
    → with_front front (left_at (u ∷ units)) ≡ total → with_front (front ++ p ∷ []) (left_at after) ≡ total
unfolding parameters_at
goes_on front u units p after total is found h =
    let short = field_shorter (u ∷ units) p after found in
    let same : parameters_at (length units) after ≡ left_at after = parameters_most (length units) (length after) after (omega arith) (omega arith) in
    let one : with_front front (left_at (u ∷ units)) ≡ with_front front (and_then (parameters_at (length units) after) (λ y. Some (p ∷ y.0, y.1))) = rw (is, found) refl in
    sym (regroup front p (left_at after)) ∙ ap (λ (o : Option (List FieldType × List ℕ)). with_front front (and_then o (λ y. Some (p ∷ y.0, y.1)))) (sym same) ∙ sym one ∙ h

-- a fault of one type is that of the parameters
pub faults : (fault : DescriptorFault) (front : List FieldType) (u : ℕ) (units : List ℕ) (total : Option (List FieldType × List ℕ))
    → eqb u 41 ≡ false → Fails fault (field_at (u ∷ units)) → with_front front (left_at (u ∷ units)) ≡ total → Fails fault total
faults BadDescriptor front u units total is none h = fails front u units total is none h
faults BadName front u units total is none h = none
faults OutOfMemory front u units total is none h = tt
