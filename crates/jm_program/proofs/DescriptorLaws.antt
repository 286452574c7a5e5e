-- What is read from the front of a text has that text, and the text of a type is read.
use Rattle.std.proofs.Common.{◌≡◌, ℕ, zero, suc, ◌+◌, ◌-◌, ◌<◌, ◌≤◌, Bool, true, false, not, cond, ◌&&◌, eqb, ltb, leb, List, [], ◌∷◌, ◌++◌, length, take, drop, get_or, replicate, Option, Some, None, refl, sym, ap, subst, ◌∙◌, append_assoc, arith, add-one, inl, inr}
use Rattle.std.proofs.lemmas.Bool.{eqb-true, lt-ltb, ltb-true, and_from}
use Rattle.std.proofs.lemmas.List.{length-append}
use Rattle.std.proofs.lemmas.Option.{some_pair_parts, same_Some}
use Rattle.std.proofs.Math.Seq.{take-append_seam, drop-append-add}
use Rattle.std.proofs.lemmas.Grind.{common_steps}
use Rattle.std.proofs.lemmas.Bool.Decides.{nat_tests}
use Rattle.std.proofs.lemmas.List.Sums.{split_at_first, passes_at_first}
use Rattle.std.specs.List.{prefix_len, position_or_len, before_first, after_first, list_all, flat_map}
use Rattle.jm_program.specs.DescriptorReading.{and_then, base_of, is_semicolon, is_bracket, class_at, letter_at, element_at, field_at, parameters_at, whole_field, whole_return, whole_method, whole_descriptor}
use Rattle.jm_program.specs.Descriptors.{base_letter, element_text, field_text, return_text, method_text, descriptor_text, is_name_shape, is_element_shape, is_field_shape}
use Rattle.jm_program.specs.declared.descriptor.BaseType.{BaseType}
use Rattle.jm_program.specs.declared.descriptor.BaseType.TheVariants as base
use Rattle.jm_program.specs.declared.descriptor.ElementType.{ElementType}
use Rattle.jm_program.specs.declared.descriptor.ElementType.TheVariants.{Base, Class}
use Rattle.jm_program.specs.declared.descriptor.FieldType.{FieldType}
use Rattle.jm_program.proofs.Truths.{both_true}

-- one unit before the brackets that were found
brackets_split_on : (u : ℕ) (units : List ℕ) (n : ℕ) (b : Bool) → eqb u 91 ≡ b → units ≡ replicate n 91 ++ drop n units
    → u ∷ units ≡ replicate (cond b (1 + n) 0) 91 ++ drop (cond b (1 + n) 0) (u ∷ units)
brackets_split_on u units n true h split =
    let e : 1 + n ≡ suc n = omega arith in
    let is : u ≡ 91 = eqb-true u 91 h in
    rw (e, is) (ap (λ (rest : List ℕ). 91 ∷ rest) split)
brackets_split_on u units n false h split = refl

-- the brackets at the front, and the rest
pub brackets_split : (units : List ℕ) → units ≡ replicate (prefix_len is_bracket units) 91 ++ drop (prefix_len is_bracket units) units
brackets_split [] = refl
brackets_split (u ∷ units) = brackets_split_on u units (prefix_len is_bracket units) (eqb u 91) refl (brackets_split units)

-- so many brackets at the front, where what follows begins with none
pub brackets-replicate : (n u : ℕ) (rest : List ℕ) → eqb u 91 ≡ false → prefix_len is_bracket (replicate n 91 ++ u ∷ rest) ≡ n
brackets-replicate zero u rest h = grind (arith, common_steps, nat_tests)
brackets-replicate (suc n) u rest h = let e = brackets-replicate n u rest h in omega arith

pub drop-replicate : (n : ℕ) (rest : List ℕ) → drop n (replicate n 91 ++ rest) ≡ rest
drop-replicate zero rest = refl
drop-replicate (suc n) rest = drop-replicate n rest

-- a name without ; ends at the first ;
pub semicolon-name : (name rest : List ℕ) → list_all (λ u. not (eqb u 59)) name ≡ true → position_or_len is_semicolon (name ++ 59 ∷ rest) ≡ length name
semicolon-name [] rest h = refl
semicolon-name (u ∷ name) rest h = grind (arith, common_steps, nat_tests, semicolon-name name rest)

name_before_on : (u : ℕ) (units : List ℕ) (n : ℕ) (b : Bool) → eqb u 59 ≡ b → list_all (λ x. not (eqb x 59)) (take n units) ≡ true
    → list_all (λ x. not (eqb x 59)) (take (cond (not b) (1 + n) 0) (u ∷ units)) ≡ true
name_before_on u units n true h before = refl
name_before_on u units n false h before =
    let e : 1 + n ≡ suc n = omega arith in
    rw (e, h) before

-- what stands before the first ; has none
pub name_before : (units : List ℕ) → list_all (λ u. not (eqb u 59)) (before_first is_semicolon units) ≡ true
name_before [] = refl
name_before (u ∷ units) = name_before_on u units (prefix_len (λ x. not (is_semicolon x)) units) (eqb u 59) refl (name_before units)

base_of_letter : (b : BaseType) → base_of (base_letter b) ≡ Some b
unfolding base_of
base_of_letter base.Byte = refl
base_of_letter base.Char = refl
base_of_letter base.Double = refl
base_of_letter base.Float = refl
base_of_letter base.Int = refl
base_of_letter base.Long = refl
base_of_letter base.Short = refl
base_of_letter base.Boolean = refl

letter_is_no_class : (b : BaseType) → eqb (base_letter b) 76 ≡ false
letter_is_no_class base.Byte = refl
letter_is_no_class base.Char = refl
letter_is_no_class base.Double = refl
letter_is_no_class base.Float = refl
letter_is_no_class base.Int = refl
letter_is_no_class base.Long = refl
letter_is_no_class base.Short = refl
letter_is_no_class base.Boolean = refl

-- what has a value behind a step has one before it
pub and_then_inverse : {A B : Type 0} (o : Option A) (f : A → Option B) (y : B) → and_then o f ≡ Some y → (x : A) × (o ≡ Some x) × (f x ≡ Some y)
and_then_inverse None f y h = cc
and_then_inverse (Some x) f y h = (x, refl, h)

pub cond_inverse : {A : Type 0} (b : Bool) (o : Option A) (y : A) → cond b o None ≡ Some y → (b ≡ true) × (o ≡ Some y)
cond_inverse true o y h = (refl, h)
cond_inverse false o y h = cc

class_complete : (name rest : List ℕ) → is_name_shape name ≡ true → class_at (name ++ 59 ∷ rest) ≡ Some (Class name, rest)
unfolding class_at
class_complete name rest h =
    let at : position_or_len is_semicolon (name ++ 59 ∷ rest) ≡ length name = semicolon-name name rest h in
    let short : length name < length (name ++ 59 ∷ rest) = omega (arith, length-append name (59 ∷ rest)) in
    let test : ltb (length name) (length (name ++ 59 ∷ rest)) ≡ true = lt-ltb _ _ short in
    let front : take (length name) (name ++ 59 ∷ rest) ≡ name = take-append_seam name (59 ∷ rest) in
    let back : drop (length name + 1) (name ++ 59 ∷ rest) ≡ rest = drop-append-add name (59 ∷ rest) 1 in
    rw (at, test, front, back) refl

-- the text of an element is read, whatever follows
pub element_complete : (e : ElementType) (rest : List ℕ) → is_element_shape e ≡ true → element_at (element_text e ++ rest) ≡ Some (e, rest)
unfolding element_at letter_at
element_complete (Base b) rest h = rw (letter_is_no_class b, base_of_letter b) refl
element_complete (Class name) rest h =
    let text : name ++ 59 ∷ [] ++ rest ≡ name ++ 59 ∷ rest = simp append_assoc in
    rw text (class_complete name rest h)

-- neither a bracket nor V begins an element
pub element_front : (e : ElementType) (rest : List ℕ) → (u : ℕ) × (tail : List ℕ) × (element_text e ++ rest ≡ u ∷ tail) × (eqb u 91 ≡ false) × (eqb u 41 ≡ false) × (eqb u 40 ≡ false) × (eqb u 86 ≡ false)
element_front (Base base.Byte) rest = (_, _, refl, refl, refl, refl, refl)
element_front (Base base.Char) rest = (_, _, refl, refl, refl, refl, refl)
element_front (Base base.Double) rest = (_, _, refl, refl, refl, refl, refl)
element_front (Base base.Float) rest = (_, _, refl, refl, refl, refl, refl)
element_front (Base base.Int) rest = (_, _, refl, refl, refl, refl, refl)
element_front (Base base.Long) rest = (_, _, refl, refl, refl, refl, refl)
element_front (Base base.Short) rest = (_, _, refl, refl, refl, refl, refl)
element_front (Base base.Boolean) rest = (_, _, refl, refl, refl, refl, refl)
element_front (Class name) rest = (_, _, refl, refl, refl, refl, refl)

-- the text of a type is read, whatever follows
pub field_complete : (t : FieldType) (rest : List ℕ) → is_field_shape t ≡ true → field_at (field_text t ++ rest) ≡ Some (t, rest)
unfolding field_at
field_complete t rest h =
    let parts = both_true _ _ h in
    let few : leb t.dimensions 255 ≡ true = parts.0 in
    let front = element_front t.element rest in
    let text : field_text t ++ rest ≡ replicate t.dimensions 91 ++ (element_text t.element ++ rest) = append_assoc (replicate t.dimensions 91) (element_text t.element) rest in
    let count : prefix_len is_bracket (replicate t.dimensions 91 ++ (element_text t.element ++ rest)) ≡ t.dimensions = rw front.2 (brackets-replicate t.dimensions front.0 front.1 front.3) in
    let left : drop t.dimensions (replicate t.dimensions 91 ++ (element_text t.element ++ rest)) ≡ element_text t.element ++ rest = drop-replicate t.dimensions (element_text t.element ++ rest) in
    rw (text, count, few, left, element_complete t.element rest parts.1) refl

field_front_on : (n : ℕ) (e : ElementType) (rest : List ℕ) → (u : ℕ) × (tail : List ℕ) × (replicate n 91 ++ element_text e ++ rest ≡ u ∷ tail) × (eqb u 41 ≡ false) × (eqb u 40 ≡ false) × (eqb u 86 ≡ false)
field_front_on zero e rest = let front = element_front e rest in (front.0, front.1, front.2, front.4, front.5, front.6)
field_front_on (suc n) e rest = (91, _, refl, refl, refl, refl)

-- a type's text is not empty, and neither a round bracket nor V begins it
pub field_front : (t : FieldType) (rest : List ℕ) → (u : ℕ) × (tail : List ℕ) × (field_text t ++ rest ≡ u ∷ tail) × (eqb u 41 ≡ false) × (eqb u 40 ≡ false) × (eqb u 86 ≡ false)
field_front t rest = field_front_on t.dimensions t.element rest

class_sound : (units : List ℕ) (e : ElementType) (rest : List ℕ) → class_at units ≡ Some (e, rest) → (76 ∷ units ≡ element_text e ++ rest) × (is_element_shape e ≡ true)
unfolding class_at
class_sound units e rest h =
    let parts = cond_inverse _ _ _ h in
    let within : position_or_len is_semicolon units < length units = ltb-true _ _ parts.0 in
    let name : List ℕ = before_first is_semicolon units in
    let found = some_pair_parts _ _ _ _ parts.1 in
    let split : units ≡ name ++ (get_or units (position_or_len is_semicolon units) 0 ∷ after_first is_semicolon units) = split_at_first is_semicolon units 0 within in
    let at : get_or units (position_or_len is_semicolon units) 0 ≡ 59 = eqb-true _ _ (passes_at_first is_semicolon units 0 within) in
    let whole : units ≡ name ++ 59 ∷ [] ++ rest = split ∙ ap (λ (v : ℕ). name ++ (v ∷ after_first is_semicolon units)) at ∙ ap (λ (r : List ℕ). name ++ (59 ∷ r)) found.1 ∙ sym (append_assoc name (59 ∷ []) rest) in
    subst (λ (x : ElementType). (76 ∷ units ≡ element_text x ++ rest) × (is_element_shape x ≡ true)) found.0 (ap (λ (us : List ℕ). 76 ∷ us) whole, name_before units)

letter_case_on : (t : Bool) (u k : ℕ) (x : BaseType) (other : Option BaseType) (b : BaseType) → eqb u k ≡ t → base_letter x ≡ k → (other ≡ Some b → u ≡ base_letter b) → cond t (Some x) other ≡ Some b → u ≡ base_letter b
letter_case_on true u k x other b is letter else h = eqb-true u k is ∙ sym letter ∙ ap base_letter (same_Some x b h)
letter_case_on false u k x other b is letter else h = else h

-- one more letter
letter_case : (u k : ℕ) (x : BaseType) (other : Option BaseType) (b : BaseType) → base_letter x ≡ k → (other ≡ Some b → u ≡ base_letter b) → cond (eqb u k) (Some x) other ≡ Some b → u ≡ base_letter b
letter_case u k x other b letter else h = letter_case_on (eqb u k) u k x other b refl letter else h

base_of_sound : (u : ℕ) (b : BaseType) → base_of u ≡ Some b → u ≡ base_letter b
unfolding base_of
base_of_sound u b h =
    letter_case u 66 base.Byte _ b refl
    (letter_case u 67 base.Char _ b refl
    (letter_case u 68 base.Double _ b refl
    (letter_case u 70 base.Float _ b refl
    (letter_case u 73 base.Int _ b refl
    (letter_case u 74 base.Long _ b refl
    (letter_case u 83 base.Short _ b refl
    (letter_case u 90 base.Boolean _ b refl (λ e. cc)))))))) h

letter_sound : (u : ℕ) (units : List ℕ) (e : ElementType) (rest : List ℕ) → letter_at u units ≡ Some (e, rest) → (u ∷ units ≡ element_text e ++ rest) × (is_element_shape e ≡ true)
unfolding letter_at
letter_sound u units e rest h =
    let step = and_then_inverse _ _ _ h in
    let found = some_pair_parts _ _ _ _ step.2 in
    let letter : u ≡ base_letter step.0 = base_of_sound u step.0 step.1 in
    subst (λ (x : ElementType). (u ∷ units ≡ element_text x ++ rest) × (is_element_shape x ≡ true)) found.0 (ap (λ (v : ℕ). v ∷ units) letter ∙ ap (λ (r : List ℕ). base_letter step.0 ∷ r) found.1, refl)

element_sound_on : (u : ℕ) (units : List ℕ) (e : ElementType) (rest : List ℕ) (b : Bool) → eqb u 76 ≡ b → cond b (class_at units) (letter_at u units) ≡ Some (e, rest)
    → (u ∷ units ≡ element_text e ++ rest) × (is_element_shape e ≡ true)
element_sound_on u units e rest true is h =
    let found = class_sound units e rest h in
    let same : u ≡ 76 = eqb-true u 76 is in
    (ap (λ (v : ℕ). v ∷ units) same ∙ found.0, found.1)
element_sound_on u units e rest false is h = letter_sound u units e rest h

-- what is read as an element has its text
pub element_sound : (units : List ℕ) (e : ElementType) (rest : List ℕ) → element_at units ≡ Some (e, rest) → (units ≡ element_text e ++ rest) × (is_element_shape e ≡ true)
unfolding element_at
element_sound [] e rest h = cc
element_sound (u ∷ units) e rest h = element_sound_on u units e rest (eqb u 76) refl h

-- what is read as a type has its text
pub field_sound : (units : List ℕ) (t : FieldType) (rest : List ℕ) → field_at units ≡ Some (t, rest) → (units ≡ field_text t ++ rest) × (is_field_shape t ≡ true)
unfolding field_at
field_sound units t rest h =
    let n : ℕ = prefix_len is_bracket units in
    let typed : (ElementType × List ℕ) → Option (FieldType × List ℕ) = λ x. Some (record { dimensions = n; element = x.0 }, x.1) in
    let parts = cond_inverse (leb n 255) (and_then (element_at (drop n units)) typed) (t, rest) h in
    let step = and_then_inverse (element_at (drop n units)) typed (t, rest) parts.1 in
    let found = some_pair_parts _ _ _ _ step.2 in
    let element = element_sound (drop n units) step.0.0 step.0.1 step.1 in
    let split : units ≡ replicate n 91 ++ drop n units = brackets_split units in
    let whole : units ≡ replicate n 91 ++ element_text step.0.0 ++ rest =
    split ∙ ap (λ (us : List ℕ). replicate n 91 ++ us) element.0 ∙ sym (append_assoc (replicate n 91) (element_text step.0.0) step.0.1) ∙ ap (λ (r : List ℕ). replicate n 91 ++ element_text step.0.0 ++ r) found.1 in
    let shape : (leb n 255 && is_element_shape step.0.0) ≡ true = and_from (leb n 255) (is_element_shape step.0.0) parts.0 element.1 in
    subst (λ (x : FieldType). (units ≡ field_text x ++ rest) × (is_field_shape x ≡ true)) found.0 (whole, shape)

-- the parameters' text is read up to the ), whatever follows
pub parameters_complete : (most : ℕ) (ps : List FieldType) (rest : List ℕ) → length ps ≤ most → list_all is_field_shape ps ≡ true
    → parameters_at most (flat_map field_text ps ++ 41 ∷ rest) ≡ Some (ps, rest)
unfolding parameters_at
parameters_complete zero [] rest le h = refl
parameters_complete (suc most) [] rest le h = refl
parameters_complete zero (p ∷ ps) rest le h = absurd (omega arith)
parameters_complete (suc most) (p ∷ ps) rest le h =
    let parts = both_true _ _ h in
    let after : List ℕ = flat_map field_text ps ++ 41 ∷ rest in
    let front = field_front p after in
    let text : flat_map field_text (p ∷ ps) ++ 41 ∷ rest ≡ field_text p ++ after = append_assoc (field_text p) (flat_map field_text ps) (41 ∷ rest) in
    let first : field_at (front.0 ∷ front.1) ≡ Some (p, after) = ap field_at (sym front.2) ∙ field_complete p after parts.0 in
    let others : parameters_at most after ≡ Some (ps, rest) = parameters_complete most ps rest (omega arith) parts.1 in
    rw (text, front.2, front.3, first, others) refl

parameters_sound_on : (most u : ℕ) (units : List ℕ) (ps : List FieldType) (rest : List ℕ) (b : Bool) → eqb u 41 ≡ b
    → ((next : List ℕ) (qs : List FieldType) → parameters_at most next ≡ Some (qs, rest) → (next ≡ flat_map field_text qs ++ 41 ∷ rest) × (list_all is_field_shape qs ≡ true))
    → cond {A = Option (List FieldType × List ℕ)} b (Some ([], units)) (and_then (field_at (u ∷ units)) (λ x. and_then (parameters_at most x.1) (λ y. Some (x.0 ∷ y.0, y.1)))) ≡ Some (ps, rest)
    → (u ∷ units ≡ flat_map field_text ps ++ 41 ∷ rest) × (list_all is_field_shape ps ≡ true)
parameters_sound_on most u units ps rest true is below h =
    let found = some_pair_parts _ _ _ _ h in
    let same : u ≡ 41 = eqb-true u 41 is in
    subst (λ (x : List FieldType). (u ∷ units ≡ flat_map field_text x ++ 41 ∷ rest) × (list_all is_field_shape x ≡ true)) found.0
    (ap (λ (v : ℕ). v ∷ units) same ∙ ap (λ (r : List ℕ). 41 ∷ r) found.1, refl)
parameters_sound_on most u units ps rest false is below h =
    let onto : (FieldType × List ℕ) → Option (List FieldType × List ℕ) = λ x. and_then (parameters_at most x.1) (λ y. Some (x.0 ∷ y.0, y.1)) in
    let step = and_then_inverse (field_at (u ∷ units)) onto (ps, rest) h in
    let first = field_sound (u ∷ units) step.0.0 step.0.1 step.1 in
    let joined : (List FieldType × List ℕ) → Option (List FieldType × List ℕ) = λ y. Some (step.0.0 ∷ y.0, y.1) in
    let next = and_then_inverse (parameters_at most step.0.1) joined (ps, rest) step.2 in
    let found = some_pair_parts _ _ _ _ next.2 in
    let same : parameters_at most step.0.1 ≡ Some (next.0.0, rest) = next.1 ∙ ap (λ (r : List ℕ). Some (next.0.0, r)) found.1 in
    let others = below step.0.1 next.0.0 same in
    let whole : u ∷ units ≡ flat_map field_text (step.0.0 ∷ next.0.0) ++ 41 ∷ rest =
    first.0 ∙ ap (λ (r : List ℕ). field_text step.0.0 ++ r) others.0 ∙ sym (append_assoc (field_text step.0.0) (flat_map field_text next.0.0) (41 ∷ rest)) in
    let shape : list_all is_field_shape (step.0.0 ∷ next.0.0) ≡ true = and_from (is_field_shape step.0.0) (list_all is_field_shape next.0.0) first.1 others.1 in
    subst (λ (x : List FieldType). (u ∷ units ≡ flat_map field_text x ++ 41 ∷ rest) × (list_all is_field_shape x ≡ true)) found.0 (whole, shape)

-- what is read as parameters has their text
pub parameters_sound : (most : ℕ) (units : List ℕ) (ps : List FieldType) (rest : List ℕ) → parameters_at most units ≡ Some (ps, rest)
    → (units ≡ flat_map field_text ps ++ 41 ∷ rest) × (list_all is_field_shape ps ≡ true)
unfolding parameters_at
parameters_sound most [] ps rest h = cc
parameters_sound zero (u ∷ units) ps rest h =
    let parts = cond_inverse (eqb u 41) (Some ([], units)) (ps, rest) h in
    let found = some_pair_parts _ _ _ _ parts.1 in
    let same : u ≡ 41 = eqb-true u 41 parts.0 in
    subst (λ (x : List FieldType). (u ∷ units ≡ flat_map field_text x ++ 41 ∷ rest) × (list_all is_field_shape x ≡ true)) found.0
    (ap (λ (v : ℕ). v ∷ units) same ∙ ap (λ (r : List ℕ). 41 ∷ r) found.1, refl)
parameters_sound (suc most) (u ∷ units) ps rest h =
    parameters_sound_on most u units ps rest (eqb u 41) refl (λ next qs e. parameters_sound most next qs rest e) h
