-- The initializers of classes, by number.
use Rattle.std.proofs.Common.{◌≡◌, ℕ, ◌+◌, ◌<◌, ◌≤◌, zero, suc, Bool, true, false, ◌&&◌, List, [], ◌∷◌, ◌++◌, Option, Some, None, length, get_or, drop, length-append}
use Rattle.std.proofs.Common.{take, refl, sym, ap, subst, ◌∙◌, codes, arith}
use Rattle.std.specs.Prelude.{◌==◌, slice_get, is_none}
use Rattle.std.proofs.lemmas.List.{drop_more, length-take-le, take_more}
use Rattle.std.proofs.lemmas.Option.{slice_get_read}
use Rattle.jm_program.specs.Fits.{is_class_initializer, is_void}
use Rattle.jm_program.specs.Names.{is_clinit}
use Rattle.jm_program.specs.declared.class.ClassParts.{ClassParts}
use Rattle.jm_program.specs.declared.class.Method.{Method}
use Rattle.jm_program.specs.declared.descriptor.FieldType.{FieldType}
use Rattle.jm_program.specs.declared.descriptor.MethodDescriptor.{MethodDescriptor}
use Rattle.jm_world.specs.Types.{same_method_type, same_result}
use Rattle.jm_world.specs.Classes.{method_in}
use Rattle.jm_world.specs.Initialization.{initializer_type}
use Rattle.jm_linked.specs.Tables.{AreInitializers, IsInitializer}
use Rattle.jm_linker.proofs.TypeLaws.{same_types_none}

-- an initializer returns nothing
no_result : (t : Option FieldType) → same_result t None ≡ is_none t
no_result None = refl
no_result (Some t) = refl

-- the two words for <clinit>()V are one
void_type : (d : MethodDescriptor) → same_method_type d initializer_type ≡ is_void d
void_type d =
    ap (λ b. b && same_result d.return_type None) (same_types_none d.parameters)
    ∙ ap (λ b. (length d.parameters == 0) && b) (no_result d.return_type)

-- the name and the type of <clinit>()V
abbrev called_clinit : Method → Bool
called_clinit m = is_clinit m.name && same_method_type m.descriptor initializer_type

named_clinit : (m : Method) → called_clinit m ≡ is_class_initializer m
named_clinit m = ap (λ b. is_clinit m.name && b) (void_type m.descriptor)

-- the first method that is it
abbrev found_clinit : List Method → Option Method
found_clinit ms = method_in ms (codes "<clinit>") initializer_type

-- the method, or what is found after it
abbrev or_rest : Bool → Method → Option Method → Option Method
or_rest b m rest = elim b as (λ _. Option Method) [ true ↦ Some m | false ↦ rest ]

-- the method at a place, and those after it
from_here : (ms : List Method) (i : ℕ) (m : Method) → i < length ms → m ≡ get_or ms i m → found_clinit ms ≡ found_clinit (drop i ms)
    → found_clinit ms ≡ or_rest (is_class_initializer m) m (found_clinit (drop (i + 1) ms))
from_here ms i m l is e =
    let here : drop i ms ≡ m ∷ drop (i + 1) ms = rw (drop_more ms i m l, ← is) refl in
    e ∙ ap found_clinit here ∙ ap (λ b. or_rest b m (found_clinit (drop (i + 1) ms))) (named_clinit m)

-- the method at a place is <clinit>()V, after others that are not
pub clinit_here : (ms : List Method) (i : ℕ) (m : Method) → i < length ms → m ≡ get_or ms i m → is_class_initializer m ≡ true
    → found_clinit ms ≡ found_clinit (drop i ms) → found_clinit ms ≡ slice_get ms i
clinit_here ms i m l is this e =
    from_here ms i m l is e ∙ ap (λ b. or_rest b m (found_clinit (drop (i + 1) ms))) this ∙ sym (slice_get_read ms (length ms) i m refl l is)

-- it is not, and those after it decide
pub clinit_past : (ms : List Method) (i : ℕ) (m : Method) → i < length ms → m ≡ get_or ms i m → is_class_initializer m ≡ false
    → found_clinit ms ≡ found_clinit (drop i ms) → found_clinit ms ≡ found_clinit (drop (i + 1) ms)
clinit_past ms i m l is other e = from_here ms i m l is e ∙ ap (λ b. or_rest b m (found_clinit (drop (i + 1) ms))) other

-- the initializers of one more class
added : (cs : List ClassParts) (ns : List (Option ℕ)) (c : ClassParts) (n : Option ℕ) → length ns ≡ length cs → IsInitializer c n → AreInitializers cs ns
    → AreInitializers (cs ++ c ∷ []) (ns ++ n ∷ [])
added [] [] c n same is are zero d at = (n, refl, subst (λ x. IsInitializer x n) (the_same at) is)
  where
    the_same : Some c ≡ Some d → c ≡ d
    the_same e = cc
added [] [] c n same is are (suc k) d at = cc
added [] (m ∷ ns) c n same is are k d at = cc
added (x ∷ cs) [] c n same is are k d at = cc
added (x ∷ cs) (m ∷ ns) c n same is are zero d at = are zero d at
added (x ∷ cs) (m ∷ ns) c n same is are (suc k) d at = added cs ns c n (fewer same) is (λ j. are (suc j)) k d at
  where
    fewer : length (m ∷ ns) ≡ length (x ∷ cs) → length ns ≡ length cs
    fewer e = omega (arith, e)

-- a list with one more item
longer : {A : Type 0} (xs : List A) (x : A) (n : ℕ) → length xs ≡ n → length (xs ++ x ∷ []) ≡ n + 1
longer xs x n e = rw length-append (omega (arith, e))

-- and so for the classes so far, with the next one's
pub initializers_more : (cs : List ClassParts) (ns : List (Option ℕ)) (i : ℕ) (c : ClassParts) (n : Option ℕ) → i < length cs → c ≡ get_or cs i c
    → IsInitializer c n → (length ns ≡ i) × AreInitializers (take i cs) ns → (length (ns ++ n ∷ []) ≡ i + 1) × AreInitializers (take (i + 1) cs) (ns ++ n ∷ [])
initializers_more cs ns i c n l is one so_far =
    let more : take (i + 1) cs ≡ take i cs ++ c ∷ [] = rw (take_more cs i c l, ← is) refl in
    let at_most : i ≤ length cs = omega arith in
    let as_many : length ns ≡ length (take i cs) = so_far.0 ∙ sym (length-take-le i cs at_most) in (
      longer ns n i so_far.0,
      subst (λ ds. AreInitializers ds (ns ++ n ∷ [])) (sym more) (added (take i cs) ns c n as_many one so_far.1),
    )
