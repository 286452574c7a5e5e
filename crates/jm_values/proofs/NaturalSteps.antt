-- The words that rows are written in do the same under other names.
use Rattle.std.proofs.Common.{◌≡◌, ℕ, zero, suc, ◌+◌, List, [], ◌∷◌, Option, Some, None, Bool, true, false, refl, sym, ap, ◌∙◌}
use Rattle.std.specs.Prelude.{map, option_map, slice_get, slice_set, ℤ, if◌then◌else◌, nat_le}
use Rattle.std.proofs.lemmas.Option.{slice_get-map}
use Rattle.std.proofs.lemmas.List.{map-set, length-map}
use Rattle.jm_values.specs.Activation.{Activation, units, category}
use Rattle.jm_values.specs.Outcome.{Outcome, faults}
use Rattle.jm_values.specs.Rename.{rename, rename_activation, rename_outcome}
use Rattle.jm_values.specs.Steps.{leave, push, is_of, with_operand, with_number, with_two_numbers, with_single, with_double, with_places, with_set, with_set_int, places}
use Rattle.jm_values.specs.LoadsAndStores.{stored, without_long_before, without_second, unset_long}
use Rattle.jm_values.specs.declared.fault.TagFault.{TagFault}
use Rattle.jm_values.specs.declared.value.Value.{Value}
use Rattle.jm_values.specs.declared.value.Value.TheVariants.{Int, Long, Null, Ref}
use Rattle.jm_program.specs.declared.instruction.operation.Integral.{Integral}
use Rattle.jm_program.specs.declared.instruction.operation.OperandType.{OperandType}

category_renamed : (f : ℕ → ℕ) (v : Value) → category (rename f v) ≡ category v
category_renamed f (Long n) = refl
category_renamed f _ = refl

pub units_renamed : (f : ℕ → ℕ) (s : List Value) → units (map (rename f) s) ≡ units s
units_renamed f [] = refl
units_renamed f (v ∷ s) = ap (λ n. n + units (map (rename f) s)) (category_renamed f v) ∙ ap (λ n. category v + n) (units_renamed f s)

-- a test that is the same under both names, before what is natural
tested : (f : ℕ → ℕ) (b c : Bool) (o o' : Outcome) (fault : TagFault) → c ≡ b → o' ≡ rename_outcome f o → (if c then o' else faults fault) ≡ rename_outcome f (if b then o else faults fault)
tested f b c o o' fault same e = ap (λ d. if d then o' else faults fault) same ∙ by b
  where
    by : (b : Bool) → (if b then o' else faults fault) ≡ rename_outcome f (if b then o else faults fault)
    by true = e
    by false = refl

pub leave_natural : (f : ℕ → ℕ) (a : Activation) (s : List Value) → leave (rename_activation f a) (map (rename f) s) ≡ rename_outcome f (leave a s)
leave_natural f a s = tested f _ _ _ _ _ (ap (λ n. nat_le n a.max_stack) (units_renamed f s)) refl

pub push_natural : (f : ℕ → ℕ) (a : Activation) (v : Value) (s : List Value) → push (rename_activation f a) (rename f v) (map (rename f) s) ≡ rename_outcome f (push a v s)
push_natural f a v s = leave_natural f a (v ∷ s)

pub is_of_renamed : (f : ℕ → ℕ) (type : OperandType) (v : Value) → is_of type (rename f v) ≡ is_of type v
is_of_renamed f OperandType.Int (Int n) = refl
is_of_renamed f OperandType.Long (Long n) = refl
is_of_renamed f OperandType.Reference (Ref p) = refl
is_of_renamed f OperandType.Reference Null = refl
is_of_renamed f _ _ = refl

pub operand_natural : (f : ℕ → ℕ) (type : OperandType) (s : List Value) (go go' : Value → List Value → Outcome) → ((v : Value) (r : List Value) → s ≡ v ∷ r → go' (rename f v) (map (rename f) r) ≡ rename_outcome f (go v r)) → with_operand type (map (rename f) s) go' ≡ rename_outcome f (with_operand type s go)
operand_natural f type [] go go' h = refl
operand_natural f type (v ∷ s) go go' h = tested f _ _ _ _ _ (is_of_renamed f type v) (h v s refl)

pub number_natural : (f : ℕ → ℕ) (type : Integral) (s : List Value) (go go' : ℤ → List Value → Outcome) → ((n : ℤ) (r : List Value) → go' n (map (rename f) r) ≡ rename_outcome f (go n r)) → with_number type (map (rename f) s) go' ≡ rename_outcome f (with_number type s go)
number_natural f Integral.Int (Int n ∷ s) go go' h = h n s
number_natural f Integral.Long (Long n ∷ s) go go' h = h n s
number_natural f type [] go go' h = refl
number_natural f _ _ go go' h = refl

pub two_numbers_natural : (f : ℕ → ℕ) (type : Integral) (s : List Value) (go go' : ℤ → ℤ → List Value → Outcome) → ((x y : ℤ) (r : List Value) → go' x y (map (rename f) r) ≡ rename_outcome f (go x y r)) → with_two_numbers type (map (rename f) s) go' ≡ rename_outcome f (with_two_numbers type s go)
two_numbers_natural f type s go go' h = number_natural f type s _ _ (λ y r. number_natural f type r _ _ (λ x q. h x y q))

pub single_natural : (f : ℕ → ℕ) (s : List Value) (go go' : Value → List Value → Outcome) → ((v : Value) (r : List Value) → go' (rename f v) (map (rename f) r) ≡ rename_outcome f (go v r)) → with_single (map (rename f) s) go' ≡ rename_outcome f (with_single s go)
single_natural f [] go go' h = refl
single_natural f (Long n ∷ s) go go' h = refl
single_natural f (v ∷ s) go go' h = h v s

pub double_natural : (f : ℕ → ℕ) (s : List Value) (go go' : List Value → List Value → Outcome) → ((g r : List Value) → go' (map (rename f) g) (map (rename f) r) ≡ rename_outcome f (go g r)) → with_double (map (rename f) s) go' ≡ rename_outcome f (with_double s go)
double_natural f [] go go' h = refl
double_natural f (Long n ∷ s) go go' h = h (Long n ∷ []) s
double_natural f (v ∷ s) go go' h = single_natural f s _ _ (λ u r. h (v ∷ u ∷ []) r)

pub places_natural : (f : ℕ → ℕ) (type : OperandType) (n : ℕ) (a : Activation) (o o' : Outcome) → o' ≡ rename_outcome f o → with_places type n (rename_activation f a) o' ≡ rename_outcome f (with_places type n a o)
places_natural f type n a o o' e = tested f _ _ _ _ _ (ap (λ m. nat_le (n + places type) m) (length-map a.locals (option_map (rename f)))) e

pub set_natural : (f : ℕ → ℕ) (type : OperandType) (o : Option (Option Value)) (go go' : Value → Outcome) → ((v : Value) → go' (rename f v) ≡ rename_outcome f (go v)) → with_set type (option_map (option_map (rename f)) o) go' ≡ rename_outcome f (with_set type o go)
set_natural f type None go go' h = refl
set_natural f type (Some None) go go' h = refl
set_natural f type (Some (Some v)) go go' h = tested f _ _ _ _ _ (is_of_renamed f type v) (h v)

pub set_int_natural : (f : ℕ → ℕ) (o : Option (Option Value)) (go go' : ℤ → Outcome) → ((n : ℤ) → go' n ≡ rename_outcome f (go n)) → with_set_int (option_map (option_map (rename f)) o) go' ≡ rename_outcome f (with_set_int o go)
set_int_natural f None go go' h = refl
set_int_natural f (Some None) go go' h = refl
set_int_natural f (Some (Some (Int n))) go go' h = h n
set_int_natural f (Some (Some v)) go go' h = refl

-- the local variables under other names
abbrev pub renamed_locals : (ℕ → ℕ) → List (Option Value) → List (Option Value)
renamed_locals f = map (option_map (rename f))

pub read_renamed : (f : ℕ → ℕ) (locals : List (Option Value)) (n : ℕ) → slice_get (renamed_locals f locals) n ≡ option_map (option_map (rename f)) (slice_get locals n)
read_renamed f locals n = slice_get-map (option_map (rename f)) locals n

pub set_renamed : (f : ℕ → ℕ) (locals : List (Option Value)) (n : ℕ) (o : Option Value) → slice_set (renamed_locals f locals) n (option_map (rename f) o) ≡ renamed_locals f (slice_set locals n o)
set_renamed f locals n o = sym (map-set (option_map (rename f)) locals n o)

unset_renamed : (f : ℕ → ℕ) (n : ℕ) (o : Option (Option Value)) (locals : List (Option Value)) → unset_long n (option_map (option_map (rename f)) o) (renamed_locals f locals) ≡ renamed_locals f (unset_long n o locals)
unset_renamed f n (Some (Some (Long k))) locals = set_renamed f locals n None
unset_renamed f n (Some (Some v)) locals = refl
unset_renamed f n (Some None) locals = refl
unset_renamed f n None locals = refl

before_renamed : (f : ℕ → ℕ) (n : ℕ) (locals : List (Option Value)) → without_long_before n (renamed_locals f locals) ≡ renamed_locals f (without_long_before n locals)
before_renamed f zero locals = refl
before_renamed f (suc n) locals =
    ap (λ o. unset_long n o (renamed_locals f locals)) (read_renamed f locals n) ∙ unset_renamed f n (slice_get locals n) locals

second_renamed : (f : ℕ → ℕ) (v : Value) (n : ℕ) (locals : List (Option Value)) → without_second (rename f v) n (renamed_locals f locals) ≡ renamed_locals f (without_second v n locals)
second_renamed f (Long k) n locals = set_renamed f locals (n + 1) None
second_renamed f _ n locals = refl

pub stored_renamed : (f : ℕ → ℕ) (v : Value) (n : ℕ) (locals : List (Option Value)) → stored (rename f v) n (renamed_locals f locals) ≡ renamed_locals f (stored v n locals)
stored_renamed f v n locals =
    ap (λ l. slice_set (without_second (rename f v) n l) n (Some (rename f v))) (before_renamed f n locals)
    ∙ ap (λ l. slice_set l n (Some (rename f v))) (second_renamed f v n (without_long_before n locals))
    ∙ set_renamed f (without_second v n (without_long_before n locals)) n (Some v)
