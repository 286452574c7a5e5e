-- Keys are equal exactly where names and types are the same.
use Rattle.std.proofs.Common.{◌≡◌, ℕ, ◌+◌, ◌<◌, Bool, ◌&&◌, List, [], ◌∷◌, ◌++◌, Option, Some, None, length, get_or, take, refl, sym, subst, ◌∙◌, arith, eqb}
use Rattle.std.proofs.lemmas.List.{take_more}
use Rattle.std.specs.Prelude.{nat_eq}
use Rattle.std.specs.Ordering.{is_eq, nat_cmp, ordering_then}
use Rattle.std.specs.Option.{option_cmp}
use Rattle.std.specs.Cmp.{unsigned_tied}
use Rattle.std.specs.declared.cmp.Ordering.{Ordering}
use Rattle.std.specs.declared.cmp.Ordering.TheVariants.{Less, Equal, Greater}
use Rattle.std.specs.Cmp.Lexicographic.{slice_cmp, texts_ties}
use Rattle.jm_program.specs.Names.{same_text}
use Rattle.jm_program.specs.Descriptors.{base_letter}
use Rattle.jm_program.specs.declared.descriptor.ElementType.{ElementType}
use Rattle.jm_program.specs.declared.descriptor.ElementType.TheVariants as element
use Rattle.jm_program.specs.declared.descriptor.FieldType.{FieldType}
use Rattle.jm_program.specs.declared.descriptor.MethodDescriptor.{MethodDescriptor}
use Rattle.jm_world.specs.Types.{same_element, same_type, same_types, same_result, same_method_type}
use Rattle.jm_linker.proofs.TypeLaws.{same_types_none}
use Rattle.jm_linker.specs.declared.key.ElementKey.{ElementKey}
use Rattle.jm_linker.specs.declared.key.ElementKey.TheVariants.{Base, Class}
use Rattle.jm_linker.specs.declared.key.TypeKey.{TypeKey}
use Rattle.jm_linker.specs.declared.key.FieldKey.{FieldKey}
use Rattle.jm_linker.specs.declared.key.MethodKey.{MethodKey}
use Rattle.jm_linker.specs.Keys.{IsElementKey, IsTypeKey, AreTypeKeys, IsResultKey, IsFieldKey, IsMethodKey}
use Rattle.jm_linker.specs.contracts.key.ElementKeyOrd.TheImpl as element_ord
use Rattle.jm_linker.specs.contracts.key.TypeKeyOrd.TheImpl as type_ord
use Rattle.jm_linker.specs.contracts.key.FieldKeyOrd.TheImpl as field_ord
use Rattle.jm_linker.specs.contracts.key.MethodKeyOrd.TheImpl as method_ord

-- one more key
all_more : (ks : List TypeKey) (ts : List FieldType) (k : TypeKey) (t : FieldType) → AreTypeKeys ks ts → IsTypeKey k t → AreTypeKeys (ks ++ k ∷ []) (ts ++ t ∷ [])
all_more [] [] k t a h = (h, tt)
all_more [] (u ∷ us) k t a h = absurd a
all_more (l ∷ ls) [] k t a h = absurd a
all_more (l ∷ ls) (u ∷ us) k t a h = (a.0, all_more ls us k t a.1 h)

pub keys_more : (ks ls : List TypeKey) (ts : List FieldType) (n : ℕ) (k : TypeKey) (t : FieldType) → n < length ts → t ≡ get_or ts n t → ls ≡ ks ++ k ∷ [] → AreTypeKeys ks (take n ts) → IsTypeKey k t → AreTypeKeys ls (take (n + 1) ts)
keys_more ks ls ts n k t within at e a h =
    let more : take (n + 1) ts ≡ take n ts ++ t ∷ [] = rw (take_more ts n t within, ← at) refl in
    subst (λ xs. AreTypeKeys ls xs) (sym more) (subst (λ xs. AreTypeKeys xs (take n ts ++ t ∷ [])) (sym e) (all_more ks (take n ts) k t a h))

-- equal keys
tied_then : (a b : Ordering) → is_eq (ordering_then a b) ≡ (is_eq a && is_eq b)
tied_then Less b = refl
tied_then Equal b = refl
tied_then Greater b = refl

both : (s t u v : Bool) → s ≡ u → t ≡ v → (s && t) ≡ (u && v)
both s t u v e f = rw (e, f) refl

numbers_tied : (a b m n : ℕ) → a ≡ m → b ≡ n → is_eq (nat_cmp a b) ≡ nat_eq m n
numbers_tied a b m n e f = rw (e, f) (unsigned_tied m n)

texts_tied : (a b m n : List ℕ) → a ≡ m → b ≡ n → is_eq (slice_cmp nat_cmp a b) ≡ same_text m n
texts_tied a b m n e f = rw (e, f) (sym (texts_ties m n))

elements_tied : (k l : ElementKey) (t u : ElementType) → IsElementKey k t → IsElementKey l u → is_eq ((element_ord.ghosts).cmp k l) ≡ same_element t u
elements_tied (Base a) (Base b) (element.Base s) (element.Base t) h g = numbers_tied a b (base_letter s) (base_letter t) h g
elements_tied (Class a) (Class b) (element.Class s) (element.Class t) h g = texts_tied a.now b.now s t h g
elements_tied (Base a) (Class b) (element.Base s) (element.Class t) h g = refl
elements_tied (Class a) (Base b) (element.Class s) (element.Base t) h g = refl
elements_tied (Base a) l (element.Class s) u h g = absurd h
elements_tied (Class a) l (element.Base s) u h g = absurd h
elements_tied (Base a) (Base b) (element.Base s) (element.Class u) h g = absurd g
elements_tied (Base a) (Class b) (element.Base s) (element.Base u) h g = absurd g
elements_tied (Class a) (Base b) (element.Class s) (element.Class u) h g = absurd g
elements_tied (Class a) (Class b) (element.Class s) (element.Base u) h g = absurd g

pub types_tied : (k l : TypeKey) (t u : FieldType) → IsTypeKey k t → IsTypeKey l u → is_eq ((type_ord.ghosts).cmp k l) ≡ same_type t u
types_tied k l t u h g =
    tied_then (nat_cmp k.dimensions l.dimensions) ((element_ord.ghosts).cmp k.element l.element)
    ∙ both _ _ _ _ (numbers_tied _ _ _ _ h.0 g.0) (elements_tied k.element l.element t.element u.element h.1 g.1)

pub fields_tied : (k l : FieldKey) (m n : List ℕ) (t u : FieldType) → IsFieldKey k m t → IsFieldKey l n u → is_eq ((field_ord.ghosts).cmp k l) ≡ (same_text m n && same_type t u)
fields_tied k l m n t u h i =
    tied_then (slice_cmp nat_cmp k.name.now l.name.now) ((type_ord.ghosts).cmp k.descriptor l.descriptor)
    ∙ both _ _ _ _ (texts_tied _ _ _ _ h.0 i.0) (types_tied k.descriptor l.descriptor t u h.1 i.1)

lists_tied : (ks ls : List TypeKey) (ts us : List FieldType) → AreTypeKeys ks ts → AreTypeKeys ls us → is_eq (slice_cmp (type_ord.ghosts).cmp ks ls) ≡ same_types ts us
lists_tied [] [] [] [] h g = refl
lists_tied [] (l ∷ ls) [] (u ∷ us) h g = refl
lists_tied (k ∷ ks) [] (t ∷ ts) [] h g = refl
lists_tied (k ∷ ks) (l ∷ ls) (t ∷ ts) (u ∷ us) h g =
    tied_then ((type_ord.ghosts).cmp k l) (slice_cmp (type_ord.ghosts).cmp ks ls) ∙ both _ _ _ _ (types_tied k l t u h.0 g.0) (lists_tied ks ls ts us h.1 g.1)
lists_tied [] ls (t ∷ ts) us h g = absurd h
lists_tied (k ∷ ks) ls [] us h g = absurd h
lists_tied [] [] [] (u ∷ us) h g = absurd g
lists_tied [] (l ∷ ls) [] [] h g = absurd g
lists_tied (k ∷ ks) [] (t ∷ ts) (u ∷ us) h g = absurd g
lists_tied (k ∷ ks) (l ∷ ls) (t ∷ ts) [] h g = absurd g

results_tied : (k l : Option TypeKey) (t u : Option FieldType) → IsResultKey k t → IsResultKey l u → is_eq (option_cmp (type_ord.ghosts).cmp k l) ≡ same_result t u
results_tied None None None None h g = refl
results_tied None (Some l) None (Some u) h g = refl
results_tied (Some k) None (Some t) None h g = refl
results_tied (Some k) (Some l) (Some t) (Some u) h g = types_tied k l t u h g
results_tied None l (Some t) u h g = absurd h
results_tied (Some k) l None u h g = absurd h
results_tied None None None (Some u) h g = absurd g
results_tied None (Some l) None None h g = absurd g
results_tied (Some k) None (Some t) (Some u) h g = absurd g
results_tied (Some k) (Some l) (Some t) None h g = absurd g

pub methods_tied : (k l : MethodKey) (m n : List ℕ) (t u : MethodDescriptor) → IsMethodKey k m t → IsMethodKey l n u → is_eq ((method_ord.ghosts).cmp k l) ≡ (same_text m n && same_method_type t u)
methods_tied k l m n t u h i =
    tied_then (slice_cmp nat_cmp k.name.now l.name.now) (ordering_then (slice_cmp (type_ord.ghosts).cmp k.parameters.items l.parameters.items) (option_cmp (type_ord.ghosts).cmp k.result l.result))
    ∙ both _ _ _ _ (texts_tied _ _ _ _ h.0 i.0)
    (tied_then (slice_cmp (type_ord.ghosts).cmp k.parameters.items l.parameters.items) (option_cmp (type_ord.ghosts).cmp k.result l.result)
    ∙ both _ _ _ _ (lists_tied _ _ _ _ h.1.0 i.1.0) (results_tied _ _ _ _ h.1.1 i.1.1))

-- where no key is left, no type is
pub no_keys : (ks : List TypeKey) (ts us : List FieldType) → length ks ≡ 0 → AreTypeKeys ks us → eqb (length ts) 0 ≡ same_types ts us
no_keys [] ts [] e h = sym (same_types_none ts)
no_keys [] ts (u ∷ us) e h = absurd h
no_keys (k ∷ ks) ts us e h = absurd (omega (arith, e))
