-- The key of a member: its name and its type (JVMS 4.3, 4.5, 4.6).
use Rattle.std.specs.Prelude.{◌≡◌, ℕ, List, [], ◌∷◌, Option, Some, None}
use Rattle.std.specs.Coded.{Coded-set, coded_ℕ, coded_list, ×_prop, Unit-prop}
use Rattle.jm_program.specs.Descriptors.{base_letter}
use Rattle.jm_program.specs.declared.descriptor.ElementType.{ElementType}
use Rattle.jm_program.specs.declared.descriptor.ElementType.TheVariants as element
use Rattle.jm_program.specs.declared.descriptor.FieldType.{FieldType}
use Rattle.jm_program.specs.declared.descriptor.MethodDescriptor.{MethodDescriptor}
use Rattle.jm_linker.specs.declared.key.ElementKey.{ElementKey}
use Rattle.jm_linker.specs.declared.key.ElementKey.TheVariants.{Base, Class}
use Rattle.jm_linker.specs.declared.key.TypeKey.{TypeKey}
use Rattle.jm_linker.specs.declared.key.FieldKey.{FieldKey}
use Rattle.jm_linker.specs.declared.key.MethodKey.{MethodKey}

abbrev pub IsElementKey : ElementKey → ElementType → Type 0
IsElementKey (Base letter) (element.Base base) = letter ≡ base_letter base
IsElementKey (Class units) (element.Class name) = units.now ≡ name
IsElementKey _ _ = ⊥

abbrev pub IsTypeKey : TypeKey → FieldType → Type 0
IsTypeKey key t = (key.dimensions ≡ t.dimensions) × IsElementKey key.element t.element

abbrev pub AreTypeKeys : List TypeKey → List FieldType → Type 0
AreTypeKeys [] [] = Unit {0}
AreTypeKeys (key ∷ keys) (t ∷ ts) = IsTypeKey key t × AreTypeKeys keys ts
AreTypeKeys _ _ = ⊥

abbrev pub IsResultKey : Option TypeKey → Option FieldType → Type 0
IsResultKey None None = Unit {0}
IsResultKey (Some key) (Some t) = IsTypeKey key t
IsResultKey _ _ = ⊥

abbrev pub IsFieldKey : FieldKey → List ℕ → FieldType → Type 0
IsFieldKey key name t = (key.name.now ≡ name) × IsTypeKey key.descriptor t

abbrev pub IsMethodTypeKey : MethodKey → MethodDescriptor → Type 0
IsMethodTypeKey key t = AreTypeKeys key.parameters.items t.parameters × IsResultKey key.result t.return_type

abbrev pub IsMethodKey : MethodKey → List ℕ → MethodDescriptor → Type 0
IsMethodKey key name t = (key.name.now ≡ name) × IsMethodTypeKey key t

-- each in one way
IsElementKey-prop : (key : ElementKey) (t : ElementType) → IsProp (IsElementKey key t)
IsElementKey-prop (Base letter) (element.Base base) = Coded-set coded_ℕ letter (base_letter base)
IsElementKey-prop (Class units) (element.Class name) = Coded-set (coded_list coded_ℕ) units.now name
IsElementKey-prop (Base letter) (element.Class name) = λ x y. absurd x
IsElementKey-prop (Class units) (element.Base base) = λ x y. absurd x

IsTypeKey-prop : (key : TypeKey) (t : FieldType) → IsProp (IsTypeKey key t)
IsTypeKey-prop key t = ×_prop (Coded-set coded_ℕ key.dimensions t.dimensions) (IsElementKey-prop key.element t.element)

AreTypeKeys-prop : (keys : List TypeKey) (ts : List FieldType) → IsProp (AreTypeKeys keys ts)
AreTypeKeys-prop [] [] = Unit-prop
AreTypeKeys-prop (key ∷ keys) (t ∷ ts) = ×_prop (IsTypeKey-prop key t) (AreTypeKeys-prop keys ts)
AreTypeKeys-prop [] (t ∷ ts) = λ x y. absurd x
AreTypeKeys-prop (key ∷ keys) [] = λ x y. absurd x

IsResultKey-prop : (key : Option TypeKey) (t : Option FieldType) → IsProp (IsResultKey key t)
IsResultKey-prop None None = Unit-prop
IsResultKey-prop (Some key) (Some t) = IsTypeKey-prop key t
IsResultKey-prop None (Some t) = λ x y. absurd x
IsResultKey-prop (Some key) None = λ x y. absurd x

pub IsFieldKey-prop : (key : FieldKey) (name : List ℕ) (t : FieldType) → IsProp (IsFieldKey key name t)
IsFieldKey-prop key name t = ×_prop (Coded-set (coded_list coded_ℕ) key.name.now name) (IsTypeKey-prop key.descriptor t)

pub IsMethodKey-prop : (key : MethodKey) (name : List ℕ) (t : MethodDescriptor) → IsProp (IsMethodKey key name t)
IsMethodKey-prop key name t =
    ×_prop (Coded-set (coded_list coded_ℕ) key.name.now name) (×_prop (AreTypeKeys-prop key.parameters.items t.parameters) (IsResultKey-prop key.result t.return_type))
