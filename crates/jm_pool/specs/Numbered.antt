-- How a builder holds its pool: each constant once, in the order of the indexes, with the first index of its own.
use Rattle.std.specs.Prelude.{◌≡◌, ℕ, ◌+◌, ◌≤◌, Bool, true, false, ◌&&◌, nat_eq, List, [], ◌∷◌, length}
use Rattle.std.specs.List.{flat_map}
use Rattle.std.specs.Map.{keys_of}
use Rattle.std.specs.Ordering.{int_eq}
use Rattle.jm_program.specs.Names.{same_text}
use Rattle.jm_class_format.specs.declared.constant_pool.Entry.{Entry}
use Rattle.jm_pool.specs.declared.constant.Constant.{Constant}
use Rattle.jm_pool.specs.declared.constant.Constant.TheVariants as constant
use Rattle.jm_pool.specs.Building.{places, fits_length}

-- whether two constants are one
abbrev pub same_constant : Constant → Constant → Bool
same_constant (constant.Utf8 a) (constant.Utf8 b) = same_text a b
same_constant (constant.Integer a) (constant.Integer b) = int_eq a b
same_constant (constant.Long a) (constant.Long b) = int_eq a b
same_constant (constant.Class i) (constant.Class j) = nat_eq i j
same_constant (constant.String i) (constant.String j) = nat_eq i j
same_constant (constant.Fieldref c n) (constant.Fieldref d m) = nat_eq c d && nat_eq n m
same_constant (constant.Methodref c n) (constant.Methodref d m) = nat_eq c d && nat_eq n m
same_constant (constant.InterfaceMethodref c n) (constant.InterfaceMethodref d m) = nat_eq c d && nat_eq n m
same_constant (constant.NameAndType c n) (constant.NameAndType d m) = nat_eq c d && nat_eq n m
same_constant a b = false

-- the entries of constants, one after the other
abbrev pub entries_of : List Constant → List Entry
entries_of cs = flat_map places cs

-- each with its own first index, from `at` on, and no text too long
abbrev pub AreNumbered : ℕ → List (Constant × ℕ) → Type 0
AreNumbered at [] = Unit {0}
AreNumbered at (e ∷ es) = (e.1 ≡ at) × (fits_length e.0 ≡ true) × AreNumbered (at + length (places e.0)) es

-- no text is too long
abbrev pub AreFit : List Constant → Type 0
AreFit [] = Unit {0}
AreFit (c ∷ cs) = (fits_length c ≡ true) × AreFit cs

-- numbered from 1 on, with as many indexes taken as there are entries
pub record IsPool (constants : List (Constant × ℕ)) (taken : ℕ) : Type 0 where
  pub numbered : AreNumbered 1 constants
  pub count : taken ≡ length (entries_of (keys_of constants))
  pub few : taken ≤ 65534
