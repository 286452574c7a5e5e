-- Names, as UTF-16 code units (JVMS 4.2).
use Rattle.std.specs.Prelude.{ℕ, List, length, Bool, true, false, not, ◌&&◌, ◌||◌, ◌==◌, nat_eq, codes}
use Rattle.std.specs.List.{list_all, slice_split}
use lib.Pointwise.{pointwise}

-- the texts are the same
abbrev pub same_text : List ℕ → List ℕ → Bool
same_text = pointwise nat_eq

-- none of . ; [ / (JVMS 4.2.2)
abbrev pub is_name_unit : ℕ → Bool
is_name_unit u = not (u == 46 || u == 59 || u == 91 || u == 47)

-- an unqualified name, as of a field: not empty, and none of . ; [ / (JVMS 4.2.2)
abbrev pub is_unqualified : List ℕ → Bool
is_unqualified units = not (length units == 0) && list_all is_name_unit units

-- neither < nor >
abbrev pub is_method_unit : ℕ → Bool
is_method_unit u = not (u == 60 || u == 62)

abbrev pub is_init : List ℕ → Bool
is_init units = same_text units (codes "<init>")

abbrev pub is_clinit : List ℕ → Bool
is_clinit units = same_text units (codes "<clinit>")

-- of a method that is not special: unqualified, with neither < nor >
abbrev pub is_ordinary_method_name : List ℕ → Bool
is_ordinary_method_name units = is_unqualified units && list_all is_method_unit units

-- a method's name: an ordinary one, or one of the two special names (JVMS 4.2.2)
abbrev pub is_method_name : List ℕ → Bool
is_method_name units = is_ordinary_method_name units || is_init units || is_clinit units

-- what an instruction may invoke: <clinit> is called by no instruction (JVMS 4.4.2, 2.9)
abbrev pub is_invoked_name : List ℕ → Bool
is_invoked_name units = is_method_name units && not (is_clinit units)

-- the name of a class or an interface: unqualified names with / between them (JVMS 4.2.1)
abbrev pub is_class_name : List ℕ → Bool
is_class_name units = list_all is_unqualified (slice_split (λ u. u == 47) units)
