-- What the items of a body come to with one more.
use Rattle.std.proofs.Common.{◌≡◌, ℕ, ◌+◌, Bool, true, false, List, [], ◌∷◌, ◌++◌, Option, Some, None, refl, ap, ◌∙◌, arith}
use Rattle.std.specs.Prelude.{if◌then◌else◌}
use Rattle.jm_program.specs.Names.{same_text}
use Rattle.jm_class_format.specs.Symbols.{or_else}
use Rattle.jm_jasmin_ops.specs.declared.labelled.LabelledInstr.{LabelledInstr}
use Rattle.jm_jasmin.specs.declared.item.Item.{Item}
use Rattle.jm_jasmin.specs.declared.item.Item.TheVariants as item
use Rattle.jm_jasmin.specs.Items.{instruction_here, instruction_count, value_here, label_value, stack_here, stack_limit, locals_here, locals_limit}

or_none : {A : Type 0} (o : Option A) → or_else None o ≡ or_else o None
or_none None = refl
or_none (Some x) = refl

pub or_assoc : {A : Type 0} (o p q : Option A) → or_else (or_else o p) q ≡ or_else o (or_else p q)
or_assoc None p q = refl
or_assoc (Some x) p q = refl

pub label_more : (items : List Item) (i : Item) (name : List ℕ) → label_value (items ++ i ∷ []) name ≡ or_else (value_here name i) (label_value items name)
unfolding label_value
label_more [] i name = or_none (value_here name i)
label_more (j ∷ items) i name = ap (λ (o : Option ℕ). or_else o (value_here name j)) (label_more items i name) ∙ or_assoc (value_here name i) (label_value items name) (value_here name j)

stack_more : (items : List Item) (i : Item) → stack_limit (items ++ i ∷ []) ≡ or_else (stack_here i) (stack_limit items)
unfolding stack_limit
stack_more [] i = or_none (stack_here i)
stack_more (j ∷ items) i = ap (λ (o : Option ℕ). or_else o (stack_here j)) (stack_more items i) ∙ or_assoc (stack_here i) (stack_limit items) (stack_here j)

locals_more : (items : List Item) (i : Item) → locals_limit (items ++ i ∷ []) ≡ or_else (locals_here i) (locals_limit items)
unfolding locals_limit
locals_more [] i = or_none (locals_here i)
locals_more (j ∷ items) i = ap (λ (o : Option ℕ). or_else o (locals_here j)) (locals_more items i) ∙ or_assoc (locals_here i) (locals_limit items) (locals_here j)

pub count_more : (items : List Item) (i : Item) → instruction_count (items ++ i ∷ []) ≡ instruction_count items + instruction_here i
unfolding instruction_count
count_more [] i = refl
count_more (j ∷ items) i = omega (arith, count_more items i)

-- an item of no kind that counts

pub label_kept : (items : List Item) (i : Item) (name : List ℕ) → value_here name i ≡ None → label_value (items ++ i ∷ []) name ≡ label_value items name
label_kept items i name h = label_more items i name ∙ ap (λ (o : Option ℕ). or_else o (label_value items name)) h

pub stack_kept : (items : List Item) (i : Item) → stack_here i ≡ None → stack_limit (items ++ i ∷ []) ≡ stack_limit items
stack_kept items i h = stack_more items i ∙ ap (λ (o : Option ℕ). or_else o (stack_limit items)) h

pub locals_kept : (items : List Item) (i : Item) → locals_here i ≡ None → locals_limit (items ++ i ∷ []) ≡ locals_limit items
locals_kept items i h = locals_more items i ∙ ap (λ (o : Option ℕ). or_else o (locals_limit items)) h

pub count_kept : (items : List Item) (i : Item) → instruction_here i ≡ 0 → instruction_count (items ++ i ∷ []) ≡ instruction_count items
count_kept items i h = omega (arith, count_more items i, h)

-- the item that counts

pub stack_set : (items : List Item) (n : ℕ) → stack_limit (items ++ item.StackLimit n ∷ []) ≡ Some n
stack_set items n = stack_more items (item.StackLimit n)

pub locals_set : (items : List Item) (n : ℕ) → locals_limit (items ++ item.LocalsLimit n ∷ []) ≡ Some n
locals_set items n = locals_more items (item.LocalsLimit n)

pub count_next : (items : List Item) (i : LabelledInstr) → instruction_count (items ++ item.Instruction i ∷ []) ≡ instruction_count items + 1
count_next items i = count_more items (item.Instruction i)

here_or : (b : Bool) (v : ℕ) (o : Option ℕ) → or_else (if b then Some v else None) o ≡ (if b then Some v else o)
here_or true v o = refl
here_or false v o = refl

pub label_set : (items : List Item) (label : List ℕ) (v : ℕ) (name : List ℕ) → label_value (items ++ item.Label label v ∷ []) name ≡ (if same_text label name then Some v else label_value items name)
label_set items label v name = label_more items (item.Label label v) name ∙ here_or (same_text label name) v (label_value items name)

pub ruleset item_laws = (label_kept, stack_kept, locals_kept, count_kept, stack_set, locals_set, count_next, label_set)
