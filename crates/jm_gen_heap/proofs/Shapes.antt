-- What objects are made of shapes.
use Rattle.std.proofs.Common.{◌≡◌, ℕ, ◌+◌, ◌<◌, ◌≤◌, ◌^◌, List, refl, sym, ap, ◌∙◌, subst, length, arith, replicate}
use Rattle.jm_values.specs.declared.value.Value.{Value}
use Rattle.jm_values.specs.Objects.{default_of, size_by}
use Rattle.jm_heap.specs.Cells.{class_size}
use Rattle.jm_heap.specs.NewObject.{new_object, operand_of_component}
use Rattle.jm_heap.specs.declared.class_id.Component.{Component}
use Rattle.jm_heap.specs.declared.shape.Shape.{Shape}
use Rattle.jm_heap.specs.declared.shape.Shape.TheVariants.{Array}
use Rattle.jm_heap.proofs.NewLemmas.{copies_are, new_refs}
use Rattle.jm_copy.specs.Image.{bare}
use Rattle.jm_blocks.specs.Objects.{Object, object_of}
use Rattle.jm_blocks.specs.Stores.{Blocks}
use Rattle.jm_nursery.specs.Nurseries.{Young, IsMade}
use Rattle.jm_gen_heap.specs.Generations.{Generations, all_cells}
use Rattle.jm_gen_heap.specs.Steps.{IsNew, IsPut}
use Rattle.jm_gen_heap.proofs.Making.{laned, put_keeps}
use Rattle.jm_gen_heap.proofs.Storing.{nursery_made}
use Rattle.jm_gen_heap.specs.Pointers.{Noted}
use Rattle.jm_gen_heap.specs.Held.{AreHeld, IsPutNew, held}
use Rattle.jm_blocks.specs.Cells.{object_cells}
use Rattle.jm_blocks.specs.declared.header.Header.{Header}

pub array_values : (s : Shape) (component : Component) (n : ℕ) (v : Value) → s ≡ Array component n → v ≡ default_of (operand_of_component component) → replicate n v ≡ (new_object s).values
unfolding new_object
array_values s component n v e d = ap (replicate n) d ∙ copies_are n (default_of (operand_of_component component)) ∙ ap (λ x. (new_object x).values) (sym e)

pub same_size : (s : Shape) (h : Header) (vs : List Value) → h.class ≡ (new_object s).type → vs ≡ (new_object s).values → object_cells (object_of h vs) ≡ size_by class_size (new_object s)
same_size s h vs e f = ap (λ n. class_size h.class n) (ap length f) ∙ ap (λ t. class_size t (length (new_object s).values)) e

-- the new object as reach sees it
pub same_bare : (s : Shape) (h : Header) → h.class ≡ (new_object s).type → bare (object_of h (new_object s).values) ≡ new_object s
same_bare s h e = ap (λ t. record { type = t; values = (new_object s).values }) e

-- it is put into a nursery
pub put_held : {limit next cells : ℕ} {young new : Young} {tenured : Blocks} {pointers : Noted} {view : Generations} → AreHeld limit next young tenured cells pointers → held limit next young tenured pointers ≡ view → (s : Shape) {h : Header} {p n : ℕ} → h ≡ record { serial = next; class = (new_object s).type; age = 0 } → IsMade young new n p (object_of h (new_object s).values) → all_cells view + size_by class_size (new_object s) ≤ view.limit → next < 2 ^ 63 → AreHeld limit (next + 1) new tenured cells pointers × IsPutNew (held limit next young tenured pointers) (held limit (next + 1) new tenured pointers) p n (new_object s)
put_held {limit = limit} {next = next} {young = young} {new = new} {tenured = tenured} {pointers = pointers} a is s {h = h} {p = p} {n = n} header made fits lasts =
    (record { small = a.small; same = ap (λ y. y.limit) made.lanes ∙ a.same; counted = a.counted; keeps = put_keeps a.keeps put fresh }, record { object = o; put = put; fresh = fresh; shape = same_bare s h (ap (λ x. x.class) header); nursery = made.lane })
  where
    g : Generations
    g = held limit next young tenured pointers

    after : Generations
    after = held limit (next + 1) new tenured pointers

    o : Object
    o = object_of h (new_object s).values

    fresh : IsNew g o
    fresh = record { serial = ap (λ x. x.serial) header; age = ap (λ x. x.age) header; plain = new_refs s; lasts = lasts }

    put : IsPut g after p o
    put =
        let room = subst (λ (x : Generations). all_cells x + size_by class_size (new_object s) ≤ x.limit) (sym is) fits in
        let size = same_size s h (new_object s).values (ap (λ x. x.class) header) refl in
        nursery_made (laned a.keeps) (subst (λ l. IsMade (record { limit = l; lanes = young.lanes }) new n p o) a.same made) (omega (arith, size, room))
