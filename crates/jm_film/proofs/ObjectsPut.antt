-- What is written of an object, and of all that are reachable.
use Rattle.std.proofs.Common.{◌≡◌, ℕ, ◌++◌, List, [], ◌∷◌, length, sym, ap, ◌∙◌, append_assoc, append-nil}
use Rattle.std.specs.Prelude.{codes, map}
use Rattle.std.specs.List.{flat_map}
use Rattle.std.specs.Fmt.{decimal}
use Rattle.jm_program.specs.declared.class.ClassParts.{ClassParts}
use Rattle.jm_world.specs.Types.{ObjectType}
use Rattle.jm_world.specs.Objects.{Object, size}
use Rattle.jm_world.specs.World.{World}
use Rattle.jm_machine.specs.ReachedObjects.{ObjectsView, TellsReached, reached_objects, numbered_cells}
use Rattle.jm_debug.specs.Texts.{object_type_text}
use Rattle.jm_debug.specs.Views.{part_lines, heap_text}
use Rattle.jm_debug.specs.Session.{ended}
use Rattle.jm_page.specs.Sections.{Part}
use Rattle.jm_film.specs.Shown.{object_section, object_section_lines, heap_section, section}

-- in three steps
pub object_lines_written : (program : List ClassParts) (o : Object) (t : ObjectType) (cells : ℕ) (a b c : List ℕ) → a ≡ object_type_text t → t ≡ o.type → cells ≡ size o
    → b ≡ a ++ (codes " " ++ decimal cells ++ codes " cells\n") → c ≡ b ++ flat_map ended (part_lines program o.type o.values)
    → c ≡ flat_map ended (object_section_lines program o)
object_lines_written program o t cells a b c first type count second third =
    let typed : a ≡ object_type_text o.type = first ∙ ap object_type_text type in
    let line : b ≡ object_type_text o.type ++ (codes " " ++ decimal (size o) ++ codes " cells\n") = rw (typed, count) at second in
    let whole : b ≡ ended (object_type_text o.type ++ codes " " ++ decimal (size o) ++ codes " cells") = line ∙ simp append_assoc in
    third ∙ ap (λ t. t ++ flat_map ended (part_lines program o.type o.values)) whole

-- how much there is, and the objects
pub heap_put : (w : World) (v : ObjectsView) (limit : ℕ) (before first after : List Part) → TellsReached w v → limit ≡ w.limit
    → first ≡ before ++ section (codes "h") (heap_text (length v.objects) (numbered_cells v.objects) limit ∷ []) ∷ []
    → after ≡ first ++ map (object_section v.program) v.objects → after ≡ before ++ heap_section w ∷ map (object_section w.program) (reached_objects w)
heap_put w v limit before first after tells most head rest =
    let size : first ≡ before ++ heap_section w ∷ [] = rw (tells.many, tells.cells, most) at head in
    let objects : map (object_section v.program) v.objects ≡ map (object_section w.program) (reached_objects w) =
    ap (λ p. map (object_section p) v.objects) tells.program ∙ ap (map (object_section w.program)) tells.objects in
    rest ∙ ap (λ ps. ps ++ map (object_section v.program) v.objects) size ∙ append_assoc before (heap_section w ∷ []) (map (object_section v.program) v.objects)
    ∙ ap (λ ps. before ++ heap_section w ∷ ps) objects

-- the line of how much there is
pub size_written : (objects cells limit many size : ℕ) (text : List ℕ) → objects ≡ many → cells ≡ size → text ≡ ended (heap_text objects cells limit)
    → text ≡ flat_map ended (heap_text many size limit ∷ [])
size_written objects cells limit many size text first second line =
    line ∙ ap (λ k. ended (heap_text k cells limit)) first ∙ ap (λ k. ended (heap_text many k limit)) second ∙ sym (append-nil (ended (heap_text many size limit)))
