-- Generations in which what survives of others lies under other places.
use Rattle.std.proofs.Common.{◌≡◌, ℕ, ◌≤◌, List, Option, Some, None, refl, sym, ap, ◌∙◌, subst, arith}
use Rattle.std.specs.Prelude.{map}
use Rattle.jm_values.specs.Shape.{Among}
use Rattle.jm_values.specs.Rename.{stack_shape}
use Rattle.jm_values.specs.Objects.{ObjectOf, cells_of}
use Rattle.jm_values.specs.Content.{IsSound, Kept, serials_of, object_at, name_of}
use Rattle.jm_heap.specs.Cells.{class_size, resident_cells}
use Rattle.jm_heap.specs.Collection.{IsAsBefore}
use Rattle.jm_heap.specs.declared.class_id.ClassId.{ClassId}
use Rattle.jm_heap.proofs.SoundLemmas.{refs_renamed}
use Rattle.jm_heap.proofs.CellLemmas.{cells_at}
use Rattle.jm_values.proofs.Among.{among_mapped}
use Rattle.jm_blocks.specs.Objects.{Object}
use Rattle.jm_gen_heap.specs.Generations.{Generations, lying}
use Rattle.jm_gen_heap.specs.Residents.{named, content_of}
use Rattle.jm_gen_heap.specs.Invariant.{AreGenerations, AreTold}
use Rattle.jm_gen_heap.proofs.Showing.{Shows, shows, sound_content}
use Rattle.jm_gen_heap.proofs.Reaching.{LiesAt}
use Rattle.jm_gen_heap.proofs.ResidentCells.{cells_covered, cells_alike}
use Rattle.jm_gen_heap.proofs.Lanes.{AreLaned, lanes}
use Rattle.jm_gen_heap.proofs.Carrying.{Carries, IsCarried, IsAllCarried, kept, as_before}
use Rattle.jm_gen_heap.proofs.Making.{shown}

-- what survives of generations lies in others, and nothing else does
pub record Survives (g h : Generations) (m : ℕ → ℕ) (S : ℕ → Type 0) : Type 0 where
  pub keeps : AreGenerations g
  pub laned : AreLaned h
  pub limit : h.limit ≡ g.limit
  pub next : h.next ≡ g.next
  pub carries : Carries (lying g) (lying h) m S
  pub all : IsAllCarried (lying h) m S

module _ {g h : Generations} {m : ℕ → ℕ} {S : ℕ → Type 0} (s : Survives g h m S) where
  -- where an object comes from
  pub record From (n : ℕ) (a : Object) : Type 0 where
    pub place : ℕ
    pub has : S place
    pub moved : m place ≡ n
    pub carried : IsCarried (lying g) (lying h) m place
    pub same : carried.new ≡ a

  pub from : (n : ℕ) (a : Object) → lying h n ≡ Some a → From n a
  from n a e =
      let r = s.all n a e in
      let x = s.carries.there r.0 r.1 in
      let both : Some x.new ≡ Some a = sym x.new_is ∙ ap (lying h) r.2 ∙ e in
      record { place = r.0; has = r.1; moved = r.2; carried = x; same = cc }

  serial_from : (n : ℕ) (a : Object) (x : From n a) → a.serial ≡ x.carried.old.serial
  serial_from n a x = ap (λ y. y.serial) (sym x.same) ∙ x.carried.serial

  pub told_after : AreTold h
  told_after = record {
    apart = λ p q a b e f same. let x = from p a e in let y = from q b f in sym x.moved ∙ ap m (s.keeps.told.apart x.place y.place x.carried.old y.carried.old x.carried.old_is y.carried.old_is (sym (serial_from p a x) ∙ same ∙ serial_from q b y)) ∙ y.moved;
    below = λ p a e. let x = from p a e in let low = s.keeps.told.below x.place x.carried.old x.carried.old_is in let serial = serial_from p a x in omega (arith, low, serial, s.next);
    closed = λ p q a e r. closed p q a (from p a e) r;
  }
    where
      closed : (p q : ℕ) (a : Object) → From p a → Among q (stack_shape.refs a.values) → LiesAt (lying h) q
      closed p q a x r =
          let here : Among q (stack_shape.refs x.carried.new.values) = subst (λ y. Among q (stack_shape.refs y.values)) (sym x.same) r in
          let mapped = among_mapped m q (stack_shape.refs x.carried.old.values) (subst (Among q) (ap stack_shape.refs x.carried.values ∙ refs_renamed m x.carried.old.values) here) in
          let y = s.carries.there mapped.0 (s.carries.over x.place mapped.0 x.carried.old x.has x.carried.old_is mapped.1) in
          (y.new, ap (lying h) mapped.2 ∙ y.new_is)

  pub shown_after : Shows (lying h) (content_of h)
  shown_after = shows h (lanes s.laned) told_after

  pub sound_after : IsSound (content_of h)
  sound_after = sound_content h (lanes s.laned) told_after

  limit_same : (content_of h).limit ≡ (content_of g).limit
  unfolding content_of
  limit_same = s.limit

  pub next_same : (content_of h).next ≡ (content_of g).next
  unfolding content_of
  next_same = s.next

  pub kept_after : (roots : List ℕ) → ((p : ℕ) → Among p roots → S p) → Kept (content_of g) roots (content_of h) (map m roots)
  kept_after roots r = kept (shown s.keeps) shown_after s.carries roots r limit_same sound_after

  pub before_after : IsAsBefore (content_of g) (content_of h)
  before_after = as_before (shown s.keeps) shown_after s.carries s.all

  -- the residents take no more cells
  pub fewer_cells : resident_cells (content_of h) ≤ resident_cells (content_of g)
  fewer_cells =
      let all = cells_covered (content_of h) (serials_of (content_of h).residents) sound_after sound_after.serials (λ k a. a) in
      let same = cells_alike (object_at (content_of h)) (object_at (content_of g)) (serials_of (content_of h).residents) alike in
      let most = cells_at (content_of g) (serials_of (content_of h).residents) sound_after.serials in
      omega (arith, all, same, most)
    where
      was : (k : ℕ) (x : Option (ObjectOf ClassId)) → object_at (content_of h) k ≡ x → Among k (serials_of (content_of h).residents) → cells_of class_size x ≡ cells_of class_size (object_at (content_of g) k)
      was k (Some x) e a = ap (cells_of class_size) (sym (before_after k x e))
      was k None e a =
          let r = shown_after.listed k a in
          let here = ap (object_at (content_of h)) (sym r.3) ∙ shown_after.objects r.0 r.1 r.2 in
          let both : None ≡ Some (named (name_of (content_of h)) r.1) = sym e ∙ here in
          cc

      alike : (k : ℕ) → Among k (serials_of (content_of h).residents) → cells_of class_size (object_at (content_of h) k) ≡ cells_of class_size (object_at (content_of g) k)
      alike k a = was k (object_at (content_of h) k) refl a
