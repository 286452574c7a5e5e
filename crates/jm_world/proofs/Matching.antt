-- A machine that matches a world reaches what the world reaches.
use Rattle.std.proofs.Common.{◌≡◌, ℕ, List, [], ◌∷◌, ◌++◌, Option, Some, None, refl, sym, ap, ◌∙◌, subst, length}
use Rattle.std.specs.Prelude.{map, slice_get, option_map}
use Rattle.jm_values.specs.Shape.{Shape, IsShape, list_shape}
use Rattle.jm_values.proofs.Shapes.{list_is_shape}
use Rattle.jm_values.specs.Objects.{ObjectOf, refs_of, cells_of}
use Rattle.jm_values.specs.Reach.{Reach, reached_cells}
use Rattle.jm_world.specs.Objects.{Object, size_of}
use Rattle.jm_world.specs.World.{World, roots, reach_cells}
use Rattle.jm_values.specs.Content.{name_of, object_at, used_by, Reached}
use Rattle.jm_world.specs.Renaming.{thread_shape, static_shape, monitor_shape, literal_shape}
use Rattle.jm_world.specs.Matches.{Parts, places, as_named, Matches, ReachesAlike}
use Rattle.jm_values.proofs.Agreeing.{cells_agree, reach_agree}
use Rattle.jm_world.proofs.ShapesOfParts.{thread_is_shape, static_is_shape, monitor_is_shape, literal_is_shape}

map_append : (f : ℕ → ℕ) (xs ys : List ℕ) → map f (xs ++ ys) ≡ map f xs ++ map f ys
map_append f [] ys = refl
map_append f (x ∷ xs) ys = ap (λ l. f x ∷ l) (map_append f xs ys)

-- the references of a list of parts, renamed, are those of the renamed parts
pub listed : {A : Type 0} (s : Shape A) → IsShape A s → (f : ℕ → ℕ) (xs ys : List A) → (list_shape s).rename f xs ≡ ys → map f ((list_shape s).refs xs) ≡ (list_shape s).refs ys
listed s l f xs ys e = sym ((list_is_shape s l xs).renamed f) ∙ ap (list_shape s).refs e

pub join : (f : ℕ → ℕ) (a b c d as' bs cs ds : List ℕ) → map f a ≡ as' → map f b ≡ bs → map f c ≡ cs → map f d ≡ ds → map f (a ++ b ++ c ++ d) ≡ as' ++ bs ++ cs ++ ds
join f a b c d as' bs cs ds p q r s =
    map_append f (a ++ b ++ c) d
    ∙ ap (λ l. l ++ map f d) (map_append f (a ++ b) c ∙ ap (λ l. l ++ map f c) (map_append f a b))
    ∙ ap (λ l. map f a ++ map f b ++ map f c ++ l) s
    ∙ ap (λ l. map f a ++ map f b ++ l ++ ds) r
    ∙ ap (λ l. map f a ++ l ++ cs ++ ds) q
    ∙ ap (λ l. l ++ bs ++ cs ++ ds) p

-- the roots of a world are the names of the places of parts that it has by their names
pub roots_named : {T : Type 0} (m : Parts T) (w : World) → (list_shape thread_shape).rename (name_of m.content) m.threads ≡ w.threads
    → (list_shape static_shape).rename (name_of m.content) m.statics ≡ w.statics → (list_shape monitor_shape).rename (name_of m.content) m.monitors ≡ w.monitors
    → (list_shape literal_shape).rename (name_of m.content) m.literals ≡ w.literals → map (name_of m.content) (places m) ≡ roots w
roots_named m w threads statics monitors literals = join (name_of m.content)
    ((list_shape thread_shape).refs m.threads) ((list_shape static_shape).refs m.statics) ((list_shape monitor_shape).refs m.monitors) ((list_shape literal_shape).refs m.literals)
    ((list_shape thread_shape).refs w.threads) ((list_shape static_shape).refs w.statics) ((list_shape monitor_shape).refs w.monitors) ((list_shape literal_shape).refs w.literals)
    (listed thread_shape thread_is_shape (name_of m.content) m.threads w.threads threads)
    (listed static_shape static_is_shape (name_of m.content) m.statics w.statics statics)
    (listed monitor_shape monitor_is_shape (name_of m.content) m.monitors w.monitors monitors)
    (listed literal_shape literal_is_shape (name_of m.content) m.literals w.literals literals)

module _ {T : Type 0} (m : Parts T) (w : World) (h : Matches m w) where
  pub roots_are : map (name_of m.content) (places m) ≡ roots w
  roots_are = roots_named m w h.threads h.statics h.monitors h.literals

  refs_alike : (o : Option (ObjectOf T)) (p : Option Object) → option_map (as_named m.named) o ≡ p → refs_of p ≡ refs_of o
  refs_alike None p e = ap refs_of (sym e)
  refs_alike (Some o) p e = ap refs_of (sym e)

  cells_alike : (o : Option (ObjectOf T)) (p : Option Object) → option_map (as_named m.named) o ≡ p → cells_of size_of p ≡ cells_of (λ t. size_of (m.named t)) o
  cells_alike None p e = ap (cells_of size_of) (sym e)
  cells_alike (Some o) p e = ap (cells_of size_of) (sym e)

  refs_where_reached : (k : ℕ) → Reach (slice_get w.heap) (roots w) k → refs_of (slice_get w.heap k) ≡ refs_of (object_at m.content k)
  refs_where_reached k r = refs_alike (object_at m.content k) (slice_get w.heap k) (h.objects k r)

  cells_are : used_by (λ t. size_of (m.named t)) m.content (places m) ≡ reach_cells w
  unfolding reach_cells
  cells_are =
      ap (λ n. reached_cells (λ t. size_of (m.named t)) n (object_at m.content) (map (name_of m.content) (places m))) h.next
      ∙ ap (λ l. reached_cells (λ t. size_of (m.named t)) (length w.heap) (object_at m.content) l) roots_are
      ∙ sym (cells_agree size_of (λ t. size_of (m.named t)) (slice_get w.heap) (object_at m.content) (length w.heap) (roots w) refs_where_reached
      (λ k r. cells_alike (object_at m.content k) (slice_get w.heap k) (h.objects k r)))

  reached_in_world : (k : ℕ) → Reached m.content (places m) k → Reach (slice_get w.heap) (roots w) k
  reached_in_world k r = reach_agree (slice_get w.heap) (object_at m.content) (roots w) refs_where_reached k (subst (λ l. Reach (object_at m.content) l k) roots_are r)

  reached_in_machine : (k : ℕ) → Reach (slice_get w.heap) (roots w) k → Reached m.content (places m) k
  reached_in_machine k r = subst (λ l. Reach (object_at m.content) l k) (sym roots_are) (reach_agree (object_at m.content) (slice_get w.heap) (roots w) (λ j s. sym (refs_where_reached j (reach_agree (slice_get w.heap) (object_at m.content) (roots w) refs_where_reached j s))) k r)

  pub reaches_alike : ReachesAlike m w
  reaches_alike = record { same = λ k. (reached_in_world k, reached_in_machine k); cells = cells_are }
