-- What several objects are that were put into a nursery one after the other.
use Rattle.std.proofs.Common.{◌≡◌, ◌≢◌, ◌⊎◌, ℕ, zero, suc, ◌+◌, ◌<◌, ◌≤◌, ◌^◌, List, [], ◌∷◌, ◌++◌, Some, None, refl, sym, ap, ◌∙◌, subst, inl, inr, length, take, arith}
use Rattle.std.specs.Prelude.{Result, Ok, Err, IfOk, OnErr, map, slice_get, slice_index_or}
use Rattle.std.proofs.lemmas.Bool.Decides.{eqb_tells}
use Rattle.std.proofs.lemmas.List.Sums.{sum_by-cons}
use Rattle.std.proofs.lemmas.Option.{slice_get_within}
use Rattle.jm_values.specs.Rename.{stack_shape}
use Rattle.jm_values.specs.Objects.{ObjectOf, size_by}
use Rattle.jm_values.specs.Content.{Content, Kept, MadeAll, AllResident, AreAtEnd, object_at, serial_at, name_of}
use Rattle.jm_values.proofs.Renaming.{stack_is_shape}
use Rattle.jm_values.proofs.Lists.{some_there as there_at}
use Rattle.jm_heap.specs.Allocation.{AreRefused, AreRefusedHere, IsRefusedHere}
use Rattle.jm_heap.specs.Cells.{class_size}
use Rattle.jm_heap.specs.NewObject.{new_object}
use Rattle.jm_heap.specs.declared.shape.Shape.{Shape}
use Rattle.jm_heap.specs.Collection.{IsAsBefore, AreAsBeforeMaking}
use Rattle.jm_heap.specs.declared.class_id.ClassId.{ClassId}
use Rattle.jm_heap.specs.declared.fault.HeapFault.{HeapFault}
use Rattle.jm_heap.specs.declared.fault.HeapFault.TheVariants.{OutOfMemory, HeapFull, SerialsEnd}
use Rattle.jm_blocks.specs.Objects.{Object}
use Rattle.jm_nursery.specs.Nurseries.{nursery_at}
use Rattle.jm_copy.specs.Image.{bare}
use Rattle.jm_gen_heap.specs.Generations.{Generations, lying, all_cells}
use Rattle.jm_gen_heap.specs.Residents.{content_of}
use Rattle.jm_gen_heap.specs.Invariant.{AreGenerations}
use Rattle.jm_gen_heap.specs.Held.{IsPutNew}
use Rattle.jm_gen_heap.specs.Steps.{IsPut}
use Rattle.jm_gen_heap.specs.Allocating.{HasSurvived, OldStay}
use Rattle.jm_gen_heap.specs.Several.{IsAlike, IsPutAbove, AreFirstPut, AreAllPut, EndsInPut, IsAbove, IsBackBefore, all_sizes}
use Rattle.jm_gen_heap.proofs.Showing.{Told}
use Rattle.jm_gen_heap.proofs.Reaching.{LiesAt, resident_lies, serial_is}
use Rattle.jm_gen_heap.proofs.ResidentCells.{used_at_most}
use Rattle.jm_gen_heap.proofs.Carrying.{Carries, kept, carried_same}
use Rattle.jm_gen_heap.proofs.Making.{shown, sound, reached_below, plain_named, put_keeps}
use Rattle.jm_gen_heap.proofs.Following.{kept_twice, still_used}
use Rattle.jm_gen_heap.proofs.Allocating.{limit_of, next_of, object_was}
use Rattle.jm_gen_heap.proofs.Alike.{alike_content, alike_twice, alike_keeps, put_alike}
use Rattle.jm_program.proofs.Texts.{map_same as unnamed_map}
use Rattle.jm_program.proofs.Sequences.{got_last as at_end}

-- what is like what was put was put
pub first_alike : (g : Generations) (places : List ℕ) (n : ℕ) (xs : List (ObjectOf ClassId)) (k : ℕ) (h after : Generations) → AreFirstPut g places n xs k h → IsAlike h after → AreFirstPut g places n xs k after
first_alike g places n xs zero h after f a = alike_twice f a
first_alike g places n xs (suc k) h after f a = record {
  mid = f.mid;
  earlier = f.earlier;
  place = f.place;
  place_is = f.place_is;
  object = f.object;
  object_is = f.object_is;
  put = record {
    put = record { object = f.put.put.object; put = put_alike f.put.put.put a; fresh = f.put.put.fresh; shape = f.put.put.shape; nursery = f.put.put.nursery };
    above = f.put.above;
  };
}

-- each step keeps to what the generations do
pub first_keeps : (g : Generations) (places : List ℕ) (n : ℕ) (xs : List (ObjectOf ClassId)) (k : ℕ) (h : Generations) → AreGenerations g → AreFirstPut g places n xs k h → AreGenerations h
first_keeps g places n xs zero h v f = alike_keeps v f
first_keeps g places n xs (suc k) h v f =
    put_keeps (first_keeps g places n xs k f.mid v f.earlier) f.put.put.put f.put.put.fresh

still_in : (xs : List ℕ) (y i x : ℕ) → slice_get xs i ≡ Some x → slice_get (xs ++ y ∷ []) i ≡ Some x
still_in [] y i x e = cc
still_in (z ∷ xs) y zero x e = e
still_in (z ∷ xs) y (suc i) x e = still_in xs y i x e

first_longer : (g : Generations) (places : List ℕ) (p n : ℕ) (xs : List (ObjectOf ClassId)) (k : ℕ) (h : Generations) → AreFirstPut g places n xs k h → AreFirstPut g (places ++ p ∷ []) n xs k h
first_longer g places p n xs zero h f = f
first_longer g places p n xs (suc k) h f = record {
  mid = f.mid;
  earlier = first_longer g places p n xs k f.mid f.earlier;
  place = f.place;
  place_is = still_in places p k f.place f.place_is;
  object = f.object;
  object_is = f.object_is;
  put = f.put;
}

-- one more at the end
pub first_next : (g : Generations) (places : List ℕ) (p n : ℕ) (xs : List (ObjectOf ClassId)) (k : ℕ) (mid h : Generations) (x : ObjectOf ClassId) → AreFirstPut g places n xs k mid → length places ≡ k → slice_get xs k ≡ Some x → IsPutAbove mid h p n x → AreFirstPut g (places ++ p ∷ []) n xs (suc k) h
first_next g places p n xs k mid h x f many there put = record {
  mid = mid;
  earlier = first_longer g places p n xs k mid f;
  place = p;
  place_is = ap (slice_get (places ++ p ∷ [])) (sym many) ∙ at_end places p;
  object = x;
  object_is = there;
  put = put;
}

-- a new object lies at the place of a number
pub record LiesNew (g h : Generations) (n : ℕ) (xs : List (ObjectOf ClassId)) (i p : ℕ) : Type 0 where
  pub object : Object
  pub lies : lying h p ≡ Some object
  pub serial : object.serial ≡ g.next + i
  pub age : object.age ≡ 0
  pub plain : stack_shape.refs object.values ≡ []
  pub shape : slice_get xs i ≡ Some (bare object)
  pub nursery : nursery_at p ≡ Some n

-- the first so many are there, and what was there still is
pub record HaveFirst (g h : Generations) (places : List ℕ) (n : ℕ) (xs : List (ObjectOf ClassId)) (k : ℕ) : Type 0 where
  pub limit : h.limit ≡ g.limit
  pub next : h.next ≡ g.next + k
  pub still : (q : ℕ) (a : Object) → lying g q ≡ Some a → lying h q ≡ Some a
  pub lie : (i p : ℕ) → i < k → slice_get places i ≡ Some p → LiesNew g h n xs i p
  pub only : (q : ℕ) (a : Object) → lying h q ≡ Some a → (lying g q ≡ Some a) ⊎ (g.next ≤ a.serial)
  pub cells : all_cells h ≡ all_cells g + all_sizes (take k xs)

sizes_next : (xs : List (ObjectOf ClassId)) (k : ℕ) (x : ObjectOf ClassId) → slice_get xs k ≡ Some x → all_sizes (take (suc k) xs) ≡ all_sizes (take k xs) + size_by class_size x
sizes_next [] k x e = cc
sizes_next (y ∷ xs) zero x e =
    let one = sum_by-cons (size_by class_size) y [] in
    let same : y ≡ x = cc in
    let size = ap (size_by class_size) same in
    omega (arith, one, size)
sizes_next (y ∷ xs) (suc k) x e =
    let more = sizes_next xs k x e in
    let a = sum_by-cons (size_by class_size) y (take (suc k) xs) in
    let b = sum_by-cons (size_by class_size) y (take k xs) in
    omega (arith, more, a, b)

have_next : (g : Generations) (places : List ℕ) (n : ℕ) (xs : List (ObjectOf ClassId)) (k : ℕ) (h : Generations) (f : AreFirstPut g places n xs (suc k) h) → HaveFirst g f.mid places n xs k → HaveFirst g h places n xs (suc k)
have_next g places n xs k h f before = record {
  limit = put.limit ∙ before.limit;
  next = (let next = put.next in let old = before.next in omega (arith, next, old));
  still = λ q a e. still q a (before.still q a e);
  lie = λ i p low e. lie i p low e (eqb_tells i k);
  only = λ q a e. only q a e (eqb_tells q f.place);
  cells = cells;
}
  where
    o : Object
    o = f.put.put.object

    put : IsPut f.mid h f.place o
    put = f.put.put.put

    still : (q : ℕ) (a : Object) → lying f.mid q ≡ Some a → lying h q ≡ Some a
    still q a e = put.others q (λ t. let both : None ≡ Some a = sym put.fresh ∙ ap (lying f.mid) (sym t) ∙ e in cc) ∙ e

    lie : (i p : ℕ) → i < suc k → slice_get places i ≡ Some p → Told i k → LiesNew g h n xs i p
    lie i p low e (inl t) =
        let both : Some f.place ≡ Some p = sym f.place_is ∙ ap (slice_get places) (sym t.1) ∙ e in
        let same : f.place ≡ p = cc in
        let serial = f.put.put.fresh.serial in
        let next = before.next in
        subst (LiesNew g h n xs i) same (record {
          object = o;
          lies = put.here;
          serial = (omega (arith, serial, next, t.1));
          age = f.put.put.fresh.age;
          plain = f.put.put.fresh.plain;
          shape = ap (slice_get xs) t.1 ∙ f.object_is ∙ ap Some (sym f.put.put.shape);
          nursery = f.put.put.nursery;
        })
    lie i p low e (inr t) =
        let away : i ≢ k = t.1 in
        let l = before.lie i p (omega (arith, low, away)) e in
        record { object = l.object; lies = still p l.object l.lies; serial = l.serial; age = l.age; plain = l.plain; shape = l.shape; nursery = l.nursery }

    only : (q : ℕ) (a : Object) → lying h q ≡ Some a → Told q f.place → (lying g q ≡ Some a) ⊎ (g.next ≤ a.serial)
    only q a e (inl t) =
        let both : Some a ≡ Some o = sym e ∙ ap (lying h) t.1 ∙ put.here in
        let same : a ≡ o = cc in
        let serial : a.serial ≡ f.mid.next = ap (λ (y : Object). y.serial) same ∙ f.put.put.fresh.serial in
        let next = before.next in
        inr (omega (arith, serial, next))
    only q a e (inr t) = before.only q a (sym (put.others q t.1) ∙ e)

    cells : all_cells h ≡ all_cells g + all_sizes (take (suc k) xs)
    cells =
        let more = put.cells in
        let old = before.cells in
        let next = sizes_next xs k f.object f.object_is in
        let size = ap (size_by class_size) f.put.put.shape in
        omega (arith, more, old, next, size)

pub have_first : (g : Generations) (places : List ℕ) (n : ℕ) (xs : List (ObjectOf ClassId)) (k : ℕ) (h : Generations) → AreFirstPut g places n xs k h → HaveFirst g h places n xs k
have_first g places n xs zero h f = record {
  limit = f.limit;
  next = (let next = f.next in omega (arith, next));
  still = λ q a e. f.places q ∙ e;
  lie = λ i p low e. absurd (omega (arith, low));
  only = λ q a e. inl (sym (f.places q) ∙ e);
  cells = (let cells = f.cells in omega (arith, cells));
}
have_first g places n xs (suc k) h f = have_next g places n xs k h f (have_first g places n xs k f.mid f.earlier)

take_all : (xs : List (ObjectOf ClassId)) → take (length xs) xs ≡ xs
take_all [] = refl
take_all (x ∷ xs) = ap (λ l. x ∷ l) (take_all xs)

-- all are made, as every heap makes them
module _ {g h : Generations} (v : AreGenerations g) {places : List ℕ} {n : ℕ} {xs : List (ObjectOf ClassId)} (m : AreAllPut g h places n xs) where
  abbrev c : Content ClassId
  c = content_of g

  abbrev d : Content ClassId
  d = content_of h

  w : AreGenerations h
  w = first_keeps g places n xs (length xs) h v m.put

  first : HaveFirst g h places n xs (length xs)
  first = have_first g places n xs (length xs) h m.put

  carries : Carries (lying g) (lying h) (λ q. q) (LiesAt (lying g))
  carries = record {
    there = λ q s. record { old = s.0; old_is = s.1; new = s.0; new_is = first.still q s.0 s.1; serial = refl; class = refl; values = sym (stack_is_shape s.0.values).keeps };
    over = λ q r a s e k. v.told.closed q r a e k;
  }

  limit_same : d.limit ≡ c.limit
  limit_same = limit_of h ∙ first.limit ∙ sym (limit_of g)

  pub lies_new : (i p : ℕ) → slice_get places i ≡ Some p → LiesNew g h n xs i p
  lies_new i p e = let within = slice_get_within places i p e in let many = m.many in first.lie i p (omega (arith, within, many)) e

  placed : (i p : ℕ) → slice_get places i ≡ Some p → serial_at d p ≡ Some (c.next + i)
  placed i p e =
      let l = lies_new i p e in
      serial_is (shown w) p l.object l.lies ∙ ap Some (l.serial ∙ ap (λ k. k + i) (sym (next_of g)))

  filled : (i : ℕ) (x : ObjectOf ClassId) → slice_get xs i ≡ Some x → object_at d (c.next + i) ≡ Some x
  filled i x e =
      let within = slice_get_within xs i x e in
      let many = m.many in
      let at = there_at places i (omega (arith, within, many)) in
      let l = lies_new i at.0 at.1 in
      ap (object_at d) (ap (λ k. k + i) (next_of g) ∙ sym l.serial)
      ∙ (shown w).objects at.0 l.object l.lies
      ∙ ap Some (plain_named (name_of d) l.object l.plain)
      ∙ sym l.shape
      ∙ e

  sizes : all_cells h ≡ all_cells g + all_sizes xs
  sizes = first.cells ∙ ap (λ l. all_cells g + all_sizes l) (take_all xs)

  pub all_made : (roots : List ℕ) → AllResident c roots → MadeAll class_size c roots d roots places xs
  all_made roots r = record {
    kept = subst (λ l. Kept c roots d l) (unnamed_map roots) (kept (shown v) (shown w) carries roots (resident_lies (shown v) roots r) limit_same (sound w));
    next = next_of h ∙ first.next ∙ ap (λ k. k + length xs) (sym (next_of g));
    many = m.many;
    placed = placed;
    filled = filled;
    fits = (let used = used_at_most c roots (reached_below v roots r) in let counted = v.counted in let within = w.within in let limit = first.limit in let own = limit_of g in let more = sizes in omega (arith, used, counted, within, limit, own, more));
    lasts = (let lasts = m.lasts in let next = next_of g in omega (arith, lasts, next));
  }

  -- what was there is as it was
  pub all_still : (k : ℕ) (x : ObjectOf ClassId) → object_at c k ≡ Some x → object_at d k ≡ Some x
  all_still k x e =
      let r = (shown v).only k x e in
      subst (λ j. object_at d j ≡ object_at c j) r.3 (carried_same (shown v) (shown w) carries r.0 r.1 (r.1, r.2) r.2) ∙ e

  pub all_as_before : AreAsBeforeMaking c d
  all_as_before k x low e =
      let r = (shown w).only k x e in
      by r.0 r.1 r.3 (first.only r.0 r.1 r.2)
    where
      by : (q : ℕ) (a : Object) → a.serial ≡ k → (lying g q ≡ Some a) ⊎ (g.next ≤ a.serial) → object_at c k ≡ Some x
      by q a s (inl t) =
          sym (subst (λ j. object_at d j ≡ object_at c j) s (carried_same (shown v) (shown w) carries q a (a, t) t)) ∙ e
      by q a s (inr high) = let next = next_of g in absurd (omega (arith, low, next, high, s))

-- they are made after what was kept
pub all_after : (old mid new : Content ClassId) (roots moved places : List ℕ) (xs : List (ObjectOf ClassId)) → Kept old roots mid moved → mid.next ≡ old.next → MadeAll class_size mid moved new moved places xs → MadeAll class_size old roots new moved places xs
all_after old mid new roots moved places xs k next m = record {
  kept = kept_twice k new moved m.kept;
  next = m.next ∙ ap (λ j. j + length xs) next;
  many = m.many;
  placed = λ i p e. m.placed i p e ∙ ap (λ j. Some (j + i)) next;
  filled = λ i x e. ap (λ j. object_at new (j + i)) (sym next) ∙ m.filled i x e;
  fits = (let used = still_used k next in let limit = k.limit in let fits = m.fits in omega (arith, used, limit, fits));
  lasts = (let lasts = m.lasts in omega (arith, lasts, next));
}

pub all_before : (old mid new : Content ClassId) → mid.next ≡ old.next → IsAsBefore old mid → AreAsBeforeMaking mid new → AreAsBeforeMaking old new
all_before old mid new next a b k x low e = a k x (b k x (omega (arith, low, next)) e)

-- serials are at their end, and there is room
pub all_at_end : (g : Generations) → AreGenerations g → (xs : List (ObjectOf ClassId)) → all_cells g + all_sizes xs ≤ g.limit → 2 ^ 63 < g.next + length xs → (roots : List ℕ) → AllResident (content_of g) roots → AreAtEnd class_size (content_of g) roots xs
all_at_end g v xs room end roots r =
    let used = used_at_most (content_of g) roots (reached_below v roots r) in
    let counted = v.counted in
    let limit = limit_of g in
    let next = next_of g in
    (omega (arith, used, counted, room, limit), omega (arith, end, next))

-- why one of them was not made
pub next_refused : (g mid : Generations) (places : List ℕ) (n : ℕ) (xs : List (ObjectOf ClassId)) (k : ℕ) (x : ObjectOf ClassId) (f : HeapFault) → AreGenerations g → AreFirstPut g places n xs k mid → all_cells g + all_sizes xs ≤ g.limit → k < length xs → IsRefusedHere (content_of mid) x f → AreRefusedHere (content_of g) xs f
next_refused g mid places n xs k x OutOfMemory v p room low h = tt
next_refused g mid places n xs k x HeapFull v p room low h = absurd h
next_refused g mid places n xs k x SerialsEnd v p room low h =
    let end = (h [] (λ q a. absurd a)).1 in
    let next = next_of mid in
    let more = (have_first g places n xs k mid p).next in
    all_at_end g v xs room (omega (arith, end, next, more, low))

pub all_refused : (old mid : Content ClassId) (roots moved : List ℕ) (xs : List (ObjectOf ClassId)) (f : HeapFault) → Kept old roots mid moved → mid.next ≡ old.next → AreRefusedHere mid xs f → AreRefused old roots xs f
all_refused old mid roots moved xs OutOfMemory k next h = tt
all_refused old mid roots moved xs HeapFull k next h = absurd h
all_refused old mid roots moved xs SerialsEnd k next h =
    let at = h moved k.resident in
    let used = still_used k next in
    let limit = k.limit in
    (omega (arith, at.0, used, limit), omega (arith, at.1, next))

-- the next one fits: all of them do
pub next_fits : (g mid : Generations) (places : List ℕ) (n : ℕ) (xs : List (ObjectOf ClassId)) (k : ℕ) (x : ObjectOf ClassId) → AreFirstPut g places n xs k mid → all_cells g + all_sizes xs ≤ g.limit → slice_get xs k ≡ Some x → all_cells mid + size_by class_size x ≤ mid.limit
next_fits g mid places n xs k x p room e =
    let first = have_first g places n xs k mid p in
    let cells = first.cells in
    let limit = first.limit in
    let next = sizes_next xs k x e in
    let part = sizes_part xs (suc k) in
    omega (arith, cells, limit, next, part, room)
  where
    sizes_part : (ys : List (ObjectOf ClassId)) (j : ℕ) → all_sizes (take j ys) ≤ all_sizes ys
    sizes_part ys zero = omega arith
    sizes_part [] (suc j) = omega arith
    sizes_part (y ∷ ys) (suc j) =
        let rest = sizes_part ys j in
        let a = sum_by-cons (size_by class_size) y (take j ys) in
        let b = sum_by-cons (size_by class_size) y ys in
        omega (arith, rest, a, b)

-- the last step, and what is left without it
pub last_step : (g : Generations) (places : List ℕ) (n : ℕ) (xs : List (ObjectOf ClassId)) (k : ℕ) (h : Generations) → AreGenerations g → AreFirstPut g places n xs (suc k) h → EndsInPut h n
last_step g places n xs k h v f = (f.mid, f.place, f.object, first_keeps g places n xs k f.mid v f.earlier, f.put)

pub without_last : (g : Generations) (places : List ℕ) (n : ℕ) (xs : List (ObjectOf ClassId)) (k : ℕ) (h after : Generations) → AreGenerations g → AreFirstPut g places n xs (suc k) h → IsBackBefore h after n → AreFirstPut g places n xs k after
without_last g places n xs k h after v f back =
    first_alike g places n xs k f.mid after f.earlier (back f.mid f.place f.object (first_keeps g places n xs k f.mid v f.earlier) f.put)

-- an object of a list of shapes
pub shape_object : (shapes : List Shape) (i : ℕ) (d : Shape) → i < length shapes → slice_get (map new_object shapes) i ≡ Some (new_object (slice_index_or shapes i d))
shape_object [] i d h = absurd (omega (arith, h))
shape_object (s ∷ shapes) zero d h = refl
shape_object (s ∷ shapes) (suc i) d h = shape_object shapes i d (omega (arith, h))

pub many_objects : (shapes : List Shape) → length (map new_object shapes) ≡ length shapes
many_objects [] = refl
many_objects (s ∷ shapes) = ap suc (many_objects shapes)

-- one more, behind the places that there are
pub first_push : (g : Generations) (places : List ℕ) {more : List ℕ} {p n : ℕ} (xs : List (ObjectOf ClassId)) (k : ℕ) {mid h : Generations} {x : ObjectOf ClassId} → AreFirstPut g places n xs k mid → length places ≡ k → more ≡ places ++ p ∷ [] → slice_get xs k ≡ Some x → IsPutNew mid h p n x → IsAbove mid p n → AreFirstPut g more n xs (k + 1) h
first_push g places {more = more} {p = p} {n = n} xs k {mid = mid} {h = h} {x = x} f many e there put above =
    let one : suc k ≡ k + 1 = omega arith in
    subst (λ j. AreFirstPut g more n xs j h) one (subst (λ l. AreFirstPut g l n xs (suc k) h) (sym e) (first_next g places p n xs k mid h x f many there (record { put = put; above = above })))

-- a new object has survived none
pub new_age : {g h : Generations} {n : ℕ} {xs : List (ObjectOf ClassId)} {i p : ℕ} → LiesNew g h n xs i p → HasSurvived h p 0
new_age l a e =
    let both : Some l.object ≡ Some a = sym l.lies ∙ e in
    let same : l.object ≡ a = cc in
    ap (λ (o : Object). o.age) (sym same) ∙ l.age

-- whether all were made or none
module _ {T E : Type 0} (r : Result T E) (places : T → List ℕ) (g h : Generations) (v : AreGenerations g) (n : ℕ) (xs : List (ObjectOf ClassId)) where
  pub tried_before : (old : Content ClassId) → (content_of g).next ≡ old.next → IsAsBefore old (content_of g) → IfOk r (λ x. AreAllPut g h (places x) n xs) → OnErr r (IsAlike g h) → AreAsBeforeMaking old (content_of h)
  tried_before old next before ok err = by r ok err
    where
      by : (s : Result T E) → IfOk s (λ x. AreAllPut g h (places x) n xs) → OnErr s (IsAlike g h) → AreAsBeforeMaking old (content_of h)
      by (Ok x) put b = all_before old (content_of g) (content_of h) next before (all_as_before v put)
      by (Err x) put b = λ k o low e. before k o (ap (λ c. object_at c k) (sym (alike_content v b)) ∙ e)

  pub tried_stays : (first : Generations) (cells : ℕ) → AreGenerations first → OldStay first g cells → IfOk r (λ x. AreAllPut g h (places x) n xs) → OnErr r (IsAlike g h) → OldStay first h cells
  tried_stays first cells w stays ok err = by r ok err
    where
      by : (s : Result T E) → IfOk s (λ x. AreAllPut g h (places x) n xs) → OnErr s (IsAlike g h) → OldStay first h cells
      by (Ok x) put b = λ fits k old.
          let was = object_was first w k old in
          all_still v put k was.0 (stays fits k old ∙ was.1) ∙ sym was.1
      by (Err x) put b = λ fits k old. ap (λ c. object_at c k) (alike_content v b) ∙ stays fits k old
