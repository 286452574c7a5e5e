-- What stays of a copier's own stores.
use Rattle.std.proofs.Common.{◌≡◌, ◌≢◌, ◌⊎◌, ℕ, zero, suc, ◌+◌, ◌-◌, ◌<◌, ◌≤◌, ◌%◌, List, [], ◌∷◌, ◌++◌, Some, None, true, false, cond, refl, sym, ap, ◌∙◌, subst, inl, inr, length, replicate, arith, length-append}
use Rattle.std.specs.Prelude.{get_or, slice_get, nat_eq}
use Rattle.std.proofs.lemmas.Bool.Decides.{eqb_tells}
use Rattle.std.proofs.lemmas.List.{length-set, length-replicate}
use Rattle.std.proofs.lemmas.Option.{slice_get_within, get_or_from_slice_get}
use Rattle.std.proofs.Math.Nat.{add-mod_right}
use Rattle.jm_blocks.specs.Objects.{Object}
use Rattle.jm_blocks.specs.Cells.{object_cells}
use Rattle.jm_blocks.specs.Places.{lane_of, block_of, index_of, place_at}
use Rattle.jm_blocks.specs.Stores.{Blocks, objects_in, object_of_list, HasObject, IsEmpty, last_has_room, list_has_room, last_of, next_place, store_with, with_object, Bumped}
use Rattle.jm_blocks.proofs.Placing.{block_put, lane_put, lies_in, parts}
use Rattle.jm_blocks.proofs.Filling.{fill_last, last_is, next_last, with_object_last}
use Rattle.jm_blocks.proofs.Sizes.{few_where_room}
use Rattle.jm_copy.specs.Copying.{IsAdded, IsReplaced}
use Rattle.jm_copy.specs.Copies.{made, made_in, HasMade, IsPutIn, Stays, is_above, store_for}
use Rattle.jm_copy.specs.Survivals.{survival_of}
use Rattle.jm_copy.specs.declared.survival.Survival.{Survival}
use Rattle.jm_copy.specs.declared.survival.Survival.TheVariants.{First, Later}
use Rattle.jm_copy.specs.declared.copies.Copies.{Copies}
use Rattle.jm_blocks.proofs.Lists.{no_blocks as no_blocks_at}
use Rattle.jm_par_copy.specs.Strides.{owner_of, EndsOwn, OwnsEnds, IsAhead, IsNewOf, Longer, Goes, Opens, Opened, IsReserved, IsReservedIn, SameLengths}

pub longer_refl : (n : ℕ) (s : Blocks) → Longer n s s
longer_refl n s = record { longer = omega arith; ends = λ x e. e }

pub longer_more : (n : ℕ) (s t u : Blocks) → Longer n s t → Longer n t u → Longer n s u
longer_more n s t u f g = let a = f.longer in let b = g.longer in record { longer = omega (arith, a, b); ends = λ x e. g.ends x (f.ends x e) }

-- as many blocks as before
pub longer_same : (n : ℕ) (s t : Blocks) → length t.lists ≡ length s.lists → Longer n s t
longer_same n s t e = record {
  longer = omega (arith, e);
  ends = λ x f. record { some = let some = f.some in omega (arith, some, e); own = ap (λ k. (k - 1) % n) e ∙ f.own };
}

-- what is new was new before
pub new_before : (x n : ℕ) (c d : Copies) (m : ℕ) → Stays c d → Goes x n c d → IsNewOf x n d m → IsNewOf x n c m
new_before x n c d m s g (inl h) = let more = g.young.longer in inl (h.0 ∙ s.young_lane, (λ q there. h.1 q (s.young_there q there)), omega (arith, more, h.2), h.3)
new_before x n c d m s g (inr h) = let more = g.old.longer in inr (h.0 ∙ s.old_lane, (λ q there. h.1 q (s.old_there q there)), omega (arith, more, h.2), h.3)

pub goes_refl : (x n : ℕ) (c : Copies) → Goes x n c c
goes_refl x n c = record { young = longer_refl n c.young; old = longer_refl n c.tenured; made = λ p a e. inl (a, e) }

pub goes_more : (x n : ℕ) (c d e : Copies) → Stays c d → Goes x n c d → Goes x n d e → Goes x n c e
goes_more x n c d e s f g = record {
  young = longer_more n c.young d.young e.young f.young g.young;
  old = longer_more n c.tenured d.tenured e.tenured f.old g.old;
  made = λ p a i. by p (g.made p a i);
}
  where
    by : (p : ℕ) → HasMade d p ⊎ IsNewOf x n d p → HasMade c p ⊎ IsNewOf x n c p
    by p (inl h) = f.made p h.0 h.1
    by p (inr h) = inr (new_before x n c d p s f h)

pub ends_go : (x n : ℕ) (c d : Copies) → Goes x n c d → OwnsEnds x n c → OwnsEnds x n d
ends_go x n c d g o = record { copier = o.copier; young = g.young.ends x o.young; old = g.old.ends x o.old }

-- the same by other numbers that are equal
pub goes_as : (x n y m : ℕ) (c d : Copies) → y ≡ x → m ≡ n → Goes y m c d → Goes x n c d
goes_as x n y m c d e f g = subst (λ i. Goes i n c d) e (subst (λ i. Goes y i c d) f g)

pub ends_as : (x n y m : ℕ) (c : Copies) → y ≡ x → m ≡ n → OwnsEnds x n c → OwnsEnds y m c
ends_as x n y m c e f o = subst (λ i. OwnsEnds i m c) (sym e) (subst (λ i. OwnsEnds x i c) (sym f) o)

-- empty blocks hold no object
empties : (k b i : ℕ) → object_of_list (slice_get (replicate k []) b) i ≡ None
empties zero b i = refl
empties (suc k) zero i = refl
empties (suc k) (suc b) i = empties k b i

with_empties : (bs : List (List Object)) (k b i : ℕ) → object_of_list (slice_get (bs ++ replicate k []) b) i ≡ object_of_list (slice_get bs b) i
with_empties [] k b i = empties k b i
with_empties (x ∷ bs) k zero i = refl
with_empties (x ∷ bs) k (suc b) i = with_empties bs k b i

pub open_same : (s : Blocks) (k p : ℕ) → objects_in (record { lane = s.lane; lists = s.lists ++ replicate k [] }) p ≡ objects_in s p
unfolding objects_in
open_same s k p = ap (λ x. cond (nat_eq (lane_of p) s.lane) x None) (with_empties s.lists k (block_of p) (index_of p))

-- so many blocks as there are copiers are opened
pub opens : (n : ℕ) (s t : Blocks) → 0 < n → t ≡ record { lane = s.lane; lists = s.lists ++ replicate n [] } → Opens n s t
opens n s t some e = subst (λ u. Opens n s u) (sym e) (record {
  lane = refl;
  same = open_same s n;
  longer = record {
    longer = omega (arith, many);
    ends = λ x f. let was = f.some in record { some = omega (arith, many, was); own = turn x f };
  };
})
  where
    many : length (s.lists ++ replicate n []) ≡ length s.lists + n
    many = length-append s.lists (replicate n []) ∙ ap (λ k. length s.lists + k) (length-replicate n [])

    turn : (x : ℕ) → EndsOwn x n s → (length (s.lists ++ replicate n []) - 1) % n ≡ x
    turn x f =
        let was = f.some in
        let at : length (s.lists ++ replicate n []) - 1 ≡ (length s.lists - 1) + n = omega (arith, many, was) in
        ap (λ k. k % n) at ∙ add-mod_right (length s.lists - 1) n ∙ f.own

pub opens_refl : (n : ℕ) (s : Blocks) → Opens n s s
opens_refl n s = record { lane = refl; same = λ p. refl; longer = longer_refl n s }

module _ (n : ℕ) (c d : Copies) (o : Opened n c d) where
  pub opened_made : (p : ℕ) → made d p ≡ made c p
  unfolding made_in
  opened_made p =
      ap (λ l. cond (nat_eq (lane_of p) l) (objects_in d.young p) (cond (is_above d.kept p) (objects_in d.tenured p) None)) o.young.lane
      ∙ ap (λ x. cond (nat_eq (lane_of p) c.young.lane) x (cond (is_above d.kept p) (objects_in d.tenured p) None)) (o.young.same p)
      ∙ ap (λ x. cond (nat_eq (lane_of p) c.young.lane) (objects_in c.young p) (cond (is_above d.kept p) x None)) (o.old.same p)
      ∙ ap (λ m. cond (nat_eq (lane_of p) c.young.lane) (objects_in c.young p) (cond (is_above m p) (objects_in c.tenured p) None)) o.kept

  pub opened_stays : Stays c d
  opened_stays = record {
    kept = o.kept;
    young_lane = o.young.lane;
    old_lane = o.old.lane;
    young_there = λ p h. (h.0, o.young.same p ∙ h.1);
    old_there = λ p h. (h.0, o.old.same p ∙ h.1);
    below = λ p e. o.old.same p;
  }

  pub opened_goes : (x : ℕ) → Goes x n c d
  opened_goes x = record { young = o.young.longer; old = o.old.longer; made = λ p a e. inl (a, sym (opened_made p) ∙ e) }

-- an object is put where a place was new
pub put_goes : (x n : ℕ) (c d : Copies) (p : ℕ) (a : Object) → IsAdded (made c) (made d) p a → SameLengths c d → IsNewOf x n c p → Goes x n c d
put_goes x n c d p a added many new = record {
  young = longer_same n c.young d.young many.0;
  old = longer_same n c.tenured d.tenured many.1;
  made = λ q b e. by q b e (eqb_tells q p);
}
  where
    by : (q : ℕ) (b : Object) → made d q ≡ Some b → ((nat_eq q p ≡ true) × (q ≡ p)) ⊎ ((nat_eq q p ≡ false) × (q ≢ p)) → HasMade c q ⊎ IsNewOf x n c q
    by q b e (inl h) = inr (subst (λ m. IsNewOf x n c m) (sym h.1) new)
    by q b e (inr h) = inl (b, sym (added.others q h.1) ∙ e)

-- a reserved place is new, and the copier's
reserved_ahead : (x n : ℕ) (s : Blocks) (cells p : ℕ) → EndsOwn x n s → IsReservedIn s cells p → IsAhead x n s p
reserved_ahead x n s cells p f r =
    let some = f.some in
    let last = r.last in
    let at : block_of p ≡ length s.lists - 1 = omega (arith, last, some) in
    (r.lane, r.past, omega (arith, last), ap (λ k. k % n) at ∙ f.own)

pub reserved_new : (x n : ℕ) (c : Copies) (cells p : ℕ) (s : Survival) → OwnsEnds x n c → IsReservedIn (store_for c s) cells p → IsNewOf x n c p
reserved_new x n c cells p First f r = inl (reserved_ahead x n c.young cells p f.young r)
reserved_new x n c cells p Later f r = inr (reserved_ahead x n c.tenured cells p f.old r)

pub new_is_own : (x n : ℕ) (c : Copies) (p : ℕ) → IsNewOf x n c p → owner_of n p ≡ x
new_is_own x n c p (inl h) = h.3
new_is_own x n c p (inr h) = h.3

-- the next place of a store whose last block has room
pub reserved_in : (s : Blocks) (cells p : ℕ) → s.lane < 64 → 2 ≤ cells → last_has_room s.lists cells ≡ true → p ≡ next_place s cells → IsReservedIn s cells p
reserved_in s cells p lane two room e =
    let last = last_is s.lists cells room in
    let few = few_where_room last.0 cells last.2 two in
    let within = slice_get_within s.lists (length s.lists - 1) last.0 last.1 in
    let at : p ≡ place_at s.lane (length s.lists - 1) (length last.0) = e ∙ sym (next_last s cells last.0 room last.1) in
    let block : block_of p ≡ length s.lists - 1 = ap block_of at ∙ block_put s.lane (length s.lists - 1) (length last.0) lane few in
    record {
      lane = ap lane_of at ∙ lane_put s.lane (length s.lists - 1) (length last.0) lane few;
      past = λ q h. past last.0 last.1 few at q h (eqb_tells (block_of q) (length s.lists - 1));
      room = room;
      place = e;
      last = omega (arith, block, within);
    }
  where
    past : (os : List Object) → last_of s.lists ≡ Some os → length os < 256 → p ≡ place_at s.lane (length s.lists - 1) (length os) → (q : ℕ) → HasObject s q → ((nat_eq (block_of q) (length s.lists - 1) ≡ true) × (block_of q ≡ length s.lists - 1)) ⊎ ((nat_eq (block_of q) (length s.lists - 1) ≡ false) × (block_of q ≢ length s.lists - 1)) → q < p
    past os is few at q h (inl g) =
        let that = lies_in s q h.0 h.1 in
        let own : Some that.block ≡ Some os = sym that.block_is ∙ ap (slice_get s.lists) g.1 ∙ is in
        let same : that.block ≡ os = cc in
        let many : length that.block ≡ length os = ap length same in
        let inside = slice_get_within that.block (index_of q) h.0 that.object_is in
        let whole = parts q in
        let here = g.1 in
        let on = that.lane in
        omega (arith, inside, many, whole, here, on, at)
    past os is few at q h (inr g) =
        let that = lies_in s q h.0 h.1 in
        let inside = slice_get_within s.lists (block_of q) that.block that.block_is in
        let other = g.1 in
        let whole = parts q in
        let on = that.lane in
        let less : block_of q < length s.lists - 1 = omega (arith, inside, other) in
        omega (arith, less, whole, on, at)

-- the last block of a store, if it has room, has fewer objects than a block may have
pub last_few : (s : Blocks) (cells : ℕ) (os : List Object) → last_has_room s.lists cells ≡ true → 2 ≤ cells → last_of s.lists ≡ Some os → length os < 256
last_few s cells os room two at =
    let last = last_is s.lists cells room in
    let both : Some last.0 ≡ Some os = sym last.1 ∙ at in
    let same : last.0 ≡ os = cc in
    subst (λ (xs : List Object). length xs < 256) same (few_where_room last.0 cells last.2 two)

-- the place above these is the next one
pub above_last : (s : Blocks) (cells p : ℕ) (os : List Object) → s.lane < 64 → last_has_room s.lists cells ≡ true → 2 ≤ cells → last_of s.lists ≡ Some os → p ≡ place_at s.lane (length s.lists - 1) (length os) → IsReservedIn s cells p
above_last s cells p os lane room two at e = reserved_in s cells p lane two room (e ∙ next_last s cells os room at)

-- an object that has room leaves as many blocks
pub as_many : (bs : List (List Object)) (o : Object) → last_has_room bs (object_cells o) ≡ true → length (with_object bs o) ≡ length bs
as_many bs o room = ap length (with_object_last bs o room) ∙ length-set bs (length bs - 1) _

pub lane_below : (p : ℕ) → lane_of p < 64
lane_below p = omega arith

-- an object whose place is reserved in a store is put there
pub lands : (s t : Blocks) (p : ℕ) (o : Object) → IsReservedIn s (object_cells o) p → t ≡ store_with s o → IsPutIn s t p o
lands s t p o r e =
    let last = last_is s.lists (object_cells o) r.room in
    let read : last.0 ≡ get_or s.lists (length s.lists - 1) last.0 = sym (get_or_from_slice_get s.lists (length s.lists - 1) last.0 last.0 last.1) in
    let below = lane_below p in
    let lane : s.lane < 64 = let at = r.lane in omega (arith, below, at) in
    let filled = fill_last s s (length s.lists) last.0 (last.0 ++ o ∷ []) o refl refl lane read r.room refl in
    let bumped : Bumped s t (next_place s (object_cells o)) o = subst (λ u. Bumped s u (next_place s (object_cells o)) o) (filled.blocks ∙ sym e) filled.bumped in
    record { bumped = subst (λ q. Bumped s t q o) (sym r.place) bumped; lane = r.lane; same = ap (λ (u : Blocks). u.lane) e }

abbrev empty_blocks : ℕ → List (List Object)
empty_blocks k = replicate k []

-- the last of some opened blocks has room
pub opened_room : (bs : List (List Object)) (n cells : ℕ) → 0 < n → last_has_room (bs ++ replicate n []) cells ≡ true
opened_room bs n cells some = ap (λ x. list_has_room x cells) (last_is_empty bs n some)
  where
    in_empties : (k i : ℕ) → i < k → slice_get (empty_blocks k) i ≡ Some []
    in_empties zero i h = absurd (omega arith)
    in_empties (suc k) zero h = refl
    in_empties (suc k) (suc i) h = in_empties k i (omega arith)

    past : (cs : List (List Object)) (k i : ℕ) → i < k → slice_get (cs ++ replicate k []) (length cs + i) ≡ Some []
    past [] k i h = let at : 0 + i ≡ i = omega arith in ap (slice_get (empty_blocks k)) at ∙ in_empties k i h
    past (x ∷ cs) k i h = let at : length (x ∷ cs) + i ≡ suc (length cs + i) = omega arith in ap (slice_get ((x ∷ cs) ++ empty_blocks k)) at ∙ past cs k i h

    last_is_empty : (cs : List (List Object)) (k : ℕ) → 0 < k → last_of (cs ++ replicate k []) ≡ Some []
    last_is_empty cs k h =
        let many : length (cs ++ replicate k []) ≡ length cs + k = length-append cs (replicate k []) ∙ ap (λ m. length cs + m) (length-replicate k []) in
        let at : length (cs ++ replicate k []) - 1 ≡ length cs + (k - 1) = omega (arith, many, h) in
        ap (slice_get (cs ++ replicate k [])) at ∙ past cs k (k - 1) (omega (arith, h))

-- what is known after a reservation
pub record Ready (x n : ℕ) (c d : Copies) (p : ℕ) : Type 0 where
  pub opened : Opened n c d
  pub stays : Stays c d
  pub goes : Goes x n c d
  pub new : IsNewOf x n d p
  pub before : IsNewOf x n c p

pub ready : (x n m : ℕ) (c d : Copies) (a : Object) (p : ℕ) → m ≡ n → OwnsEnds x n c → Opened m c d → IsReserved d a p → Ready x n c d p
ready x n m c d a p e ends o r =
    let opened = subst (λ k. Opened k c d) e o in
    let stays = opened_stays n c d opened in
    let goes = opened_goes n c d opened x in
    let new = reserved_new x n d (object_cells a) p (survival_of a.age) (ends_go x n c d goes ends) r in
    record { opened = opened; stays = stays; goes = goes; new = new; before = new_before x n c d p stays goes new }

-- a value of an object that was made is another
pub set_goes : (x n : ℕ) (c d : Copies) (p : ℕ) (b : Object) → HasMade c p → IsReplaced (made c) (made d) p b → SameLengths c d → Goes x n c d
set_goes x n c d p b there replaced many = record {
  young = longer_same n c.young d.young many.0;
  old = longer_same n c.tenured d.tenured many.1;
  made = λ q a e. by q a e (eqb_tells q p);
}
  where
    by : (q : ℕ) (a : Object) → made d q ≡ Some a → ((nat_eq q p ≡ true) × (q ≡ p)) ⊎ ((nat_eq q p ≡ false) × (q ≢ p)) → HasMade c q ⊎ IsNewOf x n c q
    by q a e (inl h) = inl (there.0, ap (made c) h.1 ∙ there.1)
    by q a e (inr h) = inl (a, sym (replaced.others q h.1) ∙ e)

-- after a call that was made later
pub goes_on : (x n y m : ℕ) (c d e : Copies) → y ≡ x → m ≡ n → Stays c d → Goes x n c d → Goes y m d e → Goes x n c e
goes_on x n y m c d e f g s a b = goes_more x n c d e s a (goes_as x n y m d e f g b)

pub ends_on : (x n y m : ℕ) (c d : Copies) → y ≡ x → m ≡ n → Goes x n c d → OwnsEnds x n c → OwnsEnds y m d
ends_on x n y m c d f g a o = ends_as x n y m d f g (ends_go x n c d a o)

-- a store of empty blocks alone
abbrev only_empty : ℕ → ℕ → Blocks
only_empty lane k = record { lane = lane; lists = replicate k [] }

pub opened_empty : (s : Blocks) (lane k : ℕ) → s ≡ record { lane = lane; lists = replicate k [] } → IsEmpty s
opened_empty s lane k e = subst IsEmpty (sym e) (λ p. open_same (record { lane = lane; lists = [] }) k p ∙ no_blocks_at lane p)

pub first_opened : (s : Blocks) (lane x n last : ℕ) → last % n ≡ x → s ≡ record { lane = lane; lists = replicate (last + 1) [] } → EndsOwn x n s
first_opened s lane x n last own e = subst (λ t. EndsOwn x n t) (sym e) (record { some = omega (arith, many); own = turn })
  where
    many : length (only_empty lane (last + 1)).lists ≡ last + 1
    many = length-replicate (last + 1) []

    turn : (length (only_empty lane (last + 1)).lists - 1) % n ≡ x
    turn =
        let at : length (only_empty lane (last + 1)).lists - 1 ≡ last = omega (arith, many) in
        ap (λ k. k % n) at ∙ own
