-- With all values forwarded and all roots, the new objects are the image of the old.
use Rattle.std.proofs.Common.{◌≡◌, ℕ, ◌<◌, List, Option, Some, None, refl, sym, ap, ◌∙◌, subst, length, arith}
use Rattle.std.specs.Prelude.{MatchOption, option_map, unwrap_or, map}
use Rattle.std.proofs.lemmas.Option.{slice_get_within}
use Rattle.std.proofs.lemmas.List.{length-map}
use Rattle.jm_values.specs.Objects.{refs_of}
use Rattle.jm_values.specs.Rename.{rename}
use Rattle.jm_values.specs.Shape.{Among}
use Rattle.jm_values.specs.Reach.{Reach, root, field}
use Rattle.jm_values.specs.declared.value.Value.{Value}
use Rattle.jm_values.specs.declared.value.Value.TheVariants.{Int, Long, Null, Ref}
use Rattle.jm_values.proofs.Lists.{get_there}
use Rattle.jm_values.proofs.Among.{index_among}
use Rattle.jm_blocks.specs.Objects.{Object}
use Rattle.jm_copy.specs.Image.{IsImage, bare, bare_at, older, renamed, copy_of}
use Rattle.jm_copy.specs.Copying.{Forwarded, ForwardedValue, IsCopy, HasCopy, Copying, Progress, AreForwarded, IsScanned, Moves}
use Rattle.jm_copy.proofs.Listed.{mapped_at, same_lists, at_ref}

-- a forwarded place is the renamed one
place_renamed : (old : ℕ → Option Object) (m : ℕ → Option ℕ) (p q : ℕ) → ((r n : ℕ) → m r ≡ Some n → (o : Object) × (old r ≡ Some o)) → Forwarded old (Moves m) p q → q ≡ renamed m p
place_renamed old m p q in_old f = by (old p) refl f (m p) refl
  where
    by : (x : Option Object) → old p ≡ x → Forwarded old (Moves m) p q → (y : Option ℕ) → m p ≡ y → q ≡ renamed m p
    by None e h None i = subst (λ x. MatchOption x (q ≡ p) (λ _. m p ≡ Some q)) e h ∙ sym (ap (λ x. unwrap_or x p) i)
    by None e h (Some n) i = let o = in_old p n i in let both : None ≡ Some o.0 = sym e ∙ o.1 in cc
    by (Some o) e h y i = sym (ap (λ x. unwrap_or x p) (subst (λ x. MatchOption x (q ≡ p) (λ _. m p ≡ Some q)) e h))

value_renamed : (old : ℕ → Option Object) (m : ℕ → Option ℕ) (v w : Value) → ((r n : ℕ) → m r ≡ Some n → (o : Object) × (old r ≡ Some o)) → ForwardedValue old (Moves m) v w → w ≡ rename (renamed m) v
value_renamed old m Null w g f = f
value_renamed old m (Int i) w g f = f
value_renamed old m (Long i) w g f = f
value_renamed old m (Ref p) w g f = f.1 ∙ ap (λ x. Ref x) (place_renamed old m p f.0 g f.2)

module _ {old : ℕ → Option Object} {roots : List ℕ} where
  pub copying_image : (m : ℕ → Option ℕ) (new : ℕ → Option Object) (done : Progress) (new_roots : List ℕ) → Copying old roots (Moves m) (Moves m) new done → IsScanned new done → length new_roots ≡ length roots → AreForwarded old (Moves m) roots new_roots → IsImage old roots new new_roots m
  copying_image m new done new_roots c whole many f = record {
    reached = c.reached;
    all = λ p h. reached_all p h.there.0 h.reach h.there.1;
    apart = c.apart;
    onto = c.onto;
    copied = λ p n e. let has = c.copied p n e in (has.o, has.old_is, has.new_is ∙ ap (λ x. Some x) (finished has.o has.a (full p n has)));
    moved_roots = same_lists new_roots (map (renamed m) roots) (many ∙ sym (length-map roots (renamed m))) (λ i x y e g. let at = mapped_at (renamed m) roots i y g in place_renamed old m at.0 x in_old (f.each i at.0 x at.1 e) ∙ sym at.2);
  }
    where
      in_old : (r n : ℕ) → m r ≡ Some n → (o : Object) × (old r ≡ Some o)
      in_old r n e = let has = c.copied r n e in (has.o, has.old_is)

      full : (p n : ℕ) (has : HasCopy old (Moves m) new done p n) → IsCopy old (Moves m) (length has.o.values) has.o has.a
      full p n has =
          let same = has.copy.values.many in
          let all : done n (length has.o.values) ≡ length has.o.values = subst (λ k. done n k ≡ k) same (whole n has.a has.new_is) in
          subst (λ k. IsCopy old (Moves m) k has.o has.a) all has.copy

      finished : (o a : Object) → IsCopy old (Moves m) (length o.values) o a → a ≡ copy_of m o
      finished o a h =
          let values : a.values ≡ map (rename (renamed m)) o.values = same_lists a.values (map (rename (renamed m)) o.values) (h.values.many ∙ sym (length-map o.values (rename (renamed m)))) (λ i x y e g. let at = mapped_at (rename (renamed m)) o.values i y g in
          value_renamed old m at.0 x in_old (h.values.done i at.0 x (slice_get_within o.values i at.0 at.1) at.1 e) ∙ sym at.2) in
          ap (λ s. record { serial = s; class = a.class; age = a.age; values = a.values }) h.serial
          ∙ ap (λ k. record { serial = o.serial; class = k; age = a.age; values = a.values }) h.class
          ∙ ap (λ g. record { serial = o.serial; class = o.class; age = g; values = a.values }) h.age
          ∙ ap (λ vs. record { serial = o.serial; class = o.class; age = older o.age; values = vs }) values

      -- a condemned place that was forwarded has a copy
      has_place : (p q : ℕ) (o : Object) → old p ≡ Some o → Forwarded old (Moves m) p q → (n : ℕ) × (m p ≡ Some n)
      has_place p q o e g = (q, subst (λ x. MatchOption x (q ≡ p) (λ _. m p ≡ Some q)) e g)

      -- a reference of an object that was copied was forwarded
      value_moved : (q p n : ℕ) (o : Object) → m q ≡ Some n → old p ≡ Some o → Among p (refs_of (bare_at old q)) → (k : ℕ) × (m p ≡ Some k)
      value_moved q p n o e g h =
          let has = c.copied q n e in
          let family : Option Object → Type 0 = λ x. Among p (refs_of (option_map bare x)) in
          let at = at_ref has.o.values p (subst family has.old_is h) in
          let copy = full q n has in
          let within : at.0 < length has.o.values = slice_get_within has.o.values at.0 (Ref p) at.1 in
          let w = get_there has.a.values at.0 (let same = copy.values.many in omega arith) in
          let v : ForwardedValue old (Moves m) (Ref p) w.0 = copy.values.done at.0 (Ref p) w.0 within at.1 w.1 in
          has_place p v.0 o g v.2

      -- what refers to something is an object
      holder : (q p : ℕ) → Among p (refs_of (bare_at old q)) → (o : Object) × (old q ≡ Some o)
      holder q p h = by (old q) refl h
        where
          by : (x : Option Object) → old q ≡ x → Among p (refs_of (bare_at old q)) → (o : Object) × (old q ≡ Some o)
          by None e i = let family : Option Object → Type 0 = λ x. Among p (refs_of (option_map bare x)) in absurd (subst family e i)
          by (Some o) e i = (o, e)

      reached_all : (p : ℕ) (o : Object) → Reach (bare_at old) roots p → old p ≡ Some o → (n : ℕ) × (m p ≡ Some n)
      reached_all p o (root _ h) e =
          let at = index_among roots p h in
          let q = get_there new_roots at.0 (let w = slice_get_within roots at.0 p at.1 in omega arith) in
          has_place p q.0 o e (f.each at.0 p q.0 at.1 q.1)
      reached_all p o (field q _ h g) e =
          let from = holder q p g in
          let n = reached_all q from.0 h from.1 in
          value_moved q p n.0 o n.1 e g

-- an image speaks of what is at each place alone
pub image_same : {old : ℕ → Option Object} {roots new_roots : List ℕ} {m : ℕ → Option ℕ} (new new' : ℕ → Option Object) → IsImage old roots new new_roots m → ((n : ℕ) → new n ≡ new' n) → IsImage old roots new' new_roots m
image_same new new' i same = record {
  reached = i.reached;
  all = i.all;
  apart = i.apart;
  onto = λ n a e. i.onto n a (same n ∙ e);
  copied = λ p n e. let has = i.copied p n e in (has.0, has.1, sym (same n) ∙ has.2);
  moved_roots = i.moved_roots;
}
