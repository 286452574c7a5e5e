-- What a machine has come to, and whether two outcomes are one.
use Rattle.std.proofs.Common.{◌≡◌, ◌≢◌, ◌⊎◌, ℕ, zero, suc, ◌+◌, ◌<◌, ◌≤◌, List, [], ◌∷◌, ◌++◌, Option, Some, None, Bool, length, map, take, slice_get, get_or, set, refl, sym, ap, subst, ◌∙◌, arith, add-one, append_assoc, append-nil, inl, inr}
use Rattle.std.proofs.lemmas.List.{take_more}
use Rattle.jm_world.specs.World.{World, Thread, live_among, thread_at}
use Rattle.jm_world.specs.declared.stop.Stop.{Stop}
use Rattle.jm_world.proofs.RunsOn.{thread_after}
use Rattle.jm_machine.specs.Threads.{class_of_ending, class_ended_by}
use Rattle.jm_explore.specs.Outcomes.{End, Thrown, end_of, end_with, found_of, how_ended, told_end, thrown_by, thrown_from, thrown_of}
use Rattle.jm_explore.specs.Searches.{Has, founds}
use Rattle.jm_explore.specs.declared.outcome.EndedBy.{EndedBy}
use Rattle.jm_explore.specs.declared.outcome.HowEnded.{HowEnded}
use Rattle.jm_explore.specs.declared.outcome.HowEnded.TheVariants as how
use Rattle.jm_explore.specs.declared.outcome.Outcome.{Outcome}
use Rattle.jm_explore.specs.declared.told.Told.{Told}

-- ---- how it ended

pub same_how : (w : World) (stop : Option Stop) (live : ℕ) (cut : Bool) → stop ≡ w.stop → live ≡ live_among w.threads → how_ended stop live cut ≡ how_ended w.stop (live_among w.threads) cut
same_how w stop live cut e f = ap (λ s. how_ended s live cut) e ∙ ap (λ n. how_ended w.stop n cut) f

pub end_cut : (w : World) (cut : Bool) (h : HowEnded) → h ≡ how_ended w.stop (live_among w.threads) cut → h ≡ how.Cut → record { how = h; output = []; thrown = [] } ≡ end_of w cut
end_cut w cut h e c = subst (λ x. record { how = x; output = []; thrown = [] } ≡ end_with x w) (sym c) refl ∙ ap (λ x. end_with x w) e

end_other : (w : World) (h : HowEnded) (output : List ℕ) (thrown : List Thrown) → (h ≡ how.Cut → ⊥) → output ≡ w.output → thrown ≡ thrown_from 1 w.threads → record { how = h; output = output; thrown = thrown } ≡ end_with h w
end_other w how.Cut output thrown not_cut e f = absurd (not_cut refl)
end_other w how.Ended output thrown not_cut e f = (λ i. record { how = how.Ended; output = e i; thrown = f i })
end_other w (how.Stopped s) output thrown not_cut e f = (λ i. record { how = how.Stopped s; output = e i; thrown = f i })
end_other w (how.Deadlock n) output thrown not_cut e f = (λ i. record { how = how.Deadlock n; output = e i; thrown = f i })

pub end_whole : (w : World) (cut : Bool) (h : HowEnded) (output : List ℕ) (thrown : List Thrown) → h ≡ how_ended w.stop (live_among w.threads) cut → (h ≡ how.Cut → ⊥) → output ≡ w.output → thrown ≡ thrown_from 1 w.threads
    → record { how = h; output = output; thrown = thrown } ≡ end_of w cut
end_whole w cut h output thrown e not_cut f g = end_other w h output thrown not_cut f g ∙ ap (λ x. end_with x w) e

-- ---- the threads that exceptions have ended

thrown_more_from : (start : ℕ) (ts : List Thread) (k : ℕ) → k < length ts → thrown_from start (take (suc k) ts) ≡ thrown_from start (take k ts) ++ thrown_by (start + k) (class_ended_by (slice_get ts k))
thrown_more_from start [] k h = absurd (omega arith)
thrown_more_from start (t ∷ ts) zero h = append-nil (thrown_by start (class_of_ending t.ending)) ∙ ap (λ n. thrown_by n (class_of_ending t.ending)) (omega arith)
thrown_more_from start (t ∷ ts) (suc k) h =
    let one = thrown_by start (class_of_ending t.ending) in
    ap (λ l. one ++ l) (thrown_more_from (start + 1) ts k (omega arith))
    ∙ sym (append_assoc one (thrown_from (start + 1) (take k ts)) (thrown_by (start + 1 + k) (class_ended_by (slice_get ts k))))
    ∙ ap (λ n. (one ++ thrown_from (start + 1) (take k ts)) ++ thrown_by n (class_ended_by (slice_get ts k))) (omega arith)

thrown_more : (w : World) (k : ℕ) → k < length w.threads → thrown_from 1 (take (k + 1) w.threads) ≡ thrown_from 1 (take k w.threads) ++ thrown_by (k + 1) (class_ended_by (thread_at w (k + 1)))
thrown_more w k h =
    ap (λ n. thrown_from 1 (take n w.threads)) (add-one k)
    ∙ thrown_more_from 1 w.threads k h
    ∙ ap (λ n. thrown_from 1 (take k w.threads) ++ thrown_by n (class_ended_by (slice_get w.threads k))) (omega arith)
    ∙ ap (λ t. thrown_from 1 (take k w.threads) ++ thrown_by (k + 1) (class_ended_by t)) (sym (thread_after w k))

map_push : (es : List EndedBy) (e : EndedBy) → map thrown_of (es ++ e ∷ []) ≡ map thrown_of es ++ thrown_of e ∷ []
map_push [] e = refl
map_push (x ∷ es) e = ap (λ l. thrown_of x ∷ l) (map_push es e)

pub pushed_thrown : (old new : List EndedBy) (e : EndedBy) (n : ℕ) (class : List ℕ) (o : Option (List ℕ)) → new ≡ old ++ e ∷ [] → e.thread ≡ n → e.class.items ≡ class → o ≡ Some class → map thrown_of new ≡ map thrown_of old ++ thrown_by n o
pushed_thrown old new e n class o more number name ended =
    ap (map thrown_of) more ∙ map_push old e ∙ ap (λ (t : Thrown). map thrown_of old ++ t ∷ []) (λ i. record { thread = number i; class = name i })
    ∙ ap (λ x. map thrown_of old ++ thrown_by n x) (sym ended)

pub none_thrown : (old : List EndedBy) (n : ℕ) (o : Option (List ℕ)) → o ≡ None → map thrown_of old ≡ map thrown_of old ++ thrown_by n o
none_thrown old n o none = sym (append-nil (map thrown_of old)) ∙ ap (λ x. map thrown_of old ++ thrown_by n x) (sym none)

pub thrown_next : (w : World) (k : ℕ) (found new : List Thrown) → k < length w.threads → found ≡ thrown_from 1 (take k w.threads) → new ≡ found ++ thrown_by (k + 1) (class_ended_by (thread_at w (k + 1))) → new ≡ thrown_from 1 (take (k + 1) w.threads)
thrown_next w k found new h is more = more ∙ ap (λ l. l ++ thrown_by (k + 1) (class_ended_by (thread_at w (k + 1)))) is ∙ sym (thrown_more w k h)

-- ---- whether two are one

pub same_thrown : (a b : EndedBy) → a.thread ≡ b.thread → a.class.items ≡ b.class.items → thrown_of a ≡ thrown_of b
same_thrown a b e f = (λ i. record { thread = e i; class = f i })

pub same_ends : (a b : Outcome) → a.how ≡ b.how → a.output.items ≡ b.output.items → map thrown_of a.ended_by.items ≡ map thrown_of b.ended_by.items → told_end a ≡ told_end b
same_ends a b e f g = (λ i. record { how = e i; output = f i; thrown = g i })

module _ {X : Type 0} where
  pub get_any : (xs : List X) (k : ℕ) (d e : X) → k < length xs → get_or xs k d ≡ get_or xs k e
  get_any [] k d e low = let bad : ⊥ = omega (arith, low) in absurd bad
  get_any (x ∷ xs) zero d e low = refl
  get_any (x ∷ xs) (suc k) d e low = get_any xs k d e (omega (arith, low))

  take_whole : (xs : List X) (n : ℕ) → length xs ≤ n → take n xs ≡ xs
  take_whole [] zero low = refl
  take_whole [] (suc n) low = refl
  take_whole (x ∷ xs) zero low = let bad : ⊥ = omega (arith, low) in absurd bad
  take_whole (x ∷ xs) (suc n) low = ap (λ l. x ∷ l) (take_whole xs n (omega (arith, low)))

get_map : (a : List EndedBy) (k : ℕ) (d : EndedBy) → get_or (map thrown_of a) k (thrown_of d) ≡ thrown_of (get_or a k d)
get_map [] k d = refl
get_map (x ∷ a) zero d = refl
get_map (x ∷ a) (suc k) d = get_map a k d

map_length : (a : List EndedBy) → length (map thrown_of a) ≡ length a
map_length [] = refl
map_length (x ∷ a) = ap suc (map_length a)

pub same_more : (a b : List EndedBy) (i : ℕ) (x y : EndedBy) → i < length a → i < length b → x ≡ get_or a i x → y ≡ get_or b i y → thrown_of x ≡ thrown_of y → map thrown_of (take i a) ≡ map thrown_of (take i b)
    → map thrown_of (take (i + 1) a) ≡ map thrown_of (take (i + 1) b)
same_more a b i x y low high at there same before =
    ap (map thrown_of) (take_more a i x low) ∙ map_push (take i a) (get_or a i x)
    ∙ ap (λ l. l ++ thrown_of (get_or a i x) ∷ []) before
    ∙ ap (λ (t : Thrown). map thrown_of (take i b) ++ t ∷ []) (ap thrown_of (sym at) ∙ same ∙ ap thrown_of there)
    ∙ sym (map_push (take i b) (get_or b i y)) ∙ ap (map thrown_of) (sym (take_more b i y high))

pub same_whole : (a b : List EndedBy) (i : ℕ) → length a ≤ i → length b ≤ i → map thrown_of (take i a) ≡ map thrown_of (take i b) → map thrown_of a ≡ map thrown_of b
same_whole a b i low high e = ap (map thrown_of) (sym (take_whole a i low)) ∙ e ∙ ap (map thrown_of) (take_whole b i high)

pub differ_at : (a b : List EndedBy) (i : ℕ) (x y : EndedBy) → i < length b → x ≡ get_or a i x → y ≡ get_or b i y → thrown_of x ≢ thrown_of y → map thrown_of a ≢ map thrown_of b
differ_at a b i x y high at there other e =
    other (ap thrown_of at ∙ sym (get_map a i x) ∙ ap (λ l. get_or l i (thrown_of x)) e ∙ get_map b i x ∙ ap thrown_of (get_any b i x y high) ∙ ap thrown_of (sym there))

pub differ_in_length : (a b : List EndedBy) → length a ≢ length b → map thrown_of a ≢ map thrown_of b
differ_in_length a b other e = other (sym (map_length a) ∙ ap (λ (l : List Thrown). length l) e ∙ map_length b)

-- ---- what is told

pub founds_set : (told : List Told) (k : ℕ) (t : Told) → found_of t ≡ found_of (get_or told k t) → founds (set told k t) ≡ founds told
founds_set [] k t e = refl
founds_set (x ∷ told) zero t e = ap (λ f. f ∷ founds told) e
founds_set (x ∷ told) (suc k) t e = ap (λ l. found_of x ∷ l) (founds_set told k t e)

pub founds_push : (told : List Told) (t : Told) → founds (told ++ t ∷ []) ≡ founds told ++ found_of t ∷ []
founds_push [] t = refl
founds_push (x ∷ told) t = ap (λ l. found_of x ∷ l) (founds_push told t)

pub has_found : (e : End) (told : List Told) (k : ℕ) (t : Told) → k < length told → get_or told k t ≡ t → told_end t.outcome ≡ e → Has e (founds told)
has_found e [] k t low at is = let bad : ⊥ = omega (arith, low) in absurd bad
has_found e (x ∷ told) zero t low at is = inl (ap (λ (y : Told). told_end y.outcome) at ∙ is)
has_found e (x ∷ told) (suc k) t low at is = inr (has_found e told k t (omega (arith, low)) at is)

pub has_none : (e : End) (told : List Told) → ((k : ℕ) (d : Told) → k < length told → told_end (get_or told k d).outcome ≢ e) → Has e (founds told) → ⊥
has_none e [] none h = h
has_none e (x ∷ told) none (inl is) = none 0 x (omega arith) is
has_none e (x ∷ told) none (inr h) = has_none e told (λ k d low. none (suc k) d (omega (arith, low))) h

pub none_more : (e : End) (told : List Told) (i : ℕ) (x : Told) → i < length told → x ≡ get_or told i x → told_end x.outcome ≢ e → ((k : ℕ) (d : Told) → k < i → told_end (get_or told k d).outcome ≢ e)
    → (k : ℕ) (d : Told) → k < i + 1 → told_end (get_or told k d).outcome ≢ e
none_more e told i x low at other before k d less = elim (apart k i less) [ inl earlier ↦ before k d earlier | inr here ↦ at_it here ]
  where
    apart : (k i : ℕ) → k < i + 1 → (k < i) ⊎ (k ≡ i)
    apart k i h = grind (arith, h)

    at_it : k ≡ i → told_end (get_or told k d).outcome ≢ e
    at_it here same = other (ap (λ (y : Told). told_end y.outcome) (at ∙ get_any told i x d low ∙ ap (λ n. get_or told n d) (sym here)) ∙ same)

pub founds_counted : (told : List Told) (k : ℕ) (r : Told) (n : ℕ) → k < length told
    → founds (set told k (record { outcome = (get_or told k r).outcome; schedule = (get_or told k r).schedule; switches = (get_or told k r).switches; schedules = n })) ≡ founds told
founds_counted told k r n low =
    let t : Told = record { outcome = (get_or told k r).outcome; schedule = (get_or told k r).schedule; switches = (get_or told k r).switches; schedules = n } in
    founds_set told k t (ap found_of (get_any told k r t low))
