-- A change that is made to the view that it leads from gives the view that it leads to.
use Rattle.std.proofs.Common.{◌≡◌, ℕ, List, [], ◌∷◌, ◌++◌, Option, Some, None, refl, sym, ap, ◌∙◌, cond}
use Rattle.std.specs.Prelude.{Bool, true, false, not, ◌&&◌, ◌||◌, map, is_some, if◌then◌else◌}
use Rattle.std.specs.List.{filter}
use Rattle.std.specs.Str.{bytes_eq}
use Rattle.std.proofs.lemmas.Slice.Eq.{bytes_eq-Decides}
use Rattle.jm_page.specs.Sections.{Part, shown_at, IsSameView, same_text, has_changed, is_gone, key_of, delta, is_among, apply}
use Rattle.jm_page.specs.Filming.{FilmView, Moment, behind, last_view, replayed}

-- what two views show, the second behind the first
first_of : Option (List ℕ) → Option (List ℕ) → Option (List ℕ)
first_of None other = other
first_of (Some text) other = Some text

found : (same : Bool) (text : List ℕ) (rest other whole : Option (List ℕ)) → whole ≡ first_of rest other
    → (if same then Some text else whole) ≡ first_of (if same then Some text else rest) other
unfolding first_of
found true text rest other whole e = refl
found false text rest other whole e = e

shown-append : (ps qs : List Part) (key : List ℕ) → shown_at (ps ++ qs) key ≡ first_of (shown_at ps key) (shown_at qs key)
unfolding first_of
shown-append [] qs key = refl
shown-append (p ∷ ps) qs key = found (bytes_eq p.key key) p.text (shown_at ps key) (shown_at qs key) (shown_at (ps ++ qs) key) (shown-append ps qs key)

-- a test of the key alone keeps a section or not
kept : (keep here same : Bool) (text : List ℕ) (rest all : Option (List ℕ)) → (same ≡ true → keep ≡ here) → rest ≡ (if here then all else None)
    → cond keep (if same then Some text else rest) rest ≡ (if here then (if same then Some text else all) else None)
kept true true true text rest all h e = refl
kept true false true text rest all h e = let no : true ≡ false = h refl in absurd cc
kept false true true text rest all h e = let no : false ≡ true = h refl in absurd cc
kept false false true text rest all h e = e
kept true true false text rest all h e = e
kept true false false text rest all h e = e
kept false true false text rest all h e = e
kept false false false text rest all h e = e

shown_of : (keep : Bool) (p : Part) (ps : List Part) (key : List ℕ)
    → shown_at (cond keep (p ∷ ps) ps) key ≡ cond keep (if bytes_eq p.key key then Some p.text else shown_at ps key) (shown_at ps key)
shown_of true p ps key = refl
shown_of false p ps key = refl

none : (here : Bool) (all : Option (List ℕ)) → all ≡ None → None ≡ (if here then all else None)
none true all e = sym e
none false all e = refl

shown-filter : (f : List ℕ → Bool) (ps : List Part) (key : List ℕ) → shown_at (filter (λ p. f p.key) ps) key ≡ (if f key then shown_at ps key else None)
shown-filter f [] key = none (f key) None refl
shown-filter f (p ∷ ps) key =
    shown_of (f p.key) p (filter (λ q. f q.key) ps) key
    ∙ kept (f p.key) (f key) (bytes_eq p.key key) p.text (shown_at (filter (λ q. f q.key) ps) key) (shown_at ps key)
    (λ e. ap f ((bytes_eq-Decides p.key key).0 e)) (shown-filter f ps key)

-- the keys that a test keeps
counted : (keep here same rest all : Bool) → (same ≡ true → keep ≡ here) → rest ≡ (here && all) → cond keep (same || rest) rest ≡ (here && (same || all))
counted true true true rest all h e = refl
counted true false true rest all h e = let no : true ≡ false = h refl in absurd cc
counted false true true rest all h e = let no : false ≡ true = h refl in absurd cc
counted false false true rest all h e = e
counted true true false rest all h e = e
counted true false false rest all h e = e
counted false true false rest all h e = e
counted false false false rest all h e = e

among_of : (keep : Bool) (k : List ℕ) (ks : List (List ℕ)) (key : List ℕ)
    → is_among (cond keep (k ∷ ks) ks) key ≡ cond keep (bytes_eq k key || is_among ks key) (is_among ks key)
among_of true k ks key = refl
among_of false k ks key = refl

no_key : (here : Bool) → false ≡ (here && false)
no_key true = refl
no_key false = refl

among-filter : (f : List ℕ → Bool) (ks : List (List ℕ)) (key : List ℕ) → is_among (filter f ks) key ≡ (f key && is_among ks key)
among-filter f [] key = no_key (f key)
among-filter f (k ∷ ks) key =
    among_of (f k) k (filter f ks) key
    ∙ counted (f k) (f key) (bytes_eq k key) (is_among (filter f ks) key) (is_among ks key) (λ e. ap f ((bytes_eq-Decides k key).0 e)) (among-filter f ks key)

-- a key is among those of a view if something is shown under it
some_if : (same : Bool) (text : List ℕ) (rest : Option (List ℕ)) → (same || is_some rest) ≡ is_some (if same then Some text else rest)
some_if true text rest = refl
some_if false text rest = refl

among_keys : (ps : List Part) (key : List ℕ) → is_among (map key_of ps) key ≡ is_some (shown_at ps key)
among_keys [] key = refl
among_keys (p ∷ ps) key = ap (λ b. bytes_eq p.key key || b) (among_keys ps key) ∙ some_if (bytes_eq p.key key) p.text (shown_at ps key)

-- what was shown and is still the same stays; else what is new is shown, or nothing
same_or_new : (same : Bool) (text other : List ℕ) → (same ≡ true → text ≡ other) → first_of (if not same then Some other else None) (Some text) ≡ Some other
unfolding first_of
same_or_new true text other h = ap Some (h refl)
same_or_new false text other h = refl

settled : (o n : Option (List ℕ))
    → first_of (if not (same_text o n) then n else None) (if not (not (is_some n) && is_some o) then o else None) ≡ n
unfolding first_of
settled None None = refl
settled None (Some text) = refl
settled (Some text) None = refl
settled (Some text) (Some other) = same_or_new (bytes_eq text other) text other (bytes_eq-Decides text other).0

-- what a change shows under a key, over what a view shows there
shown-apply : (view set : List Part) (gone : List (List ℕ)) (key : List ℕ)
    → shown_at (set ++ filter (λ p. not (is_among gone p.key)) view) key
    ≡ first_of (shown_at set key) (if not (is_among gone key) then shown_at view key else None)
shown-apply view set gone key =
    shown-append set (filter (λ p. not (is_among gone p.key)) view) key
    ∙ ap (λ t. first_of (shown_at set key) t) (shown-filter (λ k. not (is_among gone k)) view key)

pub leads : (old new : List Part) → IsSameView (apply old (delta old new)) new
unfolding apply delta
leads old new = λ key.
    let keys : List (List ℕ) = filter (is_gone new) (map key_of old) in
    let set = shown-filter (has_changed old new) new key in
    let gone : is_among keys key ≡ (is_gone new key && is_some (shown_at old key)) =
    among-filter (is_gone new) (map key_of old) key ∙ ap (λ b. is_gone new key && b) (among_keys old key) in
    shown-apply old (filter (λ p. has_changed old new p.key) new) keys key
    ∙ ap (λ t. first_of t (if not (is_among keys key) then shown_at old key else None)) set
    ∙ ap (λ b. first_of (if has_changed old new key then shown_at new key else None) (if not b then shown_at old key else None)) gone
    ∙ settled (shown_at old key) (shown_at new key)

-- also made to a view that shows the same
pub leads_from : (seen old new : List Part) → IsSameView seen old → IsSameView (apply seen (delta old new)) new
unfolding apply delta
leads_from seen old new same = λ key.
    let keys : List (List ℕ) = filter (is_gone new) (map key_of old) in
    let set : List Part = filter (λ p. has_changed old new p.key) new in
    shown-apply seen set keys key
    ∙ ap (λ t. first_of (shown_at set key) (if not (is_among keys key) then t else None)) (same key)
    ∙ sym (shown-apply old set keys key)
    ∙ leads old new key

-- a reader of the data who begins with the first view sees the view behind each event
pub replays : (seen : List Part) (f : FilmView) (ms : List Moment) → IsSameView seen f.view → IsSameView (replayed seen f ms) (last_view f ms)
replays seen f [] same = same
replays seen f (m ∷ ms) same = replays (apply seen (delta f.view m.view)) (behind m) ms (leads_from seen f.view m.view same)
