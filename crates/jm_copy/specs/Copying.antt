-- What holds while a copier copies: Cheney's invariant. It speaks of two relations between a condemned
-- place and a new one: what this copier has won, that is, copied itself, and what it knows. A collector of
-- one thread knows what it has won.
use Rattle.std.specs.Prelude.{◌≡◌, ◌≢◌, ◌⊎◌, ℕ, ◌+◌, ◌<◌, ◌≤◌, List, length, Option, Some, None, MatchOption, slice_get, nat_lt, nat_eq, if◌then◌else◌}
use Rattle.jm_values.specs.declared.value.Value.{Value}
use Rattle.jm_values.specs.declared.value.Value.TheVariants.{Int, Long, Null, Ref}
use Rattle.jm_blocks.specs.Objects.{Object}
use Rattle.jm_copy.specs.Image.{IsImage, IsReached, older}

-- a place became another: a condemned object's one that is known, any other stays
abbrev pub Forwarded : (ℕ → Option Object) → (ℕ → ℕ → Type 0) → ℕ → ℕ → Type 0
Forwarded old known p q = MatchOption (old p) (q ≡ p) (λ o. known p q)

abbrev pub ForwardedValue : (ℕ → Option Object) → (ℕ → ℕ → Type 0) → Value → Value → Type 0
ForwardedValue old known (Ref p) w = (q : ℕ) × (w ≡ Ref q) × Forwarded old known p q
ForwardedValue old known (Int n) w = w ≡ Int n
ForwardedValue old known (Long n) w = w ≡ Long n
ForwardedValue old known Null w = w ≡ Null

-- the first k values are forwarded, and the others are as they were
pub record IsPartly (old : ℕ → Option Object) (known : ℕ → ℕ → Type 0) (k : ℕ) (vs ws : List Value) : Type 0 where
  pub many : length ws ≡ length vs
  pub done : (i : ℕ) (v w : Value) → i < k → slice_get vs i ≡ Some v → slice_get ws i ≡ Some w → ForwardedValue old known v w
  pub rest : (i : ℕ) (v w : Value) → k ≤ i → slice_get vs i ≡ Some v → slice_get ws i ≡ Some w → w ≡ v

-- a is the copy of o, with the first k values forwarded
pub record IsCopy (old : ℕ → Option Object) (known : ℕ → ℕ → Type 0) (k : ℕ) (o a : Object) : Type 0 where
  pub serial : a.serial ≡ o.serial
  pub class : a.class ≡ o.class
  pub age : a.age ≡ older o.age
  pub values : IsPartly old known k o.values a.values

-- the object as it is first copied
abbrev pub raw_copy : Object → Object
raw_copy o = record { serial = o.serial; class = o.class; age = older o.age; values = o.values }

-- how many of the values of a new object are forwarded, by its place and how many it has
abbrev pub Progress : Type 0
Progress = ℕ → ℕ → ℕ

-- all objects below the place s are scanned, of the one at s the first j values, and none above
abbrev pub scanned : ℕ → ℕ → Progress
scanned s j n count = if nat_lt n s then count else (if nat_eq n s then j else 0)

-- the object at p has a copy at n
pub record HasCopy (old : ℕ → Option Object) (known : ℕ → ℕ → Type 0) (new : ℕ → Option Object) (done : Progress) (p n : ℕ) : Type 0 where
  pub o : Object
  pub old_is : old p ≡ Some o
  pub a : Object
  pub new_is : new n ≡ Some a
  pub copy : IsCopy old known (done n (length o.values)) o a

-- what was won is reached, each place once, and the copier's objects are the copies of what it won,
-- forwarded as far as the scan has come
pub record Copying (old : ℕ → Option Object) (roots : List ℕ) (known won : ℕ → ℕ → Type 0) (new : ℕ → Option Object) (done : Progress) : Type 0 where
  pub reached : (p n : ℕ) → won p n → IsReached old roots p
  pub apart : (p q n : ℕ) → won p n → won q n → p ≡ q
  pub onto : (n : ℕ) (a : Object) → new n ≡ Some a → (p : ℕ) × won p n
  pub copied : (p n : ℕ) → won p n → HasCopy old known new done p n

-- one place, which had no object, has this one, and all others have what they had
pub record IsAdded (old new : ℕ → Option Object) (p : ℕ) (o : Object) : Type 0 where
  pub free : old p ≡ None
  pub here : new p ≡ Some o
  pub others : (q : ℕ) → q ≢ p → new q ≡ old q

-- one place has this object, and all others have what they had
pub record IsReplaced (old new : ℕ → Option Object) (p : ℕ) (o : Object) : Type 0 where
  pub here : new p ≡ Some o
  pub others : (q : ℕ) → q ≢ p → new q ≡ old q

-- a copier has won one place more, and knows it
pub record Gains (known won known' won' : ℕ → ℕ → Type 0) (p n : ℕ) : Type 0 where
  pub knows : (q k : ℕ) → known q k → known' q k
  pub keeps : (q k : ℕ) → won q k → won' q k
  pub here : won' p n
  pub only : (q k : ℕ) → won' q k → won q k ⊎ ((q ≡ p) × (k ≡ n))

-- at one place one value more is forwarded
pub record IsFurther (done done' : Progress) (s count j : ℕ) : Type 0 where
  pub here : (done s count ≡ j) × (done' s count ≡ j + 1)
  pub others : (n k : ℕ) → n ≢ s → done' n k ≡ done n k

-- the places became others, one by one
pub record AreForwarded (old : ℕ → Option Object) (known : ℕ → ℕ → Type 0) (ps qs : List ℕ) : Type 0 where
  pub many : length qs ≤ length ps
  pub each : (i p q : ℕ) → slice_get ps i ≡ Some p → slice_get qs i ≡ Some q → Forwarded old known p q

-- all values of all new objects are forwarded
abbrev pub IsScanned : (ℕ → Option Object) → Progress → Type 0
IsScanned new done = (n : ℕ) (a : Object) → new n ≡ Some a → done n (length a.values) ≡ length a.values

-- what a map moves
abbrev pub Moves : (ℕ → Option ℕ) → ℕ → ℕ → Type 0
Moves moved p n = moved p ≡ Some n

-- the scan is over: all values of the new objects are forwarded, and all roots
pub record IsFinished (old : ℕ → Option Object) (roots : List ℕ) (new : ℕ → Option Object) (new_roots : List ℕ) (moved : ℕ → Option ℕ) (done : Progress) : Type 0 where
  pub copying : Copying old roots (Moves moved) (Moves moved) new done
  pub scanned : IsScanned new done
  pub many : length new_roots ≡ length roots
  pub forwarded : AreForwarded old (Moves moved) roots new_roots

-- then they are the image
abbrev pub FinishedIsImage : (ℕ → Option Object) → (ℕ → Option Object) → (ℕ → Option ℕ) → Progress → Type 0
FinishedIsImage old new moved done = (roots new_roots : List ℕ) → IsFinished old roots new new_roots moved done → IsImage old roots new new_roots moved
