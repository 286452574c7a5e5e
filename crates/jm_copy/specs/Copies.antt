-- What a collection has made so far, and what holds of it.
use Rattle.std.specs.Prelude.{◌≡◌, ◌≢◌, ◌⊎◌, ℕ, ◌<◌, ◌^◌, List, length, Option, Some, None, Bool, true, false, nat_eq, nat_lt, replicate, slice_set, if◌then◌else◌}
use Rattle.jm_blocks.specs.Objects.{Object}
use Rattle.jm_blocks.specs.Places.{lane_of}
use Rattle.jm_blocks.specs.Stores.{Blocks, objects_in, HasObject, IsEmpty, Bumped}
use Rattle.jm_copy.specs.Copying.{AreForwarded, Copying, Progress, Moves}
use Rattle.jm_copy.specs.Condemned.{AreLanes, objects_at}
use Rattle.jm_copy.specs.Numbers.{AreNumbers, object_count}
use Rattle.jm_copy.specs.Words.{moved}
use Rattle.jm_copy.specs.declared.copies.Copies.{Copies}
use Rattle.jm_copy.specs.declared.survival.Survival.{Survival}
use Rattle.jm_copy.specs.declared.survival.Survival.TheVariants.{First, Later}

-- whether a place is above the last one, if there is one
abbrev pub is_above : Option ℕ → ℕ → Bool
is_above None n = true
is_above (Some p) n = nat_lt p n

-- the new objects: all of the store of the young, and of the old one those above the kept place
unfoldable pub made_in : Blocks → Blocks → Option ℕ → ℕ → Option Object
made_in young old kept n = if nat_eq (lane_of n) young.lane then objects_in young n else (if is_above kept n then objects_in old n else None)

abbrev pub made : Copies → ℕ → Option Object
made c = made_in c.young c.tenured c.kept

abbrev pub HasMade : Copies → ℕ → Type 0
HasMade c n = (a : Object) × (made c n ≡ Some a)

abbrev pub store_of : Copies → ℕ → Blocks
store_of c n = if nat_eq (lane_of n) c.young.lane then c.young else c.tenured

-- the store that copies go into: the store of the young at a first survival, and else the old one
abbrev pub store_for : Copies → Survival → Blocks
store_for c First = c.young
store_for c Later = c.tenured

-- an object is put above all others of a store
pub record IsPutIn (old new : Blocks) (p : ℕ) (a : Object) : Type 0 where
  pub bumped : Bumped old new p a
  pub lane : lane_of p ≡ old.lane
  pub same : new.lane ≡ old.lane

-- an object is put into one of the two stores, by its age
pub record IsPutYoung (c d : Copies) (p : ℕ) (a : Object) : Type 0 where
  pub age : a.age ≡ 1
  pub put : IsPutIn c.young d.young p a
  pub tenured : d.tenured ≡ c.tenured

pub record IsPutOld (c d : Copies) (p : ℕ) (a : Object) : Type 0 where
  pub age : a.age ≡ 2
  pub put : IsPutIn c.tenured d.tenured p a
  pub young : d.young ≡ c.young

pub record IsPut (c d : Copies) (p : ℕ) (a : Object) : Type 0 where
  pub words : d.words ≡ c.words
  pub kept : d.kept ≡ c.kept
  pub by_age : IsPutYoung c d p a ⊎ IsPutOld c d p a

-- and its place is written into the word of a number
pub record IsNoted (c d : Copies) (n p : ℕ) (a : Object) : Type 0 where
  pub put : IsPut c (record { words = c.words; young = d.young; tenured = d.tenured; kept = d.kept }) p a
  pub words : d.words ≡ slice_set c.words n p
  pub some : 0 < p

-- what no step changes: the lanes, the kept objects, and that there is an object where there was one
pub record Stays (c d : Copies) : Type 0 where
  pub kept : d.kept ≡ c.kept
  pub young_lane : d.young.lane ≡ c.young.lane
  pub old_lane : d.tenured.lane ≡ c.tenured.lane
  pub young_there : (n : ℕ) → HasObject c.young n → HasObject d.young n
  pub old_there : (n : ℕ) → HasObject c.tenured n → HasObject d.tenured n
  pub below : (n : ℕ) → is_above c.kept n ≡ false → objects_in d.tenured n ≡ objects_in c.tenured n

-- and what is known stays known
pub record Extends (stores : List Blocks) (c d : Copies) : Type 0 where
  pub stays : Stays c d
  pub known : (p n : ℕ) → moved stores c.words p ≡ Some n → moved stores d.words p ≡ Some n

-- the condemned stores in the order of their lanes, and the numbers of their objects
pub record IsSource (stores : List Blocks) (numbers : List (List ℕ)) : Type 0 where
  pub lanes : AreLanes stores
  pub numbered : AreNumbers stores numbers
  pub few : object_count stores < 2 ^ 63

-- a mark in a store is the place of an object there
abbrev pub IsMark : Blocks → Option ℕ → Type 0
IsMark s None = Unit {0}
IsMark s (Some p) = HasObject s p

abbrev pub age_at : Copies → ℕ → ℕ
age_at c n = if nat_eq (lane_of n) c.young.lane then 1 else 2

-- a place above all objects of a store
abbrev pub IsPast : Blocks → ℕ → Type 0
IsPast s n = (q : ℕ) → HasObject s q → q < n

-- the invariant of the collector's words and stores; ages say which store an object is in, and where
-- a new object will come nothing is scanned
pub record IsCopying (stores : List Blocks) (roots : List ℕ) (c : Copies) (done : Progress) : Type 0 where
  pub copying : Copying (objects_at stores) roots (Moves (moved stores c.words)) (Moves (moved stores c.words)) (made c) done
  pub many : length c.words ≡ object_count stores
  pub apart : c.tenured.lane ≢ c.young.lane
  pub kept : IsMark c.tenured c.kept
  pub ages : (n : ℕ) (a : Object) → made c n ≡ Some a → a.age ≡ age_at c n
  pub ahead_young : (n count : ℕ) → lane_of n ≡ c.young.lane → IsPast c.young n → done n count ≡ 0
  pub ahead_old : (n count : ℕ) → lane_of n ≡ c.tenured.lane → IsPast c.tenured n → done n count ≡ 0

-- before the first copy: no word is set, there is no young object, and the kept place is the old
-- store's last one
pub record IsFresh (stores : List Blocks) (c : Copies) : Type 0 where
  pub words : c.words ≡ replicate (object_count stores) 0
  pub young : IsEmpty c.young
  pub kept : IsMark c.tenured c.kept
  pub last : (n : ℕ) → HasObject c.tenured n → is_above c.kept n ≡ false
  pub apart : c.tenured.lane ≢ c.young.lane

-- the invariant goes over from one to the other, however far the scan has come
abbrev pub KeepsCopying : List Blocks → List ℕ → Copies → Copies → Type 0
KeepsCopying stores roots c d = (done : Progress) → IsCopying stores roots c done → IsCopying stores roots d done

-- all roots were forwarded to these places
abbrev pub AreRoots : List Blocks → List ℕ → Copies → List ℕ → Type 0
AreRoots stores roots c places =
    AreForwarded (objects_at stores) (Moves (moved stores c.words)) roots places × (length places ≡ length roots)
