-- A class file while it is written: the pool so far, and the bytes behind the pool so far. A step may give a value, and takes a draft to the next one.
use Rattle.std.specs.Prelude.{◌≡◌, ℕ, nat_lt, if◌then◌else◌, List, [], ◌∷◌, ◌++◌, length, Result, Ok, Err}
use Rattle.std.specs.Int.{w16, w32, to_be_bytes}
use Rattle.jm_bytes.specs.Reading.{and_then}
use Rattle.jm_class_format.specs.declared.constant_pool.Entry.{Entry}
use Rattle.jm_class_writer.specs.declared.fault.WriteFault.{WriteFault}
use Rattle.jm_class_writer.specs.declared.fault.WriteFault.TheVariants as fault

pub record DraftParts : Type 0 where
  -- of the pool, by index from 1
  pub entries : List Entry
  pub written : List ℕ

abbrev pub Drafting : Type 0 → Type 0
Drafting A = DraftParts → Result (A × DraftParts) WriteFault

-- ---- steps

infixl 10 ◌>>=◌
abbrev pub ◌>>=◌ : {A B : Type 0} → Drafting A → (A → Drafting B) → Drafting B
f >>= g = λ draft. and_then (f draft) (λ x. g x.0 x.1)

abbrev pub done : {A : Type 0} → A → Drafting A
done v draft = Ok (v, draft)

-- the value that a look-up or a test came to, or its own fault
abbrev pub outcome : {A : Type 0} → Result A WriteFault → Drafting A
outcome r draft = and_then r (λ v. Ok (v, draft))

-- one after the other
unfoldable pub all_of : {A : Type 0} → (A → Drafting (Unit {0})) → List A → Drafting (Unit {0})
all_of f [] = done tt
all_of f (x ∷ xs) = f x >>= (λ _. all_of f xs)

-- the same of steps that give a value each
unfoldable pub each_of : {A B : Type 0} → (A → Drafting B) → List A → Drafting (List B)
each_of f [] = done []
each_of f (x ∷ xs) = do
  y ← f x
  ys ← each_of f xs
  done (y ∷ ys)

-- ---- bytes

abbrev pub add_bytes : List ℕ → DraftParts → DraftParts
add_bytes bytes draft = record { entries = draft.entries; written = draft.written ++ bytes }

unfoldable pub put_bytes : List ℕ → Drafting (Unit {0})
put_bytes bytes draft = Ok (tt, add_bytes bytes draft)

-- a number of two bytes, high byte first; 36 where it has none
unfoldable pub put_u2 : ℕ → Drafting (Unit {0})
put_u2 n draft = if nat_lt n 65536 then Ok (tt, add_bytes (to_be_bytes w16 n) draft) else Err fault.TooMany

-- a number of four bytes
unfoldable pub put_u4 : ℕ → Drafting (Unit {0})
put_u4 n draft = if nat_lt n 4294967296 then Ok (tt, add_bytes (to_be_bytes w32 n) draft) else Err fault.TooMany

-- ---- what stands behind its own length in bytes (JVMS 4.7, attribute_length)

abbrev pub opened : DraftParts → DraftParts
opened draft = record { entries = draft.entries; written = [] }

-- what was written before comes back in front, and the length stands between
unfoldable pub closed : List ℕ → Drafting (Unit {0})
closed before draft =
    if nat_lt (length draft.written) 4294967296 then Ok (tt, record { entries = draft.entries; written = before ++ to_be_bytes w32 (length draft.written) ++ draft.written })
    else Err fault.TooMany

unfoldable pub with_length : Drafting (Unit {0}) → Drafting (Unit {0})
with_length body draft = and_then (body (opened draft)) (λ x. closed draft.written x.1)

-- ---- what a call gave

-- What a call gave, seen by view, and the draft that it left are the step's, and so is its fault, but for want of memory.
abbrev pub Leaves : {X Y : Type 0} → (X → Y) → Result X WriteFault → DraftParts → Result (Y × DraftParts) WriteFault → Type 0
Leaves view (Ok x) after step = step ≡ Ok (view x, after)
Leaves view (Err e) after step = ¬ (e ≡ fault.OutOfMemory) → step ≡ Err e
