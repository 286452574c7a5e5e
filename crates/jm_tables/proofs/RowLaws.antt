-- What the layout has of classes, with one more class.
use Rattle.std.proofs.Common.{◌≡◌, ℕ, zero, suc, ◌+◌, ◌<◌, List, [], ◌∷◌, ◌++◌, Option, Some, None, length, get_or, take, below_more}
use Rattle.std.proofs.Common.{refl, sym, ◌∙◌, ap, arith, slice_get, append_assoc, append-nil, length-take}
use Rattle.std.proofs.lemmas.List.{take_more}
use Rattle.std.proofs.lemmas.Option.{slice_get_read}
use Rattle.jm_tables.specs.declared.extent.DeclaredFields.{DeclaredFields}
use Rattle.jm_tables.specs.declared.extent.Extent.{Extent}
use Rattle.jm_tables.specs.declared.layout.ClassLayout.{ClassLayout}
use Rattle.jm_tables.specs.declared.layout.FieldNumber.{FieldNumber}
use Rattle.jm_tables.specs.declared.layout.FieldSlot.{FieldSlot}
use Rattle.jm_tables.specs.Layouts.{IsRow, slots_from, statics_among, statics_of}

got_before : (xs : List ClassLayout) (x : ClassLayout) (k : ℕ) → k < length xs → slice_get (xs ++ x ∷ []) k ≡ slice_get xs k
got_before [] x k h = absurd (omega (arith, h))
got_before (y ∷ ys) x zero h = refl
got_before (y ∷ ys) x (suc k) h = got_before ys x k (omega (arith, h))

got_last : (xs : List ClassLayout) (x : ClassLayout) → slice_get (xs ++ x ∷ []) (length xs) ≡ Some x
got_last [] x = refl
got_last (y ∷ ys) x = got_last ys x

pub row_more : (classes : List DeclaredFields) (extents : List (Option Extent)) (rows : List ClassLayout) (i : ℕ) (d : DeclaredFields) (e : Extent)
    (slots : List FieldSlot) → i < length classes → d ≡ get_or classes i d → length rows ≡ i → get_or extents i None ≡ Some e
    → slots ≡ slots_from e.inherited (length (statics_of 0 (take i classes))) d.fields.now
    → ((class : ℕ) → class < i → IsRow classes extents rows class)
    → (class : ℕ) → class < i + 1 → IsRow classes extents (rows ++ record { size = e.size; slots = slots } ∷ []) class
row_more classes extents rows i d e slots less is many known are earlier =
    below_more (IsRow classes extents (rows ++ record { size = e.size; slots = slots } ∷ [])) i kept here
  where
    kept : (class : ℕ) → class < i → IsRow classes extents (rows ++ record { size = e.size; slots = slots } ∷ []) class
    kept class small =
        let row = earlier class small in
        record {
          declared = row.declared;
          declared_is = row.declared_is;
          extent = row.extent;
          extent_is = row.extent_is;
          row = got_before rows (record { size = e.size; slots = slots }) class (omega (arith, small, many)) ∙ row.row;
        }

    here : IsRow classes extents (rows ++ record { size = e.size; slots = slots } ∷ []) i
    here = record {
      declared = d;
      declared_is = slice_get_read classes (length classes) i d refl less is;
      extent = e;
      extent_is = known;
      row = ap (slice_get (rows ++ record { size = e.size; slots = slots } ∷ [])) (sym many) ∙ got_last rows (record { size = e.size; slots = slots })
          ∙ ap (λ (xs : List FieldSlot). Some (record { size = e.size; slots = xs })) are;
    }

statics_push : (k : ℕ) (ds : List DeclaredFields) (d : DeclaredFields)
    → statics_of k (ds ++ d ∷ []) ≡ statics_of k ds ++ statics_among (k + length ds) 0 d.fields.now
statics_push k [] d = append-nil (statics_among k 0 d.fields.now) ∙ (let same : k + 0 ≡ k = omega arith in ap (λ n. statics_among n 0 d.fields.now) (sym same))
statics_push k (x ∷ ds) d =
    let next : k + 1 + length ds ≡ k + suc (length ds) = omega arith in
    ap (λ xs. statics_among k 0 x.fields.now ++ xs) (statics_push (k + 1) ds d ∙ ap (λ n. statics_of (k + 1) ds ++ statics_among n 0 d.fields.now) next)
    ∙ sym (append_assoc (statics_among k 0 x.fields.now) (statics_of (k + 1) ds) (statics_among (k + suc (length ds)) 0 d.fields.now))

pub statics_more : (classes : List DeclaredFields) (i class : ℕ) (d : DeclaredFields) → i < length classes → d ≡ get_or classes i d → class ≡ i
    → statics_of 0 (take (i + 1) classes) ≡ statics_of 0 (take i classes) ++ statics_among class 0 d.fields.now
statics_more classes i class d less is same =
    let more : take (i + 1) classes ≡ take i classes ++ d ∷ [] = rw (take_more classes i d less, ← is) refl in
    let at : 0 + length (take i classes) ≡ class = omega (arith, length-take {A = DeclaredFields}, same) in
    ap (statics_of 0) more ∙ statics_push 0 (take i classes) d ∙ ap (λ n. statics_of 0 (take i classes) ++ statics_among n 0 d.fields.now) at
