-- The fields of remembered objects, moved and written back.
use Rattle.std.proofs.Common.{◌≡◌, ℕ, List, [], ◌∷◌, ◌++◌, Some, refl, sym, ap, ◌∙◌, subst, inl, inr, length, arith}
use Rattle.std.specs.Prelude.{map, drop}
use Rattle.std.proofs.Math.Seq.{drop-append_seam}
use Rattle.std.proofs.lemmas.List.{length-map, map-append}
use Rattle.jm_values.specs.declared.value.Value.{Value}
use Rattle.jm_values.specs.Shape.{Among}
use Rattle.jm_values.specs.Rename.{rename, stack_shape}
use Rattle.jm_values.proofs.Among.{among_left, among_right}
use Rattle.jm_values.proofs.Renaming.{stack_is_shape}
use Rattle.jm_blocks.specs.Objects.{Object}
use Rattle.jm_blocks.specs.Stores.{Blocks, objects_in}
use Rattle.jm_gen_heap.specs.Collections.{refs_in, fields_of, with_values, AreRefilled}
use Rattle.jm_program.proofs.Texts.{map_same as unnamed_map}

-- values whose references are others in order have them under other names
pub refilled_values : (m : ℕ → ℕ) (vs : List Value) (rest : List ℕ) → stack_shape.refill (map m (stack_shape.refs vs) ++ rest) vs ≡ map (rename m) vs
refilled_values m vs rest =
    let laws = stack_is_shape vs in
    sym (stack_is_shape (stack_shape.refill (map m (stack_shape.refs vs) ++ rest) vs)).keeps
    ∙ laws.moved m (λ q. q) (map m (stack_shape.refs vs)) rest (unnamed_map (map m (stack_shape.refs vs)))

-- a reference of one of the objects is among the fields
pub among_fields : (s : Blocks) (ps : List ℕ) (p q : ℕ) (o : Object) → Among p ps → objects_in s p ≡ Some o → Among q (stack_shape.refs o.values) → Among q (fields_of s ps)
among_fields s [] p q o a e r = absurd a
among_fields s (x ∷ ps) p q o (inl f) e r =
    among_left q (refs_in (objects_in s x)) (fields_of s ps) (subst (λ y. Among q (refs_in y)) (sym e ∙ ap (objects_in s) f) r)
among_fields s (x ∷ ps) p q o (inr a) e r = among_right q (refs_in (objects_in s x)) (fields_of s ps) (among_fields s ps p q o a e r)

-- stores that have the same at places have the same fields
pub same_fields : (s t : Blocks) (ps : List ℕ) → ((p : ℕ) → Among p ps → objects_in t p ≡ objects_in s p) → fields_of t ps ≡ fields_of s ps
same_fields s t [] h = refl
same_fields s t (p ∷ ps) h =
    ap (λ l. l ++ fields_of t ps) (ap refs_in (h p (inl refl)))
    ∙ ap (λ l. refs_in (objects_in s p) ++ l) (same_fields s t ps (λ q a. h q (inr a)))

dropped : (m : ℕ → ℕ) (ns ms : List ℕ) → drop (length ns) (map m (ns ++ ms)) ≡ map m ms
dropped m ns ms =
    ap (drop (length ns)) (map-append m ns ms)
    ∙ ap (λ k. drop k (map m ns ++ map m ms)) (sym (length-map ns m))
    ∙ drop-append_seam (map m ns) (map m ms)

-- objects that are refilled with the moved fields are as they were under other names
pub refilled_renamed : (m : ℕ → ℕ) (s t : Blocks) (ps names : List ℕ) → names ≡ map m (fields_of s ps) → AreRefilled ps names s t → (p : ℕ) (o : Object) → Among p ps → objects_in s p ≡ Some o → objects_in t p ≡ Some (with_values o (map (rename m) o.values))
refilled_renamed m s t [] names n r p o a e = absurd a
refilled_renamed m s t (x ∷ ps) names n r p o (inl f) e =
    let here : objects_in s x ≡ Some o = ap (objects_in s) (sym f) ∙ e in
    let first : names ≡ map m (stack_shape.refs o.values) ++ map m (fields_of s ps) = n ∙ ap (λ y. map m (refs_in y ++ fields_of s ps)) here ∙ map-append m (stack_shape.refs o.values) (fields_of s ps) in
    ap (objects_in t) f
    ∙ r.0 o here
    ∙ ap (λ vs. Some (with_values o vs)) (ap (λ l. stack_shape.refill l o.values) first ∙ refilled_values m o.values (map m (fields_of s ps)))
refilled_renamed m s t (x ∷ ps) names n r p o (inr a) e =
    refilled_renamed m s t ps (drop (length (refs_in (objects_in s x))) names) (ap (drop (length (refs_in (objects_in s x)))) n ∙ dropped m (refs_in (objects_in s x)) (fields_of s ps)) r.1 p o a e

-- what comes first of moved places, and what follows, are the moved first and following ones
pub moved_apart : (m : ℕ → ℕ) (ps qs ns ms : List ℕ) → ns ++ ms ≡ map m (ps ++ qs) → length ns ≡ length ps → (ns ≡ map m ps) × (ms ≡ map m qs)
moved_apart m [] qs [] ms e l = (refl, e)
moved_apart m [] qs (n ∷ ns) ms e l = absurd (omega (arith, l))
moved_apart m (p ∷ ps) qs [] ms e l = absurd (omega (arith, l))
moved_apart m (p ∷ ps) qs (n ∷ ns) ms e l =
    let head : n ≡ m p = cc in
    let tail : ns ++ ms ≡ map m (ps ++ qs) = cc in
    let rest = moved_apart m ps qs ns ms tail (omega (arith, l)) in
    (ap (λ x. x ∷ ns) head ∙ ap (λ x. m p ∷ x) rest.0, rest.1)
