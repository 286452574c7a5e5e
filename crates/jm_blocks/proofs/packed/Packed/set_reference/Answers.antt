use Rattle.std.proofs.Common.{◌≡◌, ◌≢◌, ◌<◌, ℕ, refl, arith, rules, subst, sym, length}
use Rattle.std.proofs.lemmas.List.{length-map}
use Rattle.jm_values.specs.declared.value.Value.TheVariants.{Ref}
use Rattle.jm_heap.specs.Packing.{Fits, Lists, list_of, reference}
use Rattle.jm_heap.specs.declared.storage.Storage.{Storage as Kind}
use Rattle.jm_heap.specs.declared.storage.Storage.TheVariants as kind
use Rattle.jm_blocks.proofs.packed.Packed.set_reference.Goals as goal

-- what lies no field and can be a reference is one of an array
only_references : (k : Kind) (p : ℕ) → Fits k (Ref p) → k ≢ kind.Fields → k ≡ kind.References
only_references kind.Fields p fits other = absurd (other refl)
only_references kind.References p fits other = refl
only_references kind.Bytes p fits other = absurd fits
only_references kind.Chars p fits other = absurd fits
only_references kind.Shorts p fits other = absurd fits
only_references kind.Ints p fits other = absurd fits
only_references kind.Longs p fits other = absurd fits

pub set_in-requires-in_default : goal.set_in-requires-in_default
set_in-requires-in_default c =
    let is = only_references c.args.kind c.args.place c.requires.fits c.in_default.not-Fields in
    let there : c.args.at < length (list_of kind.References c.args.self.now) = subst (λ k. c.args.at < length (list_of k c.args.self.now)) is c.requires.there in
    record { there = omega (arith, subst (λ (l : Lists). c.args.at < length l.references) (sym c.self.view_is) there, length-map c.self.inside.references.items reference); fits = tt }

pub returns-in_default : goal.returns-in_default
returns-in_default c =
    let is = only_references c.args.kind c.args.place c.requires.fits c.in_default.not-Fields in
    rw is (search rules)
