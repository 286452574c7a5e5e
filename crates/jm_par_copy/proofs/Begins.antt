-- A round begins.
use Rattle.std.proofs.Common.{◌≡◌, ◌++◌, ℕ, Option, List, sym, ap, ◌∙◌, subst, length, arith}
use Rattle.std.proofs.Math.Seq.{drop-length}
use Rattle.std.proofs.lemmas.List.{append-nil}
use Rattle.jm_blocks.specs.Objects.{Object}
use Rattle.jm_blocks.specs.Stores.{Blocks}
use Rattle.jm_forward.specs.declared.rule.Hand.{Hand}
use Rattle.jm_copy.specs.Copying.{Copying, Progress}
use Rattle.jm_copy.specs.Condemned.{objects_at}
use Rattle.jm_copy.specs.Copies.{made}
use Rattle.jm_copy.specs.declared.copies.Copies.{Copies}
use Rattle.jm_par_copy.specs.Working.{IsWorking, Pairs, both, known_to, held_by}
use Rattle.jm_par_copy.specs.Begins.{IsLocal}
use Rattle.jm_par_copy.proofs.Listing.{has_from, contains_from, has_left}
use Rattle.jm_par_copy.proofs.Sharing.{copying_knows, pairs_more}

-- a copier with its share, as it is told to it
pub working_begins : (stores : List Blocks) (roots : List ℕ) (known held : List (ℕ × ℕ)) (rest : ℕ → Option Object) (h : Hand) (c : Copies) (done : Progress) → IsLocal stores rest h c done → Copying (objects_at stores) roots (Pairs stores known) (Pairs stores held) (both (made c) rest) done → IsWorking stores roots known held (length h.wins) rest h c done
working_begins stores roots known held rest h c done own here =
    let more = copying_knows (Pairs stores known) (Pairs stores (known_to known h)) (Pairs stores held) (both (made c) rest) done (pairs_more stores known (known_to known h) (λ w k. contains_from (known ++ h.known) w (has_left known h.known w (has_from known w k)))) here in
    let same : held ≡ held_by held (length h.wins) h = sym (append-nil held) ∙ ap (λ ws. held ++ ws) (sym (drop-length h.wins)) in
    record {
      copying = subst (λ ws. Copying (objects_at stores) roots (Pairs stores (known_to known h)) (Pairs stores ws) (both (made c) rest) done) same more;
      recent = omega arith;
      apart = own.apart;
      kept = own.kept;
      ages = own.ages;
      dated = own.dated;
      taken = own.taken;
      free = own.free;
      once = own.once;
      ahead = own.ahead;
    }
