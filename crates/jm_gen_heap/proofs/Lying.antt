-- What a refusal leaves: where the objects lie.
use Rattle.std.proofs.Common.{ℕ, List, subst, inl, inr}
use Rattle.jm_gen_heap.specs.Generations.{Generations}
use Rattle.jm_gen_heap.specs.Allocating.{AllLieAsBefore, LieAsBeforeOrLeft}
use Rattle.jm_gen_heap.specs.Several.{IsAlike, IsReady}

-- what is alike lies as before
pub alike_lies : {g h : Generations} → IsAlike g h → AllLieAsBefore g h
alike_lies a = record { limit = a.limit; next = a.next; places = a.places }

-- behind a collection that made room, if one did, all lies as it left it
pub ready_lies : {g mid h : Generations} {roots moved : List ℕ} {cells : ℕ} → IsReady g mid roots moved cells → AllLieAsBefore mid h → LieAsBeforeOrLeft g h roots moved cells
ready_lies {h = h} (inl (fits, same, still)) l = inl (subst (λ x. AllLieAsBefore x h) same l, still)
ready_lies {mid = mid} (inr (fits, room)) l = inr (mid, room, l)
