-- What was written so far, and what is left to be written.
use Rattle.std.proofs.Common.{◌≡◌, ℕ, List, [], ◌++◌, drop}
use Rattle.std.specs.List.{flat_map}
use Rattle.jm_page.specs.Listings.{class_rows}
use Rattle.jm_film.proofs.front.put_classes.Given as goal

abbrev pub invariant-loop-class : goal.invariant-loop-class
invariant-loop-class g l = (l.piece.items ≡ []) × ((done : List ℕ) × (g.P.PageWriter.wrote l.initial.page done l.page)
    × (flat_map class_rows l.program ≡ done ++ flat_map class_rows (drop l.class-index l.program)))
