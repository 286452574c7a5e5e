-- What was written so far, and what is left to be written.
use Rattle.std.proofs.Common.{◌≡◌, ℕ, List, [], ◌++◌, drop}
use Rattle.std.specs.List.{flat_map}
use Rattle.jm_page.specs.Listings.{source_rows}
use Rattle.jm_film.proofs.front.put_sources.Given as goal

abbrev pub invariant-loop-source : goal.invariant-loop-source
invariant-loop-source g l = (l.piece.items ≡ []) × ((done : List ℕ) × (g.P.PageWriter.wrote l.initial.page done l.page)
    × (flat_map source_rows l.sources ≡ done ++ flat_map source_rows (drop l.source-index l.sources)))
