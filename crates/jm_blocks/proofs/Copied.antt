-- A block with a copy more of an object of some block.
use Rattle.std.proofs.Common.{◌≡◌, ℕ, ◌+◌, ◌<◌, ◌^◌, List, [], ◌∷◌, ◌++◌, Some, true, refl, sym, ap, ◌∙◌, length, map, take, drop, arith}
use Rattle.std.specs.Prelude.{slice_get}
use Rattle.jm_values.specs.declared.value.Value.{Value}
use Rattle.jm_heap.specs.Packing.{Lists, list_of, with_list}
use Rattle.jm_blocks.specs.Objects.{Object, aged}
use Rattle.jm_blocks.specs.Cells.{object_cells, has_room}
use Rattle.jm_blocks.specs.Entries.{Entry, copied}
use Rattle.jm_blocks.specs.Spelled.{spelled, entry_cells, entry_kind, entry_object, IsBlock}
use Rattle.jm_blocks.proofs.Spelling.{entry_within, part_length, spelled_more}
use Rattle.jm_blocks.proofs.Sizes.{block_more, entry_size}

-- its values where they lie
abbrev pub values_of : Lists → Entry → List Value
values_of l e = take e.length (drop e.start (list_of (entry_kind e) l))

module _ (es fs : List Entry) (l m : Lists) (cells others k age start : ℕ) (e : Entry) (o : Object) (block : IsBlock es l cells) (from : IsBlock fs m others) (there : slice_get fs k ≡ Some e) (is : entry_object m e ≡ o) (begins : start ≡ length (list_of (entry_kind e) l)) where
  many : e.length ≡ length (values_of m e)
  many = part_length e.length e.start (list_of (entry_kind e) m) (entry_within fs m others k e from there)

  pub block_copied : e.length < 2 ^ 32 → has_room (map entry_cells es) (object_cells o) ≡ true → IsBlock (es ++ copied e age start ∷ []) (with_list (entry_kind e) (list_of (entry_kind e) l ++ values_of m e) l) (cells + entry_cells e)
  block_copied short room = block_more es l (entry_kind e) (values_of m e) (copied e age start) cells block refl begins many (let same = many in omega (arith, short, same)) (ap (has_room (map entry_cells es)) (sym (entry_size fs m others k e from there) ∙ ap object_cells is) ∙ room)

  pub spelled_copied : spelled (es ++ copied e age start ∷ []) (with_list (entry_kind e) (list_of (entry_kind e) l ++ values_of m e) l) ≡ spelled es l ++ aged age o ∷ []
  spelled_copied = spelled_more es l cells (entry_kind e) (values_of m e) (copied e age start) block refl begins many ∙ ap (λ x. spelled es l ++ aged age x ∷ []) is
