-- One byte more.
use Rattle.std.proofs.Common.{◌≡◌, [], ◌∷◌, ◌+◌, ◌++◌, Bool, ap, sym, ◌∙◌, append-nil, append_assoc, drop, nat_eq, slice_index_or}
use Rattle.std.proofs.lemmas.List.{at_drop_more}
use Rattle.jm_explore.specs.Marked.{Text, mark_where}
use Rattle.jm_explore.proofs.MarkedLines.{byte_more, left_from}
use Rattle.jm_explore.proofs.marked.add_marked.Goals.{then-begins+in_ok-extend_from_slice, else-begins}
use Rattle.jm_explore.proofs.marked.add_marked.Goals as goal

pub loop-byte-preserved : goal.loop-byte-preserved
loop-byte-preserved c =
    let begins = c.loop-byte.begins in
    let mark = c.args.mark.now in
    let old = c.loop-byte.text.items in
    let bytes = c.args.bytes.now in
    let i = c.loop-byte.byte-index in
    let b = slice_index_or bytes i 0 in
    let rest = left_from (nat_eq b 10) mark (drop (i + 1) bytes) in
    let there = at_drop_more (left_from begins mark) bytes i 0 c.loop-byte-test.true ∙ byte_more begins mark b (drop (i + 1) bytes) in
    let begun : c.if-begins.text.items ≡ old ++ mark_where begins mark = elim c.if-begins.branch [
      | then-begins+in_ok-extend_from_slice w ↦ ap (λ t. t.items) w.text-is ∙ w.in_ok-extend_from_slice.ensures.items
          ∙ ap (λ (t : Text). old ++ t) (w.as_bytes.ensures.value ∙ ap (λ (x : Bool). mark_where x mark) (sym w.if-begins.true))
      | else-begins w ↦ ap (λ t. t.items) w.text-is ∙ sym (append-nil old) ∙ ap (λ (x : Bool). old ++ mark_where x mark) (sym w.if-begins.false)
    ] in
    ap (λ (t : Text). t ++ rest) (c.in_ok-push.ensures.items ∙ ap (λ (t : Text). t ++ (b ∷ [])) begun) ∙ append_assoc (old ++ mark_where begins mark) (b ∷ []) rest
    ∙ append_assoc old (mark_where begins mark) (b ∷ rest) ∙ ap (λ (t : Text). old ++ t) (sym there) ∙ c.loop-byte.invariant
