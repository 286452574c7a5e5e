use Rattle.std.proofs.Common.{◌≡◌, Some, ◌++◌, ◌∷◌, [], refl, sym, ap, length, ◌∙◌}
use Rattle.std.specs.Prelude.{slice_get, slice_set}
use Rattle.std.proofs.Math.Seq.{set-append_seam}
use Rattle.std.proofs.lemmas.Option.{slice_get_within, slice_get_read}
use Rattle.jm_program.proofs.Sequences.{got_last}
use Rattle.jm_blocks.specs.Entries.{copied}
use Rattle.jm_blocks.proofs.contents.push_entry.Goals as goal

pub returns : goal.returns
returns c =
    let old = c.args.entries.now.items in
    let at = c.len-count.ensures ∙ c.args.entries.now.ok.0 in
    let found : slice_get c.push_reserved.new.self.items c.len-count.result ≡ Some c.args.entry.now = ap (λ es. slice_get es c.len-count.result) c.push_reserved.ensures.items ∙ ap (slice_get (old ++ c.args.entry.now ∷ [])) at ∙ got_last old c.args.entry.now in
    let read : slice_get c.push_reserved.new.self.items c.len-count.result ≡ Some c.index_mut-last.result.now = slice_get_read c.push_reserved.new.self.items (length c.push_reserved.new.self.items) c.len-count.result c.index_mut-last.result.now refl (slice_get_within c.push_reserved.new.self.items c.len-count.result c.args.entry.now found) c.index_mut-last.ensures.value in
    let both : Some c.index_mut-last.result.now ≡ Some c.args.entry.now = sym read ∙ found in
    let is : c.index_mut-last.result.now ≡ c.args.entry.now = cc in
    ap (λ es. slice_set es c.len-count.result c.become_copy.new.self) c.push_reserved.ensures.items
    ∙ ap (λ n. slice_set (old ++ c.args.entry.now ∷ []) n c.become_copy.new.self) at
    ∙ set-append_seam old c.args.entry.now [] c.become_copy.new.self
    ∙ ap (λ e. old ++ e ∷ []) (c.become_copy.ensures ∙ ap (λ e. copied e c.args.age c.args.start) is)
