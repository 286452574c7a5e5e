use mir.Syntax.{w32}
use mir.Val.{SFits}
use Rattle.std.proofs.Common.{◌<◌, rules, sym, ap, ◌∙◌, subst}
use Rattle.std.proofs.Math.Facts.{to_z-of_z}
use Rattle.jm_interp.specs.ArrayRows.{index_in}
use Rattle.jm_interp.proofs.ArrayRows.{category_at_most, index_below}
use Rattle.jm_interp.proofs.Objects.{lies, told}
use Rattle.jm_interp.proofs.StringRows.{no_char_of, its_array, char_past, char_gives}
use Rattle.jm_interp.proofs.StringText.{it}
use Rattle.jm_interp.proofs.string_methods.char_at.Goals as goal

pub chars_of-requires : goal.chars_of-requires
chars_of-requires g c = lies c.requires.here.on (it c.requires.here c.args.string c.requires.held)

pub returns-in_default : goal.returns-in_default
returns-in_default g c =
    let h = c.requires.here in
    no_char_of h c.args.string c.requires.held (told h.on (it h c.args.string c.requires.held) c.in_default.ensures.chars) c.args.index

pub object-class-requires : goal.object-class-requires
object-class-requires g c =
    let h = c.requires.here in
    let is = told h.on (it h c.args.string c.requires.held) c.in-Some.ensures.chars in
    lies h.on (its_array h c.args.string c.requires.held is c.in-Some.ensures.resident)

pub unit_of-requires : goal.unit_of-requires
unit_of-requires g c =
    let fits : SFits w32 c.args.index = search rules in
    let index = c.index_in.ensures ∙ ap (λ z. index_in z c.len.result) (to_z-of_z fits) in
    subst (λ n. c.in-Some-index_in.index < n) c.len.ensures (index_below _ _ _ (sym index ∙ c.in-Some-index_in.is))

pub returns-in-Some-index_in : goal.returns-in-Some-index_in
returns-in-Some-index_in g c =
    let h = c.requires.here in
    let is = told h.on (it h c.args.string c.requires.held) c.in-Some.ensures.chars in
    let there = c.in-Some.ensures.resident in
    let array = its_array h c.args.string c.requires.held is there in
    let fits : SFits w32 c.args.index = search rules in
    let index = c.index_in.ensures ∙ ap (λ z. index_in z c.len.result) (to_z-of_z fits) in
    char_gives h c.args.string c.requires.held is there (c.len.ensures ∙ told h.on array c.object-class.ensures.length) c.args.index index
    c.in-Some-index_in.is _ (c.object-class.ensures.values _ _ c.unit_of.ensures) (c.object-class.ensures.resident _ _ c.unit_of.ensures) (category_at_most _)

pub returns-in-None : goal.returns-in-None
returns-in-None g c =
    let h = c.requires.here in
    let is = told h.on (it h c.args.string c.requires.held) c.in-Some.ensures.chars in
    let there = c.in-Some.ensures.resident in
    let array = its_array h c.args.string c.requires.held is there in
    let fits : SFits w32 c.args.index = search rules in
    let index = c.index_in.ensures ∙ ap (λ z. index_in z c.len.result) (to_z-of_z fits) in
    char_past h c.args.string c.requires.held is there (c.len.ensures ∙ told h.on array c.object-class.ensures.length) c.args.index index c.in-None.is
