use Rattle.jm_interp.proofs.Objects.{lies, told}
use Rattle.jm_interp.proofs.StringRows.{no_length, its_array, length_gives}
use Rattle.jm_interp.proofs.StringText.{it}
use Rattle.jm_interp.proofs.string_methods.length_of.Goals as goal

pub chars_of-requires : goal.chars_of-requires
chars_of-requires g c = lies c.requires.here.on (it c.requires.here c.args.string c.requires.held)

pub returns-in_default : goal.returns-in_default
returns-in_default g c =
    let h = c.requires.here in
    no_length h c.args.string c.requires.held (told h.on (it h c.args.string c.requires.held) c.in_default.ensures.chars)

pub length-requires : goal.length-requires
length-requires g c =
    let h = c.requires.here in
    let is = told h.on (it h c.args.string c.requires.held) c.in-Some.ensures.chars in
    lies h.on (its_array h c.args.string c.requires.held is c.in-Some.ensures.resident)

pub returns-in-Some-value_of : goal.returns-in-Some-value_of
returns-in-Some-value_of g c =
    let h = c.requires.here in
    let is = told h.on (it h c.args.string c.requires.held) c.in-Some.ensures.chars in
    let there = c.in-Some.ensures.resident in
    let array = its_array h c.args.string c.requires.held is there in
    length_gives h c.args.string c.requires.held is there (told h.on array c.length.ensures) c.in-Some-value_of.ensures
