use Rattle.std.proofs.Common.{◌≡◌, ◌∙◌, ◌<◌, ap, Some, length, refl, rules, sym}
use Rattle.std.specs.Prelude.{slice_get}
use Rattle.jm_values.proofs.Lists.{get_at}
use Rattle.jm_heap.specs.Elements.{elements}
use Rattle.jm_interp.proofs.Fitting.{no_string}
use Rattle.jm_interp.proofs.StringText.{other_chars, no_chars, first_chars_are, value_of, named_chars, names_none}
use Rattle.jm_interp.proofs.strings.chars_of.Goals as goal

pub returns-then-not-is_string-clause-chars : goal.returns-then-not-is_string-clause-chars
returns-then-not-is_string-clause-chars g c k o serial is =
    other_chars o (c.object-class.ensures.class k o serial is) c.is_string.ensures c.if-not-is_string.true

pub returns-in_default-clause-chars : goal.returns-in_default-clause-chars
returns-in_default-clause-chars g c k o serial is =
    other_chars o (c.object-class.ensures.class k o serial is) refl
    (no_string c.object-class.result.0 c.object-class.result.1 c.object-class.ensures.lie c.in_default.not-Fields)

pub returns-in-Ref-clause-chars : goal.returns-in-Ref-clause-chars
returns-in-Ref-clause-chars g c k o serial is =
    let values = c.in-Fields.values.now in
    let some : 0 < length values = search rules in
    let read = ap (λ e. slice_get (elements e) 0) c.in-Fields.is ∙ get_at values 0 c.in-Some.first.now some (search rules) in
    first_chars_are o (c.object-class.ensures.class k o serial is) c.is_string.ensures c.if-not-is_string.false
    (value_of _ _ (c.object-class.ensures.values 0 _ read) k o serial is)
    ∙ named_chars _ c.in-Ref.is

pub returns-in-Ref-clause-resident : goal.returns-in-Ref-clause-resident
returns-in-Ref-clause-resident g c =
    let values = c.in-Fields.values.now in
    let some : 0 < length values = search rules in
    c.object-class.ensures.resident 0 _ (ap (λ e. slice_get (elements e) 0) c.in-Fields.is
    ∙ get_at values 0 c.in-Some.first.now some (search rules) ∙ ap Some c.in-Ref.is)

pub returns-in-Int-clause-chars : goal.returns-in-Int-clause-chars
returns-in-Int-clause-chars g c k o serial is =
    let values = c.in-Fields.values.now in
    let some : 0 < length values = search rules in
    let read = ap (λ e. slice_get (elements e) 0) c.in-Fields.is ∙ get_at values 0 c.in-Some.first.now some (search rules) in
    first_chars_are o (c.object-class.ensures.class k o serial is) c.is_string.ensures c.if-not-is_string.false
    (value_of _ _ (c.object-class.ensures.values 0 _ read) k o serial is)
    ∙ named_chars _ refl
    ∙ names_none _ _ c.in-Int.is

pub returns-in-None-clause-chars : goal.returns-in-None-clause-chars
returns-in-None-clause-chars g c k o serial is =
    let none : length c.in-Fields.values.now ≡ 0 = search rules in
    no_chars o (c.object-class.ensures.class k o serial is) c.is_string.ensures c.if-not-is_string.false
    (sym (c.object-class.ensures.length k o serial is) ∙ ap (λ e. length (elements e)) c.in-Fields.is ∙ none)
