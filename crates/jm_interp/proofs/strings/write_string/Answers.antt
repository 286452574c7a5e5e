use Rattle.std.proofs.Common.{refl, ap, ◌∙◌, inl}
use Rattle.jm_values.specs.Content.{object_at}
use Rattle.jm_values.proofs.SoundContents.{object_of_place, name_is}
use Rattle.jm_world.specs.Text.{units_of, utf8_text}
use Rattle.jm_interp.proofs.strings.write_string.Goals as goal

pub write_chars-requires : goal.write_chars-requires
write_chars-requires g c =
    let k = c.in-Some.ensures.resident c.in-Some.chars (inl refl) in
    let o = object_of_place (g.H.Heap.content c.args.heap.now) c.in-Some.chars k.0 k.1 in
    (k.0, o.0, k.1, o.1)

pub returns-in-Ok : goal.returns-in-Ok
returns-in-Ok g c =
    let content = g.H.Heap.content c.args.heap.now in
    let resident = c.in-Some.ensures.resident c.in-Some.chars (inl refl) in
    let k = resident.0 in
    let serial = resident.1 in
    let (o, is) = object_of_place content c.in-Some.chars k serial in (
      utf8_text (units_of o.values),
      λ j p is_there is_that. record {
        chars = _;
        array = o;
        chars_are = c.in-Some.ensures.chars j p is_there is_that;
        array_is = ap (object_at content) (name_is content c.in-Some.chars k serial) ∙ is;
        bytes_are = refl;
      },
      c.in-Ok.ensures k o serial is,
    )
