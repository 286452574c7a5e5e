use Rattle.std.proofs.Common.{◌∙◌, ap, subst}
use Rattle.jm_values.specs.Content.{AllResident, HasValue, name_of, serial_at, object_at}
use Rattle.jm_values.specs.Rename.{refs, rename}
use Rattle.jm_gen_heap.specs.Residents.{content_of}
use Rattle.jm_gen_heap.proofs.Reading.{class_is, length_is, value_is, value_resident}
use Rattle.jm_gen_heap.proofs.gen_heap.GenHeap.object.Goals as goal

pub object_at-requires : goal.object_at-requires
object_at-requires g c = (c.requires.0, ap (λ x. serial_at (content_of x) c.args.place) c.self.view_is ∙ c.requires.2)

pub returns-clause-class : goal.returns-clause-class
returns-clause-class g c k o e f =
    let here = ap (λ x. serial_at (content_of x) c.args.place) c.self.view_is ∙ e in
    let there = ap (λ x. object_at (content_of x) k) c.self.view_is ∙ f in
    class_is c.self.inside.generations c.object_at.ensures.keeps c.args.place k _ o here there c.object_at.ensures.value

pub returns-clause-length : goal.returns-clause-length
returns-clause-length g c k o e f =
    let here = ap (λ x. serial_at (content_of x) c.args.place) c.self.view_is ∙ e in
    let there = ap (λ x. object_at (content_of x) k) c.self.view_is ∙ f in
    length_is c.self.inside.generations c.object_at.ensures.keeps c.args.place k _ o here there c.object_at.ensures.value

pub returns-clause-values : goal.returns-clause-values
returns-clause-values g c i v e =
    subst (λ x. HasValue (content_of x) c.args.place i (rename (name_of (content_of x)) v)) c.self.view_is
    (value_is c.self.inside.generations c.object_at.ensures.keeps c.args.place i _ v c.object_at.ensures.value e)

pub returns-clause-resident : goal.returns-clause-resident
returns-clause-resident g c i v e =
    subst (λ x. AllResident (content_of x) (refs v)) c.self.view_is (value_resident c.self.inside.generations c.object_at.ensures.keeps c.args.place i _ v c.object_at.ensures.value e)
