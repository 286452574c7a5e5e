use Rattle.std.proofs.Common.{◌∙◌, ap, arith, length, subst}
use Rattle.std.specs.Prelude.{slice_set}
use Rattle.jm_copy.specs.Copying.{raw_copy}
use Rattle.jm_copy.specs.Copies.{IsPut}
use Rattle.jm_copy.proofs.forward.copy.Goals as goal

pub set-requires : goal.set-requires
set-requires c =
    let put = c.in_ok-place.ensures.ok c.requires.there.0 c.requires.there.1 in
    let many = ap length put.words in
    omega (arith, c.requires.within, many)

pub returns-clause-ok : goal.returns-clause-ok
returns-clause-ok c o e =
    let put = c.in_ok-place.ensures.ok o e in
    let d = c.put.new.self in
    record {
      put = subst (λ ws. IsPut c.args.to.now (record { words = ws; young = d.young; tenured = d.tenured; kept = d.kept }) c.in_ok-place.place (raw_copy o)) put.words put;
      words = c.set.ensures.value ∙ ap (λ ws. slice_set ws c.args.number c.in_ok-place.place) put.words;
      some = c.set.ensures.some;
    }
