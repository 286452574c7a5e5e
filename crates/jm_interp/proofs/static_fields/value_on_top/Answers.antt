use Rattle.std.proofs.Common.{refl, sym, ap, ◌∙◌}
use Rattle.std.proofs.lemmas.Result.{err_from_is_err_and}
use Rattle.jm_world.specs.Types.{operand_of, narrow}
use Rattle.jm_interp.proofs.OnThread.{within, read}
use Rattle.jm_interp.proofs.OnTop.{found_operand}
use Rattle.jm_interp.proofs.StaticRows.{found, found_static, put_refused, put_comes}
use Rattle.jm_interp.proofs.static_fields.value_on_top.Goals as goal

pub index-requires : goal.index-requires
index-requires g c = within c.requires.on.method.on

pub operand_at-requires : goal.operand_at-requires
operand_at-requires g c = (_, _, _, read c.requires.on.method.on c.index.ensures)

pub returns-in_err-value : goal.returns-in_err-value
returns-in_err-value g c =
    let h = c.requires.on in
    let own = c.in-Some-own_type.ensures (found h) h.is.numbered in
    let left = err_from_is_err_and c.from_residual.result c.from_residual.ensures.1 in
    rw (left.1, left.2) (put_refused h c.requires.ready refl
    (found_operand h.method 0 c.index.ensures (operand_of (found h).field.descriptor) (c.operand_of_type.ensures ∙ ap operand_of own) c.in_err-value.ensures))

pub returns : goal.returns
returns g c =
    let h = c.requires.on in
    let own = c.in-Some-own_type.ensures (found h) h.is.numbered in
    let value = found_operand h.method 0 c.index.ensures (operand_of (found h).field.descriptor) (c.operand_of_type.ensures ∙ ap operand_of own)
    c.in_ok-value.ensures in
    put_comes h c.requires.ready refl value (c.narrow.ensures ∙ ap (λ t. narrow t c.in_ok-value.value) own)
    (sym (c.in-Some.ensures (found h) h.is.numbered (found_static h refl)))
