use Rattle.std.proofs.Common.{refl, sym}
use Rattle.jm_interp.proofs.Pushed.{pushes_held}
use Rattle.jm_interp.proofs.StaticRows.{found, found_static, number_within, static_held, get_pushes}
use Rattle.jm_interp.proofs.static_fields.ready_value.Goals as goal

pub index-requires : goal.index-requires
index-requires g c =
    let h = c.requires.on in number_within h (sym (c.in_ok-number.ensures (found h) h.is.numbered (found_static h refl)))

pub returns : goal.returns
returns g c =
    let h = c.requires.on in
    let number = sym (c.in_ok-number.ensures (found h) h.is.numbered (found_static h refl)) in
    pushes_held h.method (get_pushes h c.requires.ready refl number c.index.ensures) (static_held h number c.index.ensures)
