use Rattle.std.proofs.Common.{◌+◌, ◌∷◌, refl}
use Rattle.jm_frames.specs.FrameView.{FrameView, with_stack, gone_to}
use Rattle.jm_interp.proofs.GoingOn.{goes_on}
use Rattle.jm_interp.proofs.OnThread.{read}
use Rattle.jm_interp.proofs.Pushed.{comes_held, fits}
use Rattle.jm_interp.proofs.Replaced.{replaced}
use Rattle.jm_interp.proofs.constants.try_push.Goals as goal

pub replace_top-requires : goal.replace_top-requires
replace_top-requires g c =
    let h = c.requires.here.0 in
    let s = c.args.state.now in (
      _,
      _,
      _,
      read h.on c.index_mut.ensures.value,
      c.requires.here.1,
      fits {content = g.H.Heap.content} {at = c.args.at} {old = s} c.args.value c.index.ensures c.has_room_for.ensures c.if-not-has_room_for.false h,
    )

pub returns : goal.returns
returns g c =
    let h = c.requires.here.0 in
    let to : FrameView → FrameView = λ f. gone_to (with_stack f (c.args.value ∷ f.activation.stack)) (f.activation.at + 1) in
    goes_on to (λ f. refl) refl refl refl c.index_mut.ensures.value c.replace_top.ensures
    (replaced h 0 c.args.value (c.replace_top.ensures _ _ _ (read h.on c.index_mut.ensures.value))
    (comes_held c.requires.pushes (fits c.args.value c.index.ensures c.has_room_for.ensures c.if-not-has_room_for.false)))
