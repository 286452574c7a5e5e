use Rattle.std.proofs.Common.{◌<◌, sym, ap, ◌∙◌, subst}
use Rattle.std.specs.Prelude.{vec_len, vec_capacity}
use Rattle.jm_linked.proofs.BuiltInNumbers.{names_built_in}
use Rattle.jm_frames.specs.FrameView.{FrameView}
use Rattle.jm_state.specs.declared.thread.Thread as held
use Rattle.jm_interp.proofs.Called.{too_deep, still_framed, no_memory, enters_held, enters_not, entered_in, same_thread, calls_so}
use Rattle.jm_interp.proofs.Entered.{as_end}
use Rattle.jm_interp.proofs.OnThread.{within, read}
use Rattle.jm_interp.proofs.calls.call.Goals as goal

pub returns-then-len-ge512-clause-does : goal.returns-then-len-ge512-clause-does
returns-then-len-ge512-clause-does g c found code is =
    too_deep is c.args.count c.args.monitor c.requires.on c.requires.operand c.index.ensures c.len.ensures c.if-len-ge512.true
    (names_built_in c.args.at.linked.now.program c.number.result _ c.number.ensures.named) c.throws.ensures.does

pub index_mut-requires : goal.index_mut-requires
index_mut-requires g c = within c.requires.on.on

pub frame_of-made-requires : goal.frame_of-made-requires
frame_of-made-requires g c =
    record { frame = _; below = _; rest = _; stands = read c.requires.on.on c.index_mut.ensures.value; has = c.requires.has }

pub returns-in_default-clause-does : goal.returns-in_default-clause-does
returns-in_default-clause-does g c found code is =
    no_memory is c.args.count c.args.monitor c.requires.on c.requires.operand c.index.ensures c.len.ensures c.if-len-ge512.false
    (c.frame_of-made.ensures.stays _ _ (read c.requires.on.on c.index_mut.ensures.value))

pub enter_if-requires-clause-on : goal.enter_if-requires-clause-on
enter_if-requires-clause-on g c =
    still_framed c.requires.on (c.frame_of-made.ensures.stays _ _ (read c.requires.on.on c.index_mut.ensures.value))

pub enter_if-requires-clause-held : goal.enter_if-requires-clause-held
enter_if-requires-clause-held g c =
    let h = c.requires.on in
    let its = c.in-Ok.ensures.frame c.requires.has.method c.requires.has.method_is _ _ _ (read h.on c.index_mut.ensures.value) in
    enters_held h (c.frame_of-made.ensures.stays _ _ (read h.on c.index_mut.ensures.value))
    (c.monitor.ensures ∙ ap (λ (f : FrameView). f.monitor) its) c.requires.operand

pub index_mut-requires-in-Ok-Done : goal.index_mut-requires-in-Ok-Done
index_mut-requires-in-Ok-Done g c =
    let h = c.requires.on in
    let its = c.in-Ok.ensures.frame c.requires.has.method c.requires.has.method_is _ _ _ (read h.on c.index_mut.ensures.value) in
    within (entered_in h (c.frame_of-made.ensures.stays _ _ (read h.on c.index_mut.ensures.value))
    (c.monitor.ensures ∙ ap (λ (f : FrameView). f.monitor) its) c.enter_if.ensures.rest (as_end c.in-Ok-Done.field-0-is c.in-Ok-Done.ensures.does)).on

pub push_called-requires-clause-method : goal.push_called-requires-clause-method
push_called-requires-clause-method g c =
    let h = c.requires.on in
    let its = c.in-Ok.ensures.frame c.requires.has.method c.requires.has.method_is _ _ _ (read h.on c.index_mut.ensures.value) in
    let k = entered_in h (c.frame_of-made.ensures.stays _ _ (read h.on c.index_mut.ensures.value))
    (c.monitor.ensures ∙ ap (λ (f : FrameView). f.monitor) its) c.enter_if.ensures.rest (as_end c.in-Ok-Done.field-0-is c.in-Ok-Done.ensures.does) in
    (_, _, _, read k.on c.index_mut-in-Ok-Done.ensures.value)

pub push_called-requires-clause-room : goal.push_called-requires-clause-room
push_called-requires-clause-room g c =
    let h = c.requires.on in
    let same = same_thread h (c.frame_of-made.ensures.stays _ _ (read h.on c.index_mut.ensures.value)) c.enter_if.ensures.rest
    c.index_mut-in-Ok-Done.ensures.value in
    subst (λ (t : held.Thread). vec_len t.frames < vec_capacity t.frames) (sym same) c.in-Ok.ensures.room

pub returns-in-Ok-Done-clause-does : goal.returns-in-Ok-Done-clause-does
returns-in-Ok-Done-clause-does g c found code is =
    let h = c.requires.on in
    let its = c.in-Ok.ensures.frame is.method is.method_is _ _ _ (read h.on c.index_mut.ensures.value) in
    let stays = c.frame_of-made.ensures.stays _ _ (read h.on c.index_mut.ensures.value) in
    let same = c.monitor.ensures ∙ ap (λ (f : FrameView). f.monitor) its in
    let done = as_end c.in-Ok-Done.field-0-is c.in-Ok-Done.ensures.does in
    let k = entered_in h stays same c.enter_if.ensures.rest done in
    calls_so is c.args.count c.args.monitor h c.requires.operand c.index.ensures c.len.ensures c.if-len-ge512.false stays same c.enter_if.ensures.rest done
    its (c.push_called.ensures _ _ _ (read k.on c.index_mut-in-Ok-Done.ensures.value))

pub returns-in-Ok-Blocked-clause-does : goal.returns-in-Ok-Blocked-clause-does
returns-in-Ok-Blocked-clause-does g c found code is =
    let h = c.requires.on in
    let its = c.in-Ok.ensures.frame is.method is.method_is _ _ _ (read h.on c.index_mut.ensures.value) in
    enters_not is c.args.count c.args.monitor h c.requires.operand c.index.ensures c.len.ensures c.if-len-ge512.false
    (c.frame_of-made.ensures.stays _ _ (read h.on c.index_mut.ensures.value)) (c.monitor.ensures ∙ ap (λ (f : FrameView). f.monitor) its)
    c.enter_if.ensures.rest tt (as_end c.in-Ok-Blocked.field-0-is c.in-Ok-Blocked.ensures.does)

pub returns-in-Err-clause-does : goal.returns-in-Err-clause-does
returns-in-Err-clause-does g c found code is =
    let h = c.requires.on in
    let its = c.in-Ok.ensures.frame is.method is.method_is _ _ _ (read h.on c.index_mut.ensures.value) in
    enters_not is c.args.count c.args.monitor h c.requires.operand c.index.ensures c.len.ensures c.if-len-ge512.false
    (c.frame_of-made.ensures.stays _ _ (read h.on c.index_mut.ensures.value)) (c.monitor.ensures ∙ ap (λ (f : FrameView). f.monitor) its)
    c.enter_if.ensures.rest tt c.in-Err.ensures.does
