-- The operands on top are the arguments, and have room.
use Rattle.std.proofs.Common.{◌++◌, ◌∙◌, ap, arith, length, length-append, sym}
use Rattle.std.specs.Prelude.{reverse}
use Rattle.jm_frames.specs.Called.{arguments_on, locals_of}
use Rattle.jm_frames.specs.FrameView.{FrameView}
use Rattle.jm_frames.proofs.Called.{is_called, last_are}
use Rattle.jm_frames.proofs.frame.Frame.call.Goals as goal

pub put_arguments-requires : goal.put_arguments-requires
put_arguments-requires c =
    let s = c.args.self.now.activation.stack in
    let on = last_are c.deref.result.now s c.args.count c.len.result
    (ap reverse c.deref.ensures.value ∙ ap (λ (f : FrameView). f.activation.stack) c.self.view_is) c.requires.enough
    (c.len.ensures ∙ c.self.inside.stack.ok.0 ∙ ap length (sym c.deref.ensures.value)) in
    let long = ap (λ l. length (locals_of l)) on in
    let none = ap length c.in_ok-memory.ensures.locals.0 in
    omega (arith, long, none, c.in_ok-memory.memory.locals.ok.0, c.in_ok-memory.ensures.locals.1, c.from-2.ensures, c.requires.fits)

pub unset_rest-requires-clause-fewer : goal.unset_rest-requires-clause-fewer
unset_rest-requires-clause-fewer c =
    let s = c.args.self.now.activation.stack in
    let on = last_are c.deref.result.now s c.args.count c.len.result
    (ap reverse c.deref.ensures.value ∙ ap (λ (f : FrameView). f.activation.stack) c.self.view_is) c.requires.enough
    (c.len.ensures ∙ c.self.inside.stack.ok.0 ∙ ap length (sym c.deref.ensures.value)) in
    let long = ap (λ l. length (locals_of l)) on in
    let none = ap length c.in_ok-memory.ensures.locals.0 in
    let all = ap length c.put_arguments.ensures.items ∙ length-append c.in_ok-memory.memory.locals.items _ in
    omega (arith, all, long, none, c.put_arguments.new.locals.ok.0, c.from-3.ensures, c.requires.fits)

pub returns-clause-begun : goal.returns-clause-begun
returns-clause-begun c =
    let s = c.args.self.now.activation.stack in
    let on = last_are c.deref.result.now s c.args.count c.len.result
    (ap reverse c.deref.ensures.value ∙ ap (λ (f : FrameView). f.activation.stack) c.self.view_is) c.requires.enough
    (c.len.ensures ∙ c.self.inside.stack.ok.0 ∙ ap length (sym c.deref.ensures.value)) in
    is_called c.args.method c.args.max_stack c.args.max_locals (arguments_on c.args.count s) c.from-4.ensures c.from-3.ensures
    c.in_ok-memory.ensures.locals.0
    (c.put_arguments.ensures.items ∙ ap (λ l. c.in_ok-memory.memory.locals.items ++ locals_of l) on) c.unset_rest.ensures
    c.in_ok-memory.ensures.operands.0
