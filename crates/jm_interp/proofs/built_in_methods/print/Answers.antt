use Rattle.std.proofs.Common.{refl}
use Rattle.jm_interp.proofs.Objects.{lies}
use Rattle.jm_interp.proofs.OnThread.{within, read, with_thread_at}
use Rattle.jm_interp.proofs.PrintRow.{print_faults, print_throws, receiver_object, other_faults, text_held, text_stops, output_back, prints, runs_on}
use Rattle.jm_interp.proofs.StringText.{text_lies}
use Rattle.jm_state.proofs.Runs.{runs_still}
use Rattle.jm_interp.proofs.built_in_methods.print.Goals as goal

pub returns-in-Err-clause-steps : goal.returns-in-Err-clause-steps
returns-in-Err-clause-steps g c = print_faults c.args.method c.requires c.index.ensures c.in-Err.ensures

pub throws-requires : goal.throws-requires
throws-requires g c = c.requires.method

pub returns-in_default-clause-steps : goal.returns-in_default-clause-steps
returns-in_default-clause-steps g c = print_throws c.args.method c.requires c.index.ensures c.in-Ok.ensures c.in_default.is c.null_pointer_exception.ensures c.throws.ensures.does

pub class_of-requires : goal.class_of-requires
class_of-requires g c = lies c.requires.method.on (receiver_object c.args.method c.requires c.index.ensures c.in-Ok.ensures c.in-Some.is)

pub returns-then-not-is_print_stream-clause-steps : goal.returns-then-not-is_print_stream-clause-steps
returns-then-not-is_print_stream-clause-steps g c =
    other_faults c.args.method c.requires c.index.ensures c.in-Ok.ensures c.in-Some.is c.class_of.ensures c.is_print_stream.ensures
    c.if-not-is_print_stream.true

pub print_text-requires : goal.print_text-requires
print_text-requires g c =
    text_lies c.requires.method c.in-Ok.printing.text (text_held c.args.method c.requires c.index.ensures c.in-Ok.ensures)

pub returns-in-Err-print_text-clause-steps : goal.returns-in-Err-print_text-clause-steps
returns-in-Err-print_text-clause-steps g c =
    output_back c.print_text.new.output c.in-Err-print_text.ensures.1
    (text_stops c.args.method c.requires c.index.ensures c.in-Ok.ensures c.in-Some.is c.class_of.ensures c.is_print_stream.ensures
    c.if-not-is_print_stream.false c.in-Err-print_text.ensures.0)

pub index_mut-requires : goal.index_mut-requires
index_mut-requires g c = within c.requires.method.on

pub pop_operands-requires : goal.pop_operands-requires
pop_operands-requires g c = (_, _, _, read c.requires.method.on c.index_mut.ensures.value, c.requires.room)

pub returns-in-Ok-print_text-clause-steps : goal.returns-in-Ok-print_text-clause-steps
returns-in-Ok-print_text-clause-steps g c =
    let gone = c.pop_operands.ensures _ _ _ (read c.requires.method.on c.index_mut.ensures.value) in
    let (said, gives, written) = c.in-Ok-print_text.ensures in
    let output = c.print_text.new.output in
    let new = record (with_thread_at c.args.state.now c.args.at.index c.pop_operands.new.thread) { output = output } in
    prints c.args.method c.requires c.index.ensures c.in-Ok.ensures c.in-Some.is c.class_of.ensures c.is_print_stream.ensures c.if-not-is_print_stream.false
    said gives
    {new =
    new}
    (record { threads = refl; started = refl; statics = refl; literals = refl; monitors = refl; heap = refl; stop = refl }) refl
    (runs_still output.items c.args.state.now.stop (runs_on c.args.method c.requires gone)) gone written
