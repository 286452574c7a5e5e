-- What is said of each number, by number.
use Rattle.std.specs.Prelude.{List, [], ◌∷◌, ◌++◌, Option, Some, None, codes}
use Rattle.jm_explain.specs.Items.{Item, Text, item_text, list_of}

unfoldable pub statuses : List Item
statuses =
    record { number = 0; name = codes "status"; names = []; meaning = codes "each Java thread has returned, or the command did what it was asked for"; example = codes "`jm run sum.class` prints 5 and ends with status 0."; advice = codes "There is nothing to do." } ∷
    record { number = 1; name = codes "BadDescriptor; status 1"; names = codes "BadDescriptor" ∷ []; meaning = codes "a text that is to be a type is none, or has too many slots or dimensions; as a status, the command line was refused"; example = codes "`.field x Q` in an assembler text, since no type begins with Q. As a status: `jm rum Main.class`, since there is no such command."; advice = codes "In a text mend the type on that line; a class file compile again by `javac --release 8`. The words of a command are shown by `jm help COMMAND`, which has status 1 too." } ∷
    record { number = 2; name = codes "BadName; status 2"; names = codes "BadName" ∷ []; meaning = codes "a text that is to be a name is none; as a status, a file could not be read, or the output not be written"; example = codes "`.class a//b` in an assembler text, since a part of the name is empty. As a status: `jm: Nowhere.class: not read` for a file that is not there."; advice = codes "In a text mend the name on that line; a class file compile again by `javac --release 8`. For the status look at the names of the files, at the right to read them, and at the room for the output." } ∷
    record { number = 3; name = codes "status"; names = []; meaning = codes "a Java thread was ended by an exception that nothing caught"; example = codes "`jm: thread 1 ended by java/lang/ArithmeticException`, for a division by zero."; advice = codes "Catch the exception, or mend what throws it. `jm why` with the same files tells where it was thrown and what was found there; `jm debug` shows the program at any event before it." } ∷
    record { number = 4; name = codes "status"; names = []; meaning = codes "assembling, reading, linking or loading was refused, or `dis` met a part that its text cannot say"; example = codes "`jm: 51 NoClass(java/lang/StringBuilder)`, for a program that joins strings by `+`."; advice = codes "Take the number of the line on standard error, here 51, and ask `jm explain 51`." } ∷
    record { number = 5; name = codes "status"; names = []; meaning = codes "the machine stopped at an instruction that cannot be made: 60 TagFault"; example = codes "`jm: 60 TagFault(Overflow)`, for a text whose `.limit stack` is too small."; advice = codes "Ask `jm explain 60`." } ∷
    record { number = 6; name = codes "status"; names = []; meaning = codes "the machine stopped because its heap was full, or because no more objects could be numbered: 62 HeapFull, 64 SerialsEnd"; example = codes "`jm: 62 HeapFull`, for a program that keeps more objects than `--heap` allows."; advice = codes "Ask `jm explain 62`." } ∷
    record { number = 7; name = codes "status"; names = []; meaning = codes "the system refused memory: 61 OutOfMemory"; example = codes "`jm: 61 OutOfMemory`, in a process whose memory is limited."; advice = codes "Ask `jm explain 61`." } ∷
    record { number = 8; name = codes "status"; names = codes "deadlock" ∷ codes "cut" ∷ []; meaning = codes "a Java thread had not ended when the last event was made"; example = codes "`jm run --steps 8 sum.class` ends with `jm: 1 threads not ended`, since the program takes nine events."; advice = codes "Allow more events by `--steps`, up to 10000000, or lengthen the schedule. Threads that wait for each other never end: `jm why` tells where each stands and, if its last event was blocked, who has what it waits for. A schedule that `explore` found has no blocked event: write `t N` behind it for each such thread N. `jm debug` shows the program at any event." } ∷
    record { number = 9; name = codes "status"; names = []; meaning = codes "the schedule or the record was refused: 70 BadSchedule, 71 ReplayDiffers"; example = codes "`jm: 70 BadSchedule(2)`, for a schedule whose second line spells no event."; advice = codes "Ask `jm explain 70`." } ∷
    []

unfoldable pub instructions : List Item
instructions =
    record { number = 10; name = codes "BadOpcode(at); status 10"; names = codes "BadOpcode" ∷ []; meaning = codes "at this byte of a method's code stands no instruction; as a status, the schedules that `explore` tried come to more than one outcome"; example = codes "The byte 203, which is the opcode of no instruction. As a status: two threads that raise a counter without a lock, of which one count is lost in some schedules."; advice = codes "No compiler writes such code, so the file is damaged: compile its source again by `javac --release 8`. For the status look at an outcome that is not wanted: `jm explore --outcome N` writes its schedule for `jm run --schedule`." } ∷
    record { number = 11; name = codes "LeftOut(name); status 11"; names = codes "LeftOut" ∷ []; meaning = codes "the code has an instruction that this machine leaves out; as a status, `explore` found one outcome, and has not tried all schedules"; example = codes "11 LeftOut(fconst_1) for `float f = 1;`, since there are no floats and no doubles here. As a status: `not complete: stopped after 1000000 runs`."; advice = codes "Use int and long in place of float and double. Then compile by `javac --release 8`. For the status give more `--runs`, or fewer `--switches`." } ∷
    record { number = 12; name = codes "Cut(at)"; names = codes "Cut" ∷ []; meaning = codes "the code of a method ends inside the instruction at this byte"; example = codes "A method whose last byte is the opcode of `bipush`, with no number behind it."; advice = codes "No compiler writes such code, so the file is damaged: compile its source again by `javac --release 8`." } ∷
    record { number = 13; name = codes "BadTarget"; names = codes "BadTarget" ∷ []; meaning = codes "a branch or a switch leads to a place where no instruction begins"; example = codes "A `goto` to the byte behind its own opcode, which is its own operand."; advice = codes "No compiler writes such code, so the file is damaged: compile its source again by `javac --release 8`." } ∷
    record { number = 14; name = codes "BranchTooFar"; names = codes "BranchTooFar" ∷ []; meaning = codes "a branch is longer than its field in a class file can say"; example = codes "An `ifeq` to a label that is more than 32767 bytes of code away."; advice = codes "Branch on the opposite condition around a `goto_w` to the label, or divide the method into several." } ∷
    record { number = 15; name = codes "CodeTooLong"; names = codes "CodeTooLong" ∷ []; meaning = codes "a method has more than 65535 bytes of code"; example = codes "A text with 70000 times `nop` in one method."; advice = codes "Divide the method into several." } ∷
    []

unfoldable pub pools : List Item
pools =
    record { number = 20; name = codes "BadTag(tag)"; names = codes "BadTag" ∷ []; meaning = codes "the constant pool of a class file has an entry of a kind that there is not"; example = codes "20 BadTag(2), since no kind of constant has the tag 2."; advice = codes "No compiler for Java 8 writes such a file, so it is damaged: compile its source again by `javac --release 8`." } ∷
    record { number = 21; name = codes "BadIndex(index)"; names = codes "BadIndex" ∷ []; meaning = codes "a class file names a constant that is not there, or is of another kind"; example = codes "21 BadIndex(0) where the class's own name is the constant 0, which there never is."; advice = codes "No compiler writes such a file, so it is damaged: compile its source again by `javac --release 8`." } ∷
    record { number = 22; name = codes "BadUtf8"; names = codes "BadUtf" ∷ []; meaning = codes "a text in a class file is not encoded as class files encode texts"; example = codes "A name with the byte 0 in it."; advice = codes "No compiler writes such a file, so it is damaged: compile its source again by `javac --release 8`." } ∷
    record { number = 23; name = codes "PoolFull"; names = codes "PoolFull" ∷ []; meaning = codes "a class needs more constants than a class file can hold"; example = codes "A text with 40000 different strings, of which each takes two of the 65534 constants."; advice = codes "Divide the class into several." } ∷
    record { number = 24; name = codes "Cut"; names = codes "Cut" ∷ []; meaning = codes "a class file ends inside its constant pool"; example = codes "A file of which only the first 20 bytes were copied."; advice = codes "Copy the file again, or compile its source again by `javac --release 8`." } ∷
    []

unfoldable pub class_files : List Item
class_files =
    record { number = 30; name = codes "Magic"; names = codes "Magic" ∷ []; meaning = codes "a file does not begin as class files do, with the bytes CA FE BA BE"; example = codes "`jm run Main.java`, `jm run program.jar`, or an assembler text whose name does not end in `.j`."; advice = codes "Compile a source by `javac --release 8 Main.java`. Unpack a jar by `jar xf program.jar`, and give the class files that were in it. The name of an assembler text ends in `.j`." } ∷
    record { number = 31; name = codes "Version"; names = codes "Version" ∷ []; meaning = codes "a class file is of a version that is not from 45.0 to 52.0"; example = codes "A class that `javac` of Java 17 compiled without `--release`, which is of version 61.0."; advice = codes "Compile by `javac --release 8`, which writes version 52.0." } ∷
    record { number = 32; name = codes "Cut"; names = codes "Cut" ∷ []; meaning = codes "a class file ends inside the class, behind its constant pool"; example = codes "A class file without its last byte."; advice = codes "Copy the file again, or compile its source again by `javac --release 8`." } ∷
    record { number = 33; name = codes "Trailing"; names = codes "Trailing" ∷ []; meaning = codes "a class file goes on behind the class"; example = codes "Two class files that were written into one file, one behind the other."; advice = codes "Give each class in a file of its own." } ∷
    record { number = 34; name = codes "BadAttribute"; names = codes "BadAttribute" ∷ []; meaning = codes "a part of a class file breaks the rules that it has to keep"; example = codes "An abstract method that has code all the same."; advice = codes "No compiler writes such a file, so it is damaged: compile its source again by `javac --release 8`." } ∷
    record { number = 35; name = codes "LeftOut(name)"; names = codes "LeftOut" ∷ []; meaning = codes "a class has a part that this machine leaves out"; example = codes "35 LeftOut(Double) for a constant of type double, 35 LeftOut(native) for a native method, 35 LeftOut(interface method) for a method with code in an interface."; advice = codes "Use int and long in place of float and double, and a class in place of a lambda. Leave out native methods, `finalize()`, methods that are static and synchronized, and code in interfaces. Then compile by `javac --release 8`." } ∷
    record { number = 36; name = codes "TooMany"; names = codes "TooMany" ∷ []; meaning = codes "a count or a length is larger than its field in a class file can say"; example = codes "A string in a text that takes more than 65535 bytes."; advice = codes "Divide the string, the method or the class that is too large." } ∷
    []

unfoldable pub assembler_texts : List Item
assembler_texts =
    record { number = 40; name = codes "BadToken(line)"; names = codes "BadToken" ∷ []; meaning = codes "a line of an assembler text cannot be parted into words and strings, or is not UTF-8"; example = codes "A string without its closing quote."; advice = codes "Mend the line of this number, which is counted from 1." } ∷
    record { number = 41; name = codes "Syntax(line)"; names = codes "Syntax" ∷ []; meaning = codes "a line of an assembler text is none that the assembler knows at that place"; example = codes "`bipush 128`, since the number of `bipush` is from -128 to 127."; advice = codes "Mend the line of this number, which is counted from 1: look at the spelling, at the operands and at the range of the number. A text that is too short is refused at its last line." } ∷
    record { number = 42; name = codes "DuplicateLabel(line)"; names = codes "DuplicateLabel" ∷ []; meaning = codes "a label stands for the second time in its method"; example = codes "`Loop:` on two lines of one method."; advice = codes "Give the label on the line of this number another name." } ∷
    record { number = 43; name = codes "NoLabel(line)"; names = codes "NoLabel" ∷ []; meaning = codes "a label is used that its method has not"; example = codes "`goto End` in a method without a line `End:`."; advice = codes "Write the label where it belongs, or mend its name on the line of this number." } ∷
    record { number = 45; name = codes "BadCount(line)"; names = codes "BadCount" ∷ []; meaning = codes "a number or a range in an assembler text does not fit what it counts"; example = codes "A method with two arguments and no `.limit locals`, since it then has one local variable."; advice = codes "Mend the line of this number: give `.limit locals` room for the arguments, a range an instruction, `invokeinterface` the slots of its arguments, `multianewarray` no more dimensions than its type has, and let the keys of a switch rise." } ∷
    record { number = 46; name = codes "LeftOut(name)"; names = codes "LeftOut" ∷ []; meaning = codes "an assembler text has a part that this machine leaves out"; example = codes "46 LeftOut(float) for `ldc 1.5`, 46 LeftOut(.stack) for a stack map."; advice = codes "Take the part out of the text. There are no floats, no doubles, no `jsr`, no `invokedynamic`, and a branch leads to a label." } ∷
    []

unfoldable pub links : List Item
links =
    record { number = 50; name = codes "DuplicateClass(name)"; names = codes "DuplicateClass" ∷ []; meaning = codes "two files hold classes of one name, or a file holds a class that is built in"; example = codes "`jm run Main.class Main.class`."; advice = codes "Give each class once, and give a class of your own another name than those of `jm explain 51`." } ∷
    record { number = 51; name = codes "NoClass(name)"; names = codes "NoClass" ∷ []; meaning = codes "a class is named that no file holds and that is not built in"; example = codes "51 NoClass(java/lang/StringBuilder) for a program that joins strings by `+`, which `javac` makes into calls of that class."; advice = codes "Give the file of the class too: `jm run Main.class Other.class`. Built in are Object, String, System, PrintStream, Thread, Cloneable, Serializable, and the exceptions that instructions throw. In place of joining strings print one part after the other by `System.out.print`." } ∷
    record { number = 52; name = codes "Cycle(name)"; names = codes "Cycle" ∷ []; meaning = codes "a class or an interface stands above itself"; example = codes "`.class A` with `.super A`."; advice = codes "Mend the superclass or the interfaces of the class. Compile all classes together by `javac --release 8`." } ∷
    record { number = 53; name = codes "NoField(name)"; names = codes "NoField" ∷ []; meaning = codes "a field is named that its class and the classes and interfaces above it have not"; example = codes "`getstatic Main/x I` where Main has no field x of type int."; advice = codes "Compile all classes together by `javac --release 8`. Of the built-in classes a program has one field, `System.out`." } ∷
    record { number = 54; name = codes "NoMethod(name)"; names = codes "NoMethod" ∷ []; meaning = codes "a method is named that its class and the classes and interfaces above it have not"; example = codes "54 NoMethod(println) for `System.out.println(true)`, since there is no println of a boolean."; advice = codes "Compile all classes together by `javac --release 8`, and of the built-in classes call only what there is. `System.out` has print and println of char, int, long and String, and println of nothing; String has length and charAt; Thread has start and run; each constructor is without arguments." } ∷
    record { number = 55; name = codes "WrongKind(name)"; names = codes "WrongKind" ∷ []; meaning = codes "a class or a member is used as what it is not"; example = codes "`new java/lang/Cloneable`, since no object of an interface can be made; a static method that is invoked as an instance method."; advice = codes "Compile all classes together by `javac --release 8`. String, System and PrintStream are neither extended nor made by `new`, and nothing is stored to `System.out`." } ∷
    record { number = 56; name = codes "NoMain"; names = codes "NoMain" ∷ []; meaning = codes "the first class has no static method main with code"; example = codes "`jm run Helper.class Main.class`, where main is in Main."; advice = codes "Give the file first whose class declares `public static void main(String[] args)`: `jm run Main.class Helper.class`." } ∷
    record { number = 57; name = codes "DuplicateMember(name)"; names = codes "DuplicateMember" ∷ []; meaning = codes "a class declares two fields or two methods of one name and type"; example = codes "`.field x I` twice in one text."; advice = codes "Take one of them out, or give it another name." } ∷
    []

unfoldable pub runs : List Item
runs =
    record { number = 60; name = codes "TagFault(kind)"; names = codes "TagFault" ∷ codes "WrongTag" ∷ codes "Underflow" ∷ codes "Overflow" ∷ codes "BadLocal" ∷ codes "NoInstruction" ∷ codes "MonitorCount" ∷ []; meaning = codes "the run stops, since an instruction meets what no verified code would give it"; example = codes "60 TagFault(Overflow) for a text that pushes two numbers and has no `.limit stack`, since it then has room for one."; advice = codes "Overflow: make `.limit stack` larger, where a long counts twice. BadLocal: make `.limit locals` larger, or store to the variable before it is read. Underflow, WrongTag and WrongKind: look at what stands on the stack before the instruction. NoInstruction: let the code not run past its end. MonitorCount: one thread has entered a monitor too often." } ∷
    record { number = 61; name = codes "OutOfMemory"; names = codes "OutOfMemory" ∷ []; meaning = codes "the system refused memory to the machine itself"; example = codes "A process whose memory is limited, as by `ulimit -v`."; advice = codes "Give the process more memory, or let the program use less: fewer threads, fewer frames, less output. `--heap` bounds the objects alone." } ∷
    record { number = 62; name = codes "HeapFull"; names = codes "HeapFull" ∷ []; meaning = codes "the run stops, since the reachable objects and the one that is asked for pass the limit of the heap"; example = codes "`jm run --heap 18 RingAndALongerArray.j N.j`."; advice = codes "Give the heap more cells by `--heap`, up to 16777216, or let go of objects. Garbage never counts, and `--show-heap` shows what was still reachable." } ∷
    record { number = 63; name = codes "HeapTooSmall"; names = codes "HeapTooSmall" ∷ []; meaning = codes "the objects that stand before the first event pass the limit of the heap"; example = codes "A program with many different strings under `--heap 16`."; advice = codes "Give the heap more cells by `--heap`, up to 16777216." } ∷
    record { number = 64; name = codes "SerialsEnd"; names = codes "SerialsEnd" ∷ []; meaning = codes "the run stops, since more than 2^63 objects would have been made"; example = codes "No run that a person has the time to wait for."; advice = codes "There is nothing to do." } ∷
    record { number = 65; name = codes "SeatsMissing"; names = codes "SeatsMissing" ∷ []; meaning = codes "not all seats of a shared machine were handed back"; example = codes "A program over the machine's own libraries that ends a shared machine while a worker still has a seat."; advice = codes "Hand back every seat first. No command of `jm` says this." } ∷
    []

unfoldable pub sessions : List Item
sessions =
    record { number = 70; name = codes "BadSchedule(line)"; names = codes "BadSchedule" ∷ []; meaning = codes "a line of the schedule spells no event, or is the one at which they pass 10000000"; example = codes "`t 1x3`, since the line is to be `t 1 x 3`."; advice = codes "Mend the line of this number, which is counted from 1. A line is `t N`, `t N x K`, `minor`, `full`, a comment behind `#`, or empty." } ∷
    record { number = 71; name = codes "ReplayDiffers(line)"; names = codes "ReplayDiffers" ∷ []; meaning = codes "a reply is of another kind than the record of the run has"; example = codes "`jm: 71 ReplayDiffers(3)`, where the third line of the record was changed."; advice = codes "Give `jm replay` the record as it was written, with the classes and the `--heap` of that run." } ∷
    record { number = 80; name = codes "BadCommand"; names = codes "BadCommand" ∷ []; meaning = codes "a line is no command of the debugger, or is not UTF-8"; example = codes "`brake Main.main()V:0`, which is answered by `? 80 BadCommand`."; advice = codes "Write a command as it is: break, clear, step, minor, full, continue, where, locals, stack, statics, object, heap or monitors, with one blank between words." } ∷
    record { number = 81; name = codes "NoSuch"; names = codes "NoSuch" ∷ []; meaning = codes "a thread, frame, class, method, instruction, object or outcome is named that there is not, or that is not reachable"; example = codes "`where 9` in a program with one thread, which is answered by `? 81 NoSuch`."; advice = codes "Look first what there is: `where 1` has the frames of thread 1, `heap` the objects that are reachable, and `jm explore` without `--outcome` the outcomes." } ∷
    record { number = 90; name = codes "NoText(part)"; names = codes "NoText" ∷ []; meaning = codes "a class has a part that a text of `dis` cannot say; the text is written all the same"; example = codes "90 NoText(class: flags) for a class without the flag that `.class` always sets."; advice = codes "Read the text as it is: a mark stands before what has that part. It does not denote the class: most such parts no assembler text can say." } ∷
    []

unfoldable pub items : List Item
items = ((((((statuses ++ instructions) ++ pools) ++ class_files) ++ assembler_texts) ++ links) ++ runs) ++ sessions

-- what is said of a number, or where none is asked for the list
unfoldable pub explained : Option Item → Text
explained (Some i) = item_text i
explained None = list_of items
