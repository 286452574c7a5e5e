-- What holds of every frame, object and exception of a run, and of the stores of a program.
pub mod LocalsOfRuns
pub mod InstructionsOfRuns
pub mod ObjectsOfRuns
pub mod ExceptionsOfRuns
pub mod StoresOfPrograms
