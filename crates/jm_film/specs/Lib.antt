-- In reading order: what is shown of a world, the events of a run as a film tells them, which of them are shown, and the
-- page of a film.
pub mod Shown
pub mod Runs
pub mod Shots
pub mod FilmPages
