-- In reading order: bytes as they stand in the data, what leads from one view to the next, the lines of the data, a film
-- that is being written, the rows that stand still, and what stands in a writer of a page after a call.
pub mod Escapes
pub mod Sections
pub mod Data
pub mod Filming
pub mod Listings
pub mod Writing
