-- The step reader, and what it hands out till it stops.
pub mod Reading
pub mod RoundTrip
