-- The tests of two forms as they are made.
pub mod Tests
