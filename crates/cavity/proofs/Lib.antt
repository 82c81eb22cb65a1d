-- The tests as facts, the growth and the correction as definitions, and the loops that compute them.
pub mod Tests
pub mod Correction
pub mod Growth
pub mod Answering
pub mod Gathering
pub mod Visiting
pub mod Marking
pub mod Rounds
pub mod Removal
pub mod Clearing
