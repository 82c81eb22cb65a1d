-- Numbers and their bytes; what the calls answer and leave; the round trips.
pub mod Digits
pub mod Answers
pub mod RoundTrips
