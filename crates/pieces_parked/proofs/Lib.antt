-- The parked head.
pub mod Head
