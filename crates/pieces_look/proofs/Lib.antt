-- Looks in small boxes.
pub mod Look
