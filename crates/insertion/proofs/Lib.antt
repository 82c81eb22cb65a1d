-- From tests to refusals and answers; what an accepted node keeps; the list, node by node; looks, and insertions with marks.
pub mod Refusals
pub mod Admission
pub mod Acceptance
pub mod Growing
pub mod Steps
pub mod Leaving
pub mod Looking
