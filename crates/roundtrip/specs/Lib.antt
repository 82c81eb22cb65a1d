pub mod Through
pub mod Surveys
