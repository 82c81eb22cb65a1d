-- The two even nodes.
pub mod Even
