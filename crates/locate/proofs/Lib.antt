-- Side codes; sorted corners and the cell that comes first; and what a call answers from its tests.
pub mod Codes
pub mod Order
pub mod First
pub mod Finding
