-- Document 01's layout is a star at its own numbers (Packed), and shares definitions (Shared). Two meshes alike (Alike) have cavities, turns and stars alike;
-- so have they reports, marks and located cells. Then a node, each call and a start in both layouts, bytes that follow their cells, and the theorem.
pub mod Packed
pub mod Shared
pub mod Alike
pub mod Cavities
pub mod Turns
pub mod Stars
pub mod Reports
pub mod Marks
pub mod Locating
pub mod Nodes
pub mod Insertions
pub mod Looking
pub mod Lists
pub mod Starts
pub mod Bytes
pub mod Theorem
