-- Crossing and turning; the star at any numbers and the mesh that it leaves; at those of document 02 §11, with the chain; then what the code
-- does: the order and numbers of new cells, the faces in turn, the freed cells, and all of it.
pub mod Cross
pub mod Turn
pub mod Edge
pub mod FaceSums
pub mod Numbered
pub mod NewFaces
pub mod NewMesh
pub mod Points
pub mod Star
pub mod Freeing
pub mod Inserting
pub mod Fours
pub mod Codes
pub mod Around
pub mod Slots
pub mod Done
pub mod Filled
pub mod Rising
pub mod Sorting
pub mod Taking
pub mod InTurn
pub mod NewPoint
pub mod Freed
pub mod Replaced
