-- What a list leaves in a started box; a file through a mesh and back; two surveys in one mesh.
pub mod StartedList
pub mod ThroughAMesh
pub mod Surveys
