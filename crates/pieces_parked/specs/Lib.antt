-- A head parked on a face.
pub mod Head
