-- What each accepted node keeps, every list of calls keeps (EachNode); so condition 3 of acceptance (Calls).
pub mod EachNode
pub mod Calls
