-- Text written piece by piece; how long a listing is; from the calls' answers to the text.
pub mod Putting
pub mod Lengths
pub mod Answering
