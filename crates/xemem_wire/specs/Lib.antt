pub mod Table
pub mod Fields
pub mod Spelling
pub mod Faults
pub mod Stream
pub mod Decoding
pub mod Kept
