pub mod Build
pub mod Set
pub mod Joining
