pub mod Bytes
pub mod Staged
pub mod Done
pub mod Needed
