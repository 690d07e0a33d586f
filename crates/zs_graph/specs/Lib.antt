pub mod View
pub mod ByIndex
pub mod Climbing
pub mod Refusals
pub mod Made
pub mod Frees
pub mod Freeing
