pub mod Mirror
pub mod Calls
pub mod Refusals
pub mod Steps
