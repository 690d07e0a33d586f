pub mod View
pub mod Kept
pub mod Steps
pub mod Walks
pub mod Covered
pub mod Flight
pub mod Changes
