pub mod Free
pub mod Runs
pub mod Kept
pub mod Space
