pub mod Cutting
pub mod Gaps
pub mod Joined
pub mod Merging
pub mod Rises
pub mod Unique
