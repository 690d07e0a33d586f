pub mod Journal
pub mod Lane
pub mod Children
