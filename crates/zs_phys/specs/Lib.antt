pub mod Scope
pub mod Ahead
pub mod Sound
pub mod Handlers
pub mod Turn
