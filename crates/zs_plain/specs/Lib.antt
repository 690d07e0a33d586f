pub mod Tests
pub mod AheadTests
pub mod Below
pub mod TurnTests
pub mod SoundTests
pub mod TreeTests
pub mod BlockTests
pub mod ValidTests
