pub mod Lists
pub mod Below
pub mod Steps
pub mod Chain
