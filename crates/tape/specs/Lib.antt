pub mod Written
pub mod Reading
pub mod Filled
pub mod FilledLaws
pub mod Ran
pub mod Unique
