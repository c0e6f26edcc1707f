pub mod Conditions
pub mod Grounds
pub mod Entries
