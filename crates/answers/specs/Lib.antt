pub mod Answering
pub mod AnsweringLaws
pub mod GroundsLaws
pub mod Starting
pub mod StartingLaws
pub mod InstallingLaws
pub mod Unique
