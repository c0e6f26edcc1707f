pub mod Asked
pub mod AskedLaws
pub mod Held
pub mod HeldLaws
pub mod Lent
pub mod LentLaws
pub mod ChangeLaws
pub mod Unique
