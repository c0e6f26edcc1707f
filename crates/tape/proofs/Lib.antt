pub mod Kit
pub mod Writing
pub mod Decimal
pub mod Fields
pub mod Places
pub mod Handing
pub mod Running
pub mod Whole
