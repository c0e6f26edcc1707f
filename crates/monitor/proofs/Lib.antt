pub mod Sizes
pub mod Receivers
pub mod Kit
