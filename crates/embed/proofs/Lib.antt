pub mod Closings
pub mod Readings
pub mod Places
