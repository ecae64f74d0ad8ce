pub mod Formats
pub mod Table
pub mod Models
pub mod Cases
