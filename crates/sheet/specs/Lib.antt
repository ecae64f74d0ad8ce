pub mod Sinks
pub mod Text
pub mod Headings
pub mod Closings
pub mod Scoring
pub mod Faults
pub mod Scores
pub mod Sheets
