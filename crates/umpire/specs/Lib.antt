pub mod Sums
pub mod Faults
pub mod Calls
pub mod States
pub mod Runs
pub mod Mirror
pub mod Promises
pub mod Matches
