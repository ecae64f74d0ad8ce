pub mod Boards
pub mod Commands
pub mod Ready
pub mod Sessions
pub mod Starts
pub mod Texts
