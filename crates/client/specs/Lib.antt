pub mod Acting
pub mod Handing
pub mod Prompts
pub mod Runs
pub mod Sending
pub mod Telling
