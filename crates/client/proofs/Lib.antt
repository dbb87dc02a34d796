pub mod Clearing
pub mod Noting
pub mod Prompts
pub mod Transcripts
