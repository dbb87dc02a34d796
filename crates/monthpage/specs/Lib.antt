pub mod Caps
pub mod Lines
pub mod Pages
pub mod Printing
