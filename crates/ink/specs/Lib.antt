pub mod Ink
