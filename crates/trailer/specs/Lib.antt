pub mod Trailer
