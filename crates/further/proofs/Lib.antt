pub mod Searches
pub mod Orders
pub mod Stops
pub mod Lists
pub mod Receipts
