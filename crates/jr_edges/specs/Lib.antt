pub mod Dispatched
