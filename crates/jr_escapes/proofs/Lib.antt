pub mod Outside
