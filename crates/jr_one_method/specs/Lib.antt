pub mod OneMethod
