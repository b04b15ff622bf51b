pub mod StandApart
pub mod Lexed
