pub mod Begun
pub mod Nests
pub mod Named
pub mod Firsts
pub mod Bodies
