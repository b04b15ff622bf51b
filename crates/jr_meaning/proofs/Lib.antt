mod Nears
mod Likeness
mod Holds
mod Loops
mod Firsts
mod Bodies
