mod Answering
mod Parts
mod Starting
mod Turns
