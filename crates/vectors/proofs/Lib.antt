mod Copies
mod Spelled
