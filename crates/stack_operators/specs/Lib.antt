pub mod Rearranged
