pub mod Ihdr
pub mod Bpcc
