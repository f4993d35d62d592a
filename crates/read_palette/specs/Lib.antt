pub mod Pclr
