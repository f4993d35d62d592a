pub mod Cmap
pub mod Cdef
pub mod Definitions
