-- The float of bits, and the bits of a float; and the laws that each undoes the other.
pub mod Floats
pub mod Laws
