-- Plain functions that compute what the promises mean: the tests of a history's shape, its edges as one list, its
-- faults in the order in which they are reported, and the tests of a certificate.
pub mod Shapes
pub mod EdgeList
pub mod Faults
pub mod Certificates
