-- LineNumbers: the order lines of keys, by the numbers of the keys.
pub mod LineNumbers
