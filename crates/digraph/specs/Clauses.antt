-- Paths, cycles and orders of a graph.
pub mod Graphs
