-- Checked: the history of a checked one. Faults: what a refusal says.
pub mod Checked
pub mod Faults
