-- What the promises mean. A reading order:
-- Histories: what list-append histories are made of, as plain values.
-- Runs: transactions that run one after the other, and when an order of them explains a history.
-- Reads: what single reads of a history say.
-- Reasons: which transactions have to come before which, and why no order explains a history.
pub mod Histories
pub mod Runs
pub mod Reads
pub mod Reasons
