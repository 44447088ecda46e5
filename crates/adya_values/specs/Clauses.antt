-- Rules: when a history is well-formed. Acceptance: when a certificate is accepted.
pub mod Rules
pub mod Acceptance
