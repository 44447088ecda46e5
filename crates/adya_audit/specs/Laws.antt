-- What follows from the definitions.
-- Verdicts: of a history and a certificate. Texts: of their texts.
pub mod Verdicts
pub mod Texts
