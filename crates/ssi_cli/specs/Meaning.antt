-- What the promises of connections that are served together mean.
pub mod Users
