-- Which text a log has, and what a crash leaves of it.
pub mod Texts
pub mod Crashes
