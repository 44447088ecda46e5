-- What `order` finds.
pub mod Found
