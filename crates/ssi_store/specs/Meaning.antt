-- What a store answers, and what its history is, in reading order.
pub mod Courses
pub mod Acts
pub mod Seeing
pub mod Contents
pub mod Tracked
pub mod Replies
pub mod Recording
pub mod Faces
pub mod Sessions
