pub mod Clips
pub mod Served
pub mod Standing
pub mod Carrying
pub mod Ran
pub mod OneStep
