mod Ascii
mod Entering
mod Failing
