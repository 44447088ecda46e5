pub mod Numbers
pub mod ListedMarks
pub mod Maps
pub mod KeyedMarks
pub mod RangedMarks
pub mod LaterMarks
pub mod Compared
pub mod Prefixes
