pub mod AppendedElements
